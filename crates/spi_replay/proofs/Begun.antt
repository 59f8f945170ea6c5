-- The ready steps place by place.
use Rattle.std.proofs.Common.{◌≡◌, ℕ, zero, suc, ◌+◌, ◌*◌, ◌^◌, ◌<◌, ◌≤◌, Bool, true, false, List, [], ◌∷◌, ◌++◌, length, take, Option, Some, None, slice_get, refl, sym, ap, ◌∙◌, subst, arith, eq-eqb, append_assoc, length-append}
use Rattle.std.specs.Prelude.{if◌then◌else◌, ◌==◌}
use Rattle.std.proofs.lemmas.Bool.{eqb-true}
use Rattle.std.proofs.Math.Nat.{mul-le-mul_left}
use Rattle.std.proofs.Math.Seq.{take-length}
use Rattle.spi_term.specs.Lists.{In, in_first, in_later}
use Rattle.spi_term.specs.Term.{Message, Process}
use Rattle.spi_term.proofs.Lists.{get_some, some_is}
use Rattle.spi_run.specs.Reduction.{Configuration, Step, act, talk}
use Rattle.spi_replay.specs.Ready.{first_place, count_at}
use Rattle.spi_replay.specs.Listing.{acts_now, puts_on, takes_on, is_channel, talks_to, talks_of, steps_at, steps_from, ready_steps, steps_by, steps_begun, steps_before}
use Rattle.spi_replay.proofs.Listed.{first_at, first_from}

-- how many begin at a place
abbrev hit : Bool → ℕ
hit z = if z then 1 else 0

count_append : (i : ℕ) (xs ys : List Step) → count_at i (xs ++ ys) ≡ count_at i xs + count_at i ys
count_append i [] ys = let e : count_at i ys ≡ 0 + count_at i ys = omega arith in e
count_append i (x ∷ xs) ys = let h = count_append i xs ys in omega (arith, h)

count_all : (i : ℕ) (xs : List Step) → ((s : Step) → In s xs → first_place s ≡ i) → count_at i xs ≡ length xs
count_all i [] h = refl
count_all i (x ∷ xs) h =
    let e = eq-eqb (first_place x) i (h x in_first) in
    let f : count_at i xs ≡ length xs = count_all i xs (λ s k. h s (in_later k)) in
    let g : hit (first_place x == i) ≡ 1 = ap hit e in
    omega (arith, f, g)

count_none : (i : ℕ) (xs : List Step) → ((s : Step) → In s xs → first_place s ≡ i → ⊥) → count_at i xs ≡ 0
count_none i [] h = refl
count_none i (x ∷ xs) h =
    let f : count_at i xs ≡ 0 = count_none i xs (λ s k. h s (in_later k)) in
    let g : hit (first_place x == i) ≡ 0 = ap hit (apart (first_place x == i) refl) in
    omega (arith, f, g)
  where
    apart : (z : Bool) → (first_place x == i) ≡ z → z ≡ false
    apart true e = absurd (h x in_first (eqb-true (first_place x) i e))
    apart false e = refl

count_from : (all : List Process) (j k : ℕ) (ps : List Process) (p : Process) → slice_get ps k ≡ Some p → count_at (j + k) (steps_from all j ps) ≡ length (steps_at all (j + k) p)
count_from all j k [] p e = absurd cc
count_from all j zero (q ∷ ps) p e =
    let z : j + 0 ≡ j = omega arith in
    let a = count_append j (steps_at all j q) (steps_from all (suc j) ps) in
    let b = count_all j (steps_at all j q) (λ s h. first_at all j q s h) in
    let c = count_none j (steps_from all (suc j) ps) (λ s h g. let f = first_from all (suc j) ps s h in omega (arith, f, g)) in
    let d : count_at j (steps_from all j (q ∷ ps)) ≡ length (steps_at all j q) = omega (arith, a, b, c) in
    subst (λ n. count_at n (steps_from all j (q ∷ ps)) ≡ length (steps_at all n p)) (sym z) (d ∙ ap (λ x. length (steps_at all j x)) (some_is e))
count_from all j (suc k) (q ∷ ps) p e =
    let z : suc j + k ≡ j + suc k = omega arith in
    let a = count_append (j + suc k) (steps_at all j q) (steps_from all (suc j) ps) in
    let b = count_none (j + suc k) (steps_at all j q) (λ s h g. let f = first_at all j q s h in omega (arith, f, g)) in
    let c : count_at (j + suc k) (steps_from all (suc j) ps) ≡ length (steps_at all (j + suc k) p) = subst (λ n. count_at n (steps_from all (suc j) ps) ≡ length (steps_at all n p)) z (count_from all (suc j) k ps p e) in
    omega (arith, a, b, c)

pub count_begun : (c : Configuration) (i : ℕ) → i < length c.places → length (steps_begun c i) ≡ count_at i (ready_steps c)
unfolding steps_begun
count_begun c i h =
    let w = get_some c.places i h in
    let z : 0 + i ≡ i = omega arith in
    let e : count_at i (steps_from c.places 0 c.places) ≡ length (steps_at c.places i w.0) = subst (λ n. count_at n (steps_from c.places 0 c.places) ≡ length (steps_at c.places n w.0)) z (count_from c.places 0 i c.places w.0 w.1) in
    ap (λ o. length (steps_by c.places i o)) w.1 ∙ sym e

-- a place more
append_nil : (xs : List Step) → xs ++ [] ≡ xs
append_nil [] = refl
append_nil (x ∷ xs) = ap (λ ss. x ∷ ss) (append_nil xs)

from_take : (all : List Process) (j k : ℕ) (ps : List Process) (p : Process) → slice_get ps k ≡ Some p → steps_from all j (take (suc k) ps) ≡ steps_from all j (take k ps) ++ steps_at all (j + k) p
from_take all j k [] p e = absurd cc
from_take all j zero (q ∷ ps) p e =
    let z : j ≡ j + 0 = omega arith in
    append_nil (steps_at all j q) ∙ ap (λ x. steps_at all j x) (some_is e) ∙ ap (λ n. steps_at all n p) z
from_take all j (suc k) (q ∷ ps) p e =
    let z : suc j + k ≡ j + suc k = omega arith in
    ap (λ ss. steps_at all j q ++ ss) (from_take all (suc j) k ps p e ∙ ap (λ n. steps_from all (suc j) (take k ps) ++ steps_at all n p) z) ∙ sym (append_assoc (steps_at all j q) (steps_from all (suc j) (take k ps)) (steps_at all (j + suc k) p))

from_rest : (all : List Process) (j k : ℕ) (ps : List Process) → (rest : List Step) × (steps_from all j ps ≡ steps_from all j (take k ps) ++ rest)
from_rest all j k [] = by k
  where
    by : (n : ℕ) → (rest : List Step) × (steps_from all j [] ≡ steps_from all j (take n []) ++ rest)
    by zero = ([], refl)
    by (suc n) = ([], refl)
from_rest all j zero (q ∷ ps) = (steps_from all j (q ∷ ps), refl)
from_rest all j (suc k) (q ∷ ps) =
    let w = from_rest all (suc j) k ps in
    (w.0, ap (λ ss. steps_at all j q ++ ss) w.1 ∙ sym (append_assoc (steps_at all j q) (steps_from all (suc j) (take k ps)) w.0))

pub before_none : (c : Configuration) → steps_before c 0 ≡ []
unfolding steps_before
before_none c = refl

pub before_more : (c : Configuration) (i : ℕ) → i < length c.places → steps_before c (suc i) ≡ steps_before c i ++ steps_begun c i
unfolding steps_before steps_begun
before_more c i h =
    let w = get_some c.places i h in
    let z : 0 + i ≡ i = omega arith in
    from_take c.places 0 i c.places w.0 w.1 ∙ ap (λ n. steps_from c.places 0 (take i c.places) ++ steps_at c.places n w.0) z ∙ ap (λ o. steps_from c.places 0 (take i c.places) ++ steps_by c.places i o) (sym w.1)

pub before_all : (c : Configuration) → steps_before c (length c.places) ≡ ready_steps c
unfolding steps_before
before_all c = ap (λ ps. steps_from c.places 0 ps) (take-length c.places)

before_rest : (c : Configuration) (i : ℕ) → (rest : List Step) × (ready_steps c ≡ steps_before c i ++ rest)
unfolding steps_before
before_rest c i = from_rest c.places 0 i c.places

pub length_more : (c : Configuration) (i : ℕ) → i < length c.places → length (steps_before c (suc i)) ≡ length (steps_before c i) + length (steps_begun c i)
length_more c i h = ap length (before_more c i h) ∙ length-append (steps_before c i) (steps_begun c i)

-- the step with a number
get_left : (xs ys : List Step) (j : ℕ) → j < length xs → slice_get (xs ++ ys) j ≡ slice_get xs j
get_left [] ys j h = absurd (omega arith)
get_left (x ∷ xs) ys zero h = refl
get_left (x ∷ xs) ys (suc j) h = get_left xs ys j (omega arith)

get_right : (xs ys : List Step) (j : ℕ) → slice_get (xs ++ ys) (length xs + j) ≡ slice_get ys j
get_right [] ys j = let z : 0 + j ≡ j = omega arith in ap (slice_get ys) z
get_right (x ∷ xs) ys j = let z : suc (length xs) + j ≡ suc (length xs + j) = omega arith in ap (slice_get (x ∷ (xs ++ ys))) z ∙ get_right xs ys j

pub get_begun : (c : Configuration) (i j k : ℕ) → i < length c.places → j < length (steps_begun c i) → k ≡ length (steps_before c i) + j → slice_get (ready_steps c) k ≡ slice_get (steps_begun c i) j
get_begun c i j k h l e =
    let w = before_rest c (suc i) in
    let f : ready_steps c ≡ steps_before c i ++ (steps_begun c i ++ w.0) = w.1 ∙ ap (λ ss. ss ++ w.0) (before_more c i h) ∙ append_assoc (steps_before c i) (steps_begun c i) w.0 in
    ap (slice_get (ready_steps c)) e ∙ ap (λ ss. slice_get ss (length (steps_before c i) + j)) f ∙ get_right (steps_before c i) (steps_begun c i ++ w.0) j ∙ get_left (steps_begun c i) w.0 j l

-- as many places at most
few_talks : (m : Message) (i j : ℕ) (qs : List Process) → length (talks_to m i j qs) ≤ length qs
few_talks m i j [] = omega arith
few_talks m i j (q ∷ qs) = by (is_channel m (takes_on q)) (few_talks m i (suc j) qs)
  where
    by : (z : Bool) → length (talks_to m i (suc j) qs) ≤ length qs → length (if z then talk i j ∷ talks_to m i (suc j) qs else talks_to m i (suc j) qs) ≤ suc (length qs)
    by true h = omega arith
    by false h = omega arith

few_at : (all : List Process) (i : ℕ) (p : Process) → 0 < length all → length (steps_at all i p) ≤ length all
few_at all i p h = by (acts_now p) (puts_on p)
  where
    by : (z : Bool) (o : Option Message) → length (if z then act i ∷ [] else talks_of all i o) ≤ length all
    by true o = omega arith
    by false None = omega arith
    by false (Some m) = few_talks m i 0 all

pub few_begun : (c : Configuration) (i : ℕ) → i < length c.places → length (steps_begun c i) ≤ length c.places
unfolding steps_begun
few_begun c i h = by (slice_get c.places i)
  where
    by : (o : Option Process) → length (steps_by c.places i o) ≤ length c.places
    by None = omega arith
    by (Some p) = few_at c.places i p (omega arith)

few_before : (c : Configuration) (i : ℕ) → i ≤ length c.places → length (steps_before c i) ≤ i * length c.places
few_before c zero h = let e = ap length (before_none c) in omega (arith, e)
few_before c (suc i) h =
    let a = few_before c i (omega arith) in
    let b = few_begun c i (omega arith) in
    let e = length_more c i (omega arith) in
    omega (arith, a, b, e)

square_below : (n : ℕ) → n < 2 ^ 32 → n * n < 2 ^ 64
square_below n h =
    let a : n * n ≤ n * 4294967295 = mul-le-mul_left n (let g : n ≤ 4294967295 = omega arith in g) in
    omega arith

pub before_fits : (c : Configuration) (i : ℕ) → i ≤ length c.places → length c.places < 2 ^ 32 → length (steps_before c i) < 2 ^ 64
before_fits c i h l =
    let a = few_before c i h in
    let b : length c.places * i ≤ length c.places * length c.places = mul-le-mul_left (length c.places) h in
    let s = square_below (length c.places) l in
    omega (arith, a, b, s)
