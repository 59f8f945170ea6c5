-- Atoms that wait to be counted.
use Rattle.std.proofs.Common.{◌≡◌, ◌≢◌, refl, sym, ap, ◌∙◌, subst, ℕ, zero, suc, ◌+◌, ◌-◌, ◌<◌, ⊎_elim, ◌⊎◌, inl, inr, List, [], ◌∷◌, ◌++◌, take, drop, Some, arith, true, false, Bool, true≢false, eq-eqb}
use Rattle.std.proofs.lemmas.Bool.{eqb-true, ne_eqb}
use Rattle.spi_term.proofs.Lists.{some_is}
use Rattle.std.specs.Prelude.{eqb, if◌then◌else◌, slice_get}
use Rattle.std.specs.List.Sorted.{IsStrictlySortedBy}
use Rattle.std.specs.Map.{keys_of}
use Rattle.std.specs.Ordering.{nat_cmp}
use Rattle.std.specs.BTreeMap.{BTreeMap, IsOrdered}
use Rattle.spi_count.specs.Counts.{count_of}
use Rattle.spi_count.specs.Sums.{part, both_counts, Puts}
use Rattle.spi_count.specs.Piles.{is_kind, once, waits_once, waits, piled}
use Rattle.spi_count.specs.declared.sum.AtomKind.{AtomKind}
use Rattle.spi_count.specs.declared.sum.AtomKind.TheVariants.{End, Check, Many}
use Rattle.spi_count.specs.declared.pile.Late.{Late}
use Rattle.spi_count.specs.declared.sum.Sum.{Sum}
use Rattle.spi_count.specs.declared.pile.Pile.{Pile}
use Rattle.spi_count.proofs.Merging.{left_at, left_first}

-- the sum of two counts
pub both_none : (kind : AtomKind) (m : ℕ) → both_counts kind m 0 ≡ m
both_none End m = omega arith
both_none Check m = omega arith
both_none Many m = omega arith

pub none_both : (kind : AtomKind) (m : ℕ) → both_counts kind 0 m ≡ m
none_both End m = omega arith
none_both Check m = omega arith
none_both Many m = omega arith

pub both_turned : (kind : AtomKind) (m n : ℕ) → both_counts kind m n ≡ both_counts kind n m
both_turned End m n = omega arith
both_turned Check m n = omega arith
both_turned Many m n = omega arith

pub both_grouped : (kind : AtomKind) (l m n : ℕ) → both_counts kind (both_counts kind l m) n ≡ both_counts kind l (both_counts kind m n)
both_grouped End l m n = omega arith
both_grouped Check l m n = omega arith
both_grouped Many l m n = omega arith

pub both_crossed : (kind : AtomKind) (k l m n : ℕ) → both_counts kind (both_counts kind k l) (both_counts kind m n) ≡ both_counts kind (both_counts kind k m) (both_counts kind l n)
both_crossed End k l m n = omega arith
both_crossed Check k l m n = omega arith
both_crossed Many k l m n = omega arith

-- lists
pub waits_both : (kind : AtomKind) (vs ws : List Late) (q : ℕ) → waits kind (vs ++ ws) q ≡ both_counts kind (waits kind vs q) (waits kind ws q)
waits_both kind [] ws q = sym (none_both kind (waits kind ws q))
waits_both kind (v ∷ vs) ws q =
    ap (both_counts kind (waits_once kind v q)) (waits_both kind vs ws q) ∙ sym (both_grouped kind (waits_once kind v q) (waits kind vs q) (waits kind ws q))

pub waits_more : (kind : AtomKind) (ws : List Late) (w : Late) (q : ℕ) → waits kind (ws ++ w ∷ []) q ≡ both_counts kind (waits kind ws q) (waits_once kind w q)
waits_more kind ws w q = waits_both kind ws (w ∷ []) q ∙ ap (both_counts kind (waits kind ws q)) (both_none kind (waits_once kind w q))

-- kinds
pub kind_same : (k l : AtomKind) → is_kind k l ≡ true → k ≡ l
kind_same End End e = refl
kind_same End Check e = cc
kind_same End Many e = cc
kind_same Check End e = cc
kind_same Check Check e = refl
kind_same Check Many e = cc
kind_same Many End e = cc
kind_same Many Check e = cc
kind_same Many Many e = refl

pub kind_itself : (k : AtomKind) → is_kind k k ≡ true
kind_itself End = refl
kind_itself Check = refl
kind_itself Many = refl

pub either_positive : (kind : AtomKind) (m n : ℕ) → 0 < both_counts kind m n → (0 < m) ⊎ (0 < n)
either_positive End zero n h = inr (omega (arith, h))
either_positive Check zero n h = inr (omega (arith, h))
either_positive Many zero n h = inr (omega (arith, h))
either_positive kind (suc m) n h = inl (omega arith)

pub left_positive : (kind : AtomKind) (m n : ℕ) → 0 < m → 0 < both_counts kind m n
left_positive End m n h = omega (arith, h)
left_positive Check m n h = omega (arith, h)
left_positive Many m n h = omega (arith, h)

pub right_positive : (kind : AtomKind) (m n : ℕ) → 0 < n → 0 < both_counts kind m n
right_positive End m n h = omega (arith, h)
right_positive Check m n h = omega (arith, h)
right_positive Many m n h = omega (arith, h)

-- an atom that waits, at its own key and at others
pub waits_here : (kind : AtomKind) (w : Late) (q : ℕ) → is_kind kind w.kind ≡ true → w.key ≡ q → waits_once kind w q ≡ w.count
waits_here kind w q e f =
    ap (λ (b : Bool). if b then (if eqb w.key q then w.count else 0) else 0) e ∙ ap (λ (b : Bool). if b then w.count else 0) (eq-eqb w.key q f)

pub waits_there : (kind : AtomKind) (w : Late) (q : ℕ) → 0 < waits_once kind w q → (is_kind kind w.kind ≡ true) × (w.key ≡ q) × (0 < w.count)
waits_there kind w q h = go (is_kind kind w.kind) refl (eqb w.key q) refl h
  where
    go : (b : Bool) → is_kind kind w.kind ≡ b → (c : Bool) → eqb w.key q ≡ c → 0 < (if b then (if c then w.count else 0) else 0)
        → (is_kind kind w.kind ≡ true) × (w.key ≡ q) × (0 < w.count)
    go true e true f h = (e, eqb-true w.key q f, h)
    go true e false f h = absurd (omega (arith, h))
    go false e c f h = absurd (omega (arith, h))

pub key_apart : (kind : AtomKind) (w : Late) (q : ℕ) → w.key ≢ q → waits_once kind w q ≡ 0
key_apart kind w q d = go (is_kind kind w.kind) ∙ refl
  where
    go : (b : Bool) → (if b then (if eqb w.key q then w.count else 0) else 0) ≡ 0
    go true = ap (λ (b : Bool). if b then w.count else 0) (ne_eqb w.key q d)
    go false = refl

pub kind_apart : (kind : AtomKind) (w : Late) (q : ℕ) → is_kind kind w.kind ≡ false → waits_once kind w q ≡ 0
kind_apart kind w q e = ap (λ (b : Bool). if b then (if eqb w.key q then w.count else 0) else 0) e

pub none_apart : (kind : AtomKind) (w : Late) (q : ℕ) → w.count ≡ 0 → waits_once kind w q ≡ 0
none_apart kind w q e = go (is_kind kind w.kind) (eqb w.key q)
  where
    go : (b c : Bool) → (if b then (if c then w.count else 0) else 0) ≡ 0
    go true true = e
    go true false = refl
    go false c = refl

pub waits_at : (kind : AtomKind) (ws : List Late) (i : ℕ) (w : Late) (q : ℕ) → slice_get ws i ≡ Some w → 0 < waits_once kind w q → 0 < waits kind ws q
waits_at kind [] i w q e h = cc
waits_at kind (v ∷ ws) zero w q e h = left_positive kind (waits_once kind v q) (waits kind ws q) (subst (λ v. 0 < waits_once kind v q) (sym (some_is e)) h)
waits_at kind (v ∷ ws) (suc i) w q e h = right_positive kind (waits_once kind v q) (waits kind ws q) (waits_at kind ws i w q e h)

-- an atom that is taken out of those that wait
split_at : (ws : List Late) (i : ℕ) (w : Late) → slice_get ws i ≡ Some w → ws ≡ take i ws ++ w ∷ drop (i + 1) ws
split_at [] i w e = cc
split_at (v ∷ ws) zero w e = let z : zero + 1 ≡ suc zero = omega arith in ap (λ v. v ∷ ws) (some_is e) ∙ ap (λ n. w ∷ drop n (v ∷ ws)) (sym z)
split_at (v ∷ ws) (suc i) w e = let z : suc i + 1 ≡ suc (i + 1) = omega arith in ap (λ l. v ∷ l) (split_at ws i w e) ∙ ap (λ n. v ∷ (take i ws ++ w ∷ drop n (v ∷ ws))) (sym z)

once_less : (n m : ℕ) (b c : Bool) → n ≡ m + 1
    → (if b then (if c then n else 0) else 0) ≡ (if b then (if c then m else 0) else 0) + (if b then (if c then 1 else 0) else 0)
once_less n m true true e = omega (arith, e)
once_less n m true false e = refl
once_less n m false c e = refl

-- numbers that are less by one
less_by : (l k : AtomKind) (c : Bool) (n m s v u : ℕ) → is_kind Many k ≡ false → n ≡ m + 1
    → both_counts l s (both_counts l (both_counts l v u) (if is_kind l k then (if c then m else 0) else 0))
    ≡ both_counts l s (both_counts l v (both_counts l (if is_kind l k then (if c then n else 0) else 0) u)) - (if is_kind l k then (if c then 1 else 0) else 0)
less_by End k c n m s v u f e = let d = once_less n m (is_kind End k) c e in omega (arith, d)
less_by Check k c n m s v u f e = let d = once_less n m (is_kind Check k) c e in omega (arith, d)
less_by Many k c n m s v u f e =
    let x = ap (λ (b : Bool). if b then (if c then m else 0) else 0) f in
    let y = ap (λ (b : Bool). if b then (if c then n else 0) else 0) f in
    let z = ap {B = ℕ} (λ (b : Bool). if b then (if c then 1 else 0) else 0) f in
    omega (arith, x, y, z)

-- one of several is taken out
pub less_waits : (l : AtomKind) (s : ℕ) (ws ns : List Late) (i : ℕ) (w v : Late) (q : ℕ) → slice_get ws i ≡ Some w → is_kind Many w.kind ≡ false
    → v.kind ≡ w.kind → v.key ≡ w.key → w.count ≡ v.count + 1 → ns ≡ (take i ws ++ drop (i + 1) ws) ++ v ∷ []
    → both_counts l s (waits l ns q) ≡ both_counts l s (waits l ws q) - once w.kind w.key l q
less_waits l s ws ns i w v q e f vk vq vn g =
    ap (λ ns. both_counts l s (waits l ns q)) g
    ∙ ap (both_counts l s) (waits_more l (take i ws ++ drop (i + 1) ws) v q ∙ ap (λ n. both_counts l n (waits_once l v q)) (waits_both l (take i ws) (drop (i + 1) ws) q)
    ∙ ap (both_counts l (both_counts l (waits l (take i ws) q) (waits l (drop (i + 1) ws) q))) same)
    ∙ less_by l w.kind (eqb w.key q) w.count v.count s (waits l (take i ws) q) (waits l (drop (i + 1) ws) q) f vn
    ∙ ap (λ n. both_counts l s n - once w.kind w.key l q) (sym (ap (λ ws. waits l ws q) (split_at ws i w e) ∙ waits_both l (take i ws) (w ∷ drop (i + 1) ws) q))
  where
    same : waits_once l v q ≡ (if is_kind l w.kind then (if eqb w.key q then v.count else 0) else 0)
    same = ap (λ k. if is_kind l k then (if eqb v.key q then v.count else 0) else 0) vk ∙ ap (λ k. if is_kind l w.kind then (if eqb k q then v.count else 0) else 0) vq

none_once : (b c : Bool) → ◌≡◌ {A = ℕ} (if b then (if c then 0 else 0) else 0) 0
none_once true true = refl
none_once true false = refl
none_once false c = refl

-- the only one is taken out
pub less_one_waits : (l : AtomKind) (s : ℕ) (ws ns : List Late) (i : ℕ) (w : Late) (q : ℕ) → slice_get ws i ≡ Some w → is_kind Many w.kind ≡ false
    → w.count ≡ 1 → ns ≡ take i ws ++ drop (i + 1) ws
    → both_counts l s (waits l ns q) ≡ both_counts l s (waits l ws q) - once w.kind w.key l q
less_one_waits l s ws ns i w q e f wn g =
    ap (λ ns. both_counts l s (waits l ns q)) g
    ∙ ap (both_counts l s) (waits_both l (take i ws) (drop (i + 1) ws) q ∙ sym (both_none l _)
    ∙ ap (both_counts l (both_counts l (waits l (take i ws) q) (waits l (drop (i + 1) ws) q))) (sym (none_once (is_kind l w.kind) (eqb w.key q))))
    ∙ less_by l w.kind (eqb w.key q) w.count 0 s (waits l (take i ws) q) (waits l (drop (i + 1) ws) q) f wn
    ∙ ap (λ n. both_counts l s n - once w.kind w.key l q) (sym (ap (λ ws. waits l ws q) (split_at ws i w e) ∙ waits_both l (take i ws) (w ∷ drop (i + 1) ws) q))

-- one more waits
pub added : (l : AtomKind) (n : ℕ) (ws us : List Late) (w : Late) (q : ℕ) → us ≡ ws ++ w ∷ [] → both_counts l n (waits l us q) ≡ both_counts l (both_counts l n (waits l ws q)) (waits_once l w q)
added l n ws us w q e =
    ap (λ us. both_counts l n (waits l us q)) e
    ∙ ap (both_counts l n) (waits_more l ws w q)
    ∙ sym (both_grouped l n (waits l ws q) (waits_once l w q))

-- an atom of which none waits is taken out of the counts
pub sum_taken : (kind : AtomKind) (key : ℕ) (old new : Sum) (ws : List Late) → Puts kind old new key (count_of (part kind old) key - 1) → waits kind ws key ≡ 0
    → (l : AtomKind) (q : ℕ) → both_counts l (count_of (part l new) q) (waits l ws q) ≡ both_counts l (count_of (part l old) q) (waits l ws q) - once kind key l q
sum_taken kind key old new ws p z l q = go (is_kind l kind) refl (eqb key q) refl
  where
    away : count_of (part l new) q ≡ count_of (part l old) q → once kind key l q ≡ 0
        → both_counts l (count_of (part l new) q) (waits l ws q) ≡ both_counts l (count_of (part l old) q) (waits l ws q) - once kind key l q
    away e f =
        let g : both_counts l (count_of (part l new) q) (waits l ws q) ≡ both_counts l (count_of (part l old) q) (waits l ws q) = ap (λ n. both_counts l n (waits l ws q)) e in
        omega (arith, f, g)

    go : (b : Bool) → is_kind l kind ≡ b → (c : Bool) → eqb key q ≡ c → both_counts l (count_of (part l new) q) (waits l ws q) ≡ both_counts l (count_of (part l old) q) (waits l ws q) - once kind key l q
    go false e c f = away (ap (λ m. count_of m q) (p.others l (λ d. true≢false (sym (kind_itself kind) ∙ ap (λ k. is_kind k kind) (sym d) ∙ e)))) (ap (λ (b : Bool). if b then (if eqb key q then 1 else 0) else 0) e)
    go true e false f =
        let d = kind_same l kind e in
        away (ap (λ k. count_of (part k new) q) d ∙ p.here q ∙ ap (λ (t : Bool). if t then count_of (part kind old) key - 1 else count_of (part kind old) q) f ∙ ap (λ k. count_of (part k old) q) (sym d))
        (ap (λ (b : Bool). if b then (if eqb key q then 1 else 0) else 0) e ∙ ap (λ (b : Bool). if b then 1 else 0) f)
    go true e true f =
        let d = kind_same l kind e in
        let k = eqb-true key q f in
        let x : count_of (part l new) q ≡ count_of (part l old) q - 1
        = ap (λ k. count_of (part k new) q) d ∙ p.here q ∙ ap (λ (t : Bool). if t then count_of (part kind old) key - 1 else count_of (part kind old) q) f ∙ ap (λ q. count_of (part kind old) q - 1) k ∙ ap (λ k. count_of (part k old) q - 1) (sym d) in
        let y : waits l ws q ≡ 0 = ap (λ k. waits k ws q) d ∙ ap (waits kind ws) (sym k) ∙ z in
        let o : once kind key l q ≡ 1 = ap (λ (b : Bool). if b then (if eqb key q then 1 else 0) else 0) e ∙ ap (λ (b : Bool). if b then 1 else 0) f in
        ap (λ n. both_counts l n (waits l ws q)) x
        ∙ ap (both_counts l (count_of (part l old) q - 1)) y
        ∙ both_none l (count_of (part l old) q - 1)
        ∙ (let g : count_of (part l old) q - 1 ≡ count_of (part l old) q - once kind key l q = omega (arith, o) in g)
        ∙ ap (λ n. n - once kind key l q) (sym (ap (both_counts l (count_of (part l old) q)) y ∙ both_none l (count_of (part l old) q)))

-- of one kind's counts
abbrev pub of_kind : AtomKind → AtomKind → ℕ → ℕ
of_kind l kind n = if is_kind l kind then n else 0

-- the entries that are left, and what waits so far
pub record LeftOver (kind : AtomKind) (es : List (ℕ × ℕ)) (so_far before : List Late) (whole : ℕ → ℕ) : Type 0 where
  pub ordered : IsStrictlySortedBy nat_cmp (keys_of es)
  pub sums : (l : AtomKind) (q : ℕ) → both_counts l (waits l so_far q) (of_kind l kind (left_at es q)) ≡ both_counts l (waits l before q) (of_kind l kind (whole q))

pub put_starts : (kind : AtomKind) (m : BTreeMap ℕ ℕ) (before : List Late) (es : List (ℕ × ℕ)) → es ≡ m.entries → IsOrdered nat_cmp m → LeftOver kind es before before (count_of m)
put_starts kind m before es e o =
    subst (λ es. LeftOver kind es before before (count_of m)) (sym e) record { ordered = o; sums = λ l q. refl }

pub put_first : (kind : AtomKind) (k by : ℕ) (es : List (ℕ × ℕ)) (so_far before : List Late) (whole : ℕ → ℕ) (w : Late) → w.kind ≡ kind → w.key ≡ k → w.count ≡ by
    → LeftOver kind ((k, by) ∷ es) so_far before whole → LeftOver kind es (so_far ++ w ∷ []) before whole
unfolding IsStrictlySortedBy
put_first kind k by es so_far before whole w wk wq wn h = record { ordered = h.ordered.1; sums = λ l q. step l q ∙ h.sums l q }
  where
    once : (l : AtomKind) (q : ℕ) (b : Bool) → is_kind l kind ≡ b → both_counts l (if b then (if eqb k q then by else 0) else 0) (if b then left_at es q else 0) ≡ (if b then left_at ((k, by) ∷ es) q else 0)
    once l q false e = none_both l 0
    once l q true e = ⊎_elim here (λ d. there d) (left_first k by es h.ordered q)
      where
        here : (q ≡ k) × (left_at ((k, by) ∷ es) q ≡ by) × (left_at es q ≡ 0) → both_counts l (if eqb k q then by else 0) (left_at es q) ≡ left_at ((k, by) ∷ es) q
        here (f, x, z) = ap (both_counts l (if eqb k q then by else 0)) z ∙ both_none l (if eqb k q then by else 0) ∙ ap (λ t. if t then by else 0) (eq-eqb k q (sym f)) ∙ sym x

        there : (q ≢ k) × (left_at ((k, by) ∷ es) q ≡ left_at es q) → both_counts l (if eqb k q then by else 0) (left_at es q) ≡ left_at ((k, by) ∷ es) q
        there (d, x) = ap (λ t. both_counts l (if t then by else 0) (left_at es q)) (ne_eqb k q (λ e. d (sym e))) ∙ none_both l (left_at es q) ∙ sym x

    same : (l : AtomKind) (q : ℕ) → waits_once l w q ≡ of_kind l kind (if eqb k q then by else 0)
    same l q = ap (λ kind. of_kind l kind (if eqb w.key q then w.count else 0)) wk ∙ ap (λ k. of_kind l kind (if eqb k q then w.count else 0)) wq ∙ ap (λ n. of_kind l kind (if eqb k q then n else 0)) wn

    step : (l : AtomKind) (q : ℕ) → both_counts l (waits l (so_far ++ w ∷ []) q) (of_kind l kind (left_at es q)) ≡ both_counts l (waits l so_far q) (of_kind l kind (left_at ((k, by) ∷ es) q))
    step l q =
        ap (λ n. both_counts l n (of_kind l kind (left_at es q))) (waits_more l so_far w q ∙ ap (both_counts l (waits l so_far q)) (same l q))
        ∙ both_grouped l (waits l so_far q) (of_kind l kind (if eqb k q then by else 0)) (of_kind l kind (left_at es q))
        ∙ ap (both_counts l (waits l so_far q)) (once l q (is_kind l kind) refl)

none_of_kind : (b : Bool) (z : ℕ) → z ≡ 0 → (if b then z else 0) ≡ z
none_of_kind true z e = refl
none_of_kind false z e = sym e

-- where nothing is left
pub put_all : (kind : AtomKind) (es : List (ℕ × ℕ)) (so_far before : List Late) (whole : ℕ → ℕ) → es ≡ [] → LeftOver kind es so_far before whole → (l : AtomKind) (q : ℕ) → waits l so_far q ≡ both_counts l (waits l before q) (of_kind l kind (whole q))
put_all kind es so_far before whole e h l q =
    sym (both_none l (waits l so_far q))
    ∙ ap (both_counts l (waits l so_far q)) (sym (ap (λ es. of_kind l kind (left_at es q)) e ∙ none_of_kind (is_kind l kind) 0 refl))
    ∙ h.sums l q

-- counts with atoms that wait
pub one_counted : (kind : AtomKind) (old mid new : ℕ) (vs ws : List Late) (w : Late) (q : ℕ) → ws ≡ vs ++ w ∷ [] → mid ≡ both_counts kind old (waits kind vs q) → new ≡ both_counts kind mid (waits_once kind w q) → new ≡ both_counts kind old (waits kind ws q)
one_counted kind old mid new vs ws w q e f g =
    g
    ∙ ap (λ n. both_counts kind n (waits_once kind w q)) f
    ∙ both_grouped kind old (waits kind vs q) (waits_once kind w q)
    ∙ ap (both_counts kind old) (sym (waits_more kind vs w q) ∙ ap (λ ws. waits kind ws q) (sym e))

pub none_waits : (kind : AtomKind) (n : ℕ) (ws : List Late) (q : ℕ) → ws ≡ [] → both_counts kind n (waits kind ws q) ≡ n
none_waits kind n ws q e = ap (λ ws. both_counts kind n (waits kind ws q)) e ∙ both_none kind n

pub settled_same : (kind : AtomKind) (new : Pile) (n q : ℕ) → count_of (part kind new.sum) q ≡ n → new.late.items ≡ [] → piled kind new q ≡ n
settled_same kind new n q e z = none_waits kind (count_of (part kind new.sum) q) new.late.items q z ∙ e

-- counts and atoms that wait, of two in one
pub taken_few : (kind : AtomKind) (s t n : ℕ) (vs ws us : List Late) (q : ℕ) → n ≡ both_counts kind s t → us ≡ vs ++ ws → both_counts kind n (waits kind us q) ≡ both_counts kind (both_counts kind s (waits kind vs q)) (both_counts kind t (waits kind ws q))
taken_few kind s t n vs ws us q e f =
    ap (λ us. both_counts kind n (waits kind us q)) f
    ∙ ap (both_counts kind n) (waits_both kind vs ws q)
    ∙ ap (λ n. both_counts kind n (both_counts kind (waits kind vs q) (waits kind ws q))) e
    ∙ both_crossed kind s t (waits kind vs q) (waits kind ws q)

pub taken_late : (kind : AtomKind) (s t n : ℕ) (vs ws us : List Late) (q : ℕ) → n ≡ both_counts kind (waits kind us q) t → us ≡ vs ++ ws → both_counts kind s n ≡ both_counts kind (both_counts kind s (waits kind vs q)) (both_counts kind t (waits kind ws q))
taken_late kind s t n vs ws us q e f =
    ap (both_counts kind s) (e ∙ both_turned kind (waits kind us q) t ∙ ap (λ us. both_counts kind t (waits kind us q)) f)
    ∙ sym (both_grouped kind s t (waits kind (vs ++ ws) q))
    ∙ taken_few kind s t (both_counts kind s t) vs ws (vs ++ ws) q refl refl
