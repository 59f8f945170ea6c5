-- Events are paid exactly where each of them is, by those before it.
use Rattle.std.proofs.Common.{◌≡◌, ◌↔◌, IsTrue, nat_lt, refl, sym, ◌∙◌, ap, subst, subst₂, ℕ, zero, suc, ◌+◌, ◌<◌, ◌≤◌, ⊎_elim, Bool, true, false, if◌then◌else◌, List, [], ◌∷◌, ◌++◌, length, map, take, drop, get_or, arith}
use Rattle.std.proofs.lemmas.Bool.{cases_lt, ltb-true, lt-ltb}
use Rattle.spi_term.specs.Lists.{In, in_first, in_later}
use Rattle.spi_term.specs.Term.{Message, same_message}
use Rattle.spi_term.proofs.Lists.{in_cases}
use Rattle.spi_term.proofs.Lookup.{map_take_more}
use Rattle.spi_intern.proofs.MessageLaws.{same_self, same_true}
use Rattle.spi_run.specs.Reduction.{Event, begun, ended, ended_many}
use Rattle.spi_run.specs.Safety.{begins_of, ends_of, Paid, PaidMany}
use Rattle.spi_run.specs.View.{event}
use Rattle.spi_run.specs.declared.step.Event as Declared
use Rattle.spi_trace.specs.Next.{EndIsPaid, ManyIsPaid, Each}
use Rattle.spi_trace.proofs.Seen.{and_then}

abbrev one_if : Bool → ℕ
one_if b = if b then 1 else 0

one_at_most : (b : Bool) → one_if b ≤ 1
one_at_most true = omega arith
one_at_most false = omega arith

-- counts of more events
begins_append : (m : Message) (es fs : List Event) → begins_of m (es ++ fs) ≡ begins_of m es + begins_of m fs
begins_append m [] fs = omega arith
begins_append m (begun l ∷ es) fs = omega (arith, begins_append m es fs)
begins_append m (ended l ∷ es) fs = begins_append m es fs
begins_append m (ended_many l ∷ es) fs = begins_append m es fs

ends_append : (m : Message) (es fs : List Event) → ends_of m (es ++ fs) ≡ ends_of m es + ends_of m fs
ends_append m [] fs = omega arith
ends_append m (begun l ∷ es) fs = ends_append m es fs
ends_append m (ended l ∷ es) fs = omega (arith, ends_append m es fs)
ends_append m (ended_many l ∷ es) fs = ends_append m es fs

pub one_begin : (m : Message) (e : Event) → begins_of m (e ∷ []) ≤ 1
one_begin m (begun l) = let h = one_at_most (same_message m l) in omega arith
one_begin m (ended l) = omega arith
one_begin m (ended_many l) = omega arith

pub one_end : (m : Message) (e : Event) → ends_of m (e ∷ []) ≤ 1
one_end m (begun l) = omega arith
one_end m (ended l) = let h = one_at_most (same_message m l) in omega arith
one_end m (ended_many l) = omega arith

pub begins_more : (m : Message) (es : List Declared.Event) (i : ℕ) (x : Declared.Event) (n k : ℕ) → i < length es → x ≡ get_or es i x → n ≡ begins_of m (map event (take i es)) → k ≡ begins_of m (event x ∷ []) → n + k ≡ begins_of m (map event (take (i + 1) es))
begins_more m es i x n k l e f g = rw (map_take_more event es i x l e) (let h = begins_append m (map event (take i es)) (event x ∷ []) in omega arith)

pub ends_more : (m : Message) (es : List Declared.Event) (i : ℕ) (x : Declared.Event) (n k : ℕ) → i < length es → x ≡ get_or es i x → n ≡ ends_of m (map event (take i es)) → k ≡ ends_of m (event x ∷ []) → n + k ≡ ends_of m (map event (take (i + 1) es))
ends_more m es i x n k l e f g = rw (map_take_more event es i x l e) (let h = ends_append m (map event (take i es)) (event x ∷ []) in omega arith)

-- a begin of the label is counted
one_more : (m l : Message) (es : List Event) → m ≡ l → 0 < begins_of m (begun l ∷ es)
one_more m l es e = subst (λ x. 0 < one_if (same_message m x) + begins_of m es) e (rw (same_self m) (omega arith))

pub begun_counts : (m : Message) (es : List Event) → In (begun m) es → 0 < begins_of m es
begun_counts m (begun l ∷ es) i = ⊎_elim
    (λ e. one_more m l es (let f : m ≡ l = cc in f))
    (λ j. let h = begun_counts m es j in omega arith)
    (in_cases i)
begun_counts m (ended l ∷ es) i = ⊎_elim (λ e. cc) (λ j. begun_counts m es j) (in_cases i)
begun_counts m (ended_many l ∷ es) i = ⊎_elim (λ e. cc) (λ j. begun_counts m es j) (in_cases i)
begun_counts m [] i = elim i [ ]

pub counts_begun : (m : Message) (es : List Event) → 0 < begins_of m es → In (begun m) es
counts_begun m [] h = absurd (omega arith)
counts_begun m (begun l ∷ es) h = go (same_message m l) refl h (λ k. counts_begun m es k)
  where
    go : (t : Bool) → same_message m l ≡ t → 0 < one_if t + begins_of m es → (0 < begins_of m es → In (begun m) es) → In (begun m) (begun l ∷ es)
    go true e k ih = subst (λ x. In (begun m) (begun x ∷ es)) (same_true m l e) in_first
    go false e k ih = in_later (ih (omega arith))
counts_begun m (ended l ∷ es) h = in_later (counts_begun m es h)
counts_begun m (ended_many l ∷ es) h = in_later (counts_begun m es h)

pub many_counted : (n : ℕ) (m : Message) (es : List Event) → n ≡ begins_of m es → IsTrue (nat_lt 0 n) ↔ In (begun m) es
many_counted n m es e = ((λ h. counts_begun m es (let k = ltb-true 0 n h in omega arith)), (λ i. lt-ltb 0 n (let k = begun_counts m es i in omega arith)))

-- the events of a list, each with those before it, up to a place
abbrev pub EachBelow : (List Event → Event → Type 0) → List Event → ℕ → Type 0
EachBelow P es n = (pre : List Event) (e : Event) (post : List Event) → es ≡ pre ++ e ∷ post → length pre < n → P pre e

one_split : (pre : List Event) (e : Event) (post front : List Event) (x : Event) (back : List Event) → pre ++ e ∷ post ≡ front ++ x ∷ back → length pre ≡ length front → (pre ≡ front) × (e ≡ x)
one_split [] e post [] x back f l = (refl, cc)
one_split [] e post (y ∷ front) x back f l = absurd (omega arith)
one_split (z ∷ pre) e post [] x back f l = absurd (omega arith)
one_split (z ∷ pre) e post (y ∷ front) x back f l = let r = one_split pre e post front x back (cc) (let k : length pre ≡ length front = omega arith in k) in let s = r.0 in let t : z ≡ y = cc in (cc, r.1)

-- an element of a list, with those before and after it
split_map : (es : List Declared.Event) (n : ℕ) (x : Declared.Event) → n < length es → x ≡ get_or es n x → map event es ≡ map event (take n es) ++ event x ∷ map event (drop (suc n) es)
split_map [] n x l e = absurd (omega arith)
split_map (y ∷ es) zero x l e = ap (λ z. event z ∷ map event es) (sym e)
split_map (y ∷ es) (suc n) x l e = ap (λ ys. event y ∷ ys) (split_map es n x (omega arith) e)

length_front : (es : List Declared.Event) (n : ℕ) → n < length es → length (map event (take n es)) ≡ n
length_front [] n l = absurd (omega arith)
length_front (y ∷ es) zero l = refl
length_front (y ∷ es) (suc n) l = ap suc (length_front es n (omega arith))

pub length_events : (es : List Declared.Event) → length (map event es) ≡ length es
length_events [] = refl
length_events (y ∷ es) = ap suc (length_events es)

pub none_below : (P : List Event → Event → Type 0) (es : List Event) → EachBelow P es 0
none_below P es pre e post f l = absurd (omega arith)

pub next_below : (P : List Event → Event → Type 0) (es : List Declared.Event) (n : ℕ) (x : Declared.Event) → n < length es → x ≡ get_or es n x → EachBelow P (map event es) n → P (map event (take n es)) (event x) → EachBelow P (map event es) (n + 1)
next_below P es n x l e h p pre y post f k =
    ⊎_elim (λ lt. h pre y post f lt)
    (λ ge.
    let r = one_split pre y post (map event (take n es)) (event x) (map event (drop (suc n) es)) (sym f ∙ split_map es n x l e) (let d = length_front es n l in omega arith) in
    subst₂ P (sym r.0) (sym r.1) p)
    (cases_lt (length pre) n)

-- the element at a place is one of them
pub each_at : (P : List Event → Event → Type 0) (es : List Declared.Event) (n : ℕ) (x : Declared.Event) → n < length es → x ≡ get_or es n x → Each P (map event es) → P (map event (take n es)) (event x)
each_at P es n x l e h = h (map event (take n es)) (event x) (map event (drop (suc n) es)) (split_map es n x l e)

-- events are paid
paid_on : (m : Message) (done todo : List Event) → ends_of m done ≤ begins_of m done → ((pre : List Event) (e : Event) (post : List Event) → done ++ todo ≡ pre ++ e ∷ post → EndIsPaid pre e) → ends_of m (done ++ todo) ≤ begins_of m (done ++ todo)
paid_on m done [] h p = let a = ends_append m done [] in let b = begins_append m done [] in omega arith
paid_on m done (e ∷ todo) h p =
    let f = and_then done e todo in
    subst (λ es. ends_of m es ≤ begins_of m es) f
    (paid_on m (done ++ e ∷ []) todo (one m done e h (p done e todo refl)) (λ pre x post g. p pre x post (sym f ∙ g)))
  where
    one : (m : Message) (done : List Event) (e : Event) → ends_of m done ≤ begins_of m done → EndIsPaid done e → ends_of m (done ++ e ∷ []) ≤ begins_of m (done ++ e ∷ [])
    one m done (begun l) h q = let a = ends_append m done (begun l ∷ []) in let b = begins_append m done (begun l ∷ []) in omega arith
    one m done (ended l) h q =
        let a = ends_append m done (ended l ∷ []) in
        let b = begins_append m done (ended l ∷ []) in
        go (same_message m l) refl a
      where
        go : (t : Bool) → same_message m l ≡ t → ends_of m (done ++ ended l ∷ []) ≡ ends_of m done + (one_if t + 0) → ends_of m (done ++ ended l ∷ []) ≤ begins_of m (done ++ ended l ∷ [])
        go true e a = let b = begins_append m done (ended l ∷ []) in let r = subst (λ x. ends_of x done < begins_of x done) (sym (same_true m l e)) q in omega arith
        go false e a = let b = begins_append m done (ended l ∷ []) in omega arith
    one m done (ended_many l) h q = let a = ends_append m done (ended_many l ∷ []) in let b = begins_append m done (ended_many l ∷ []) in omega arith

before_rest : {es early : List Event} (late pre : List Event) (e : Event) (post : List Event) → es ≡ early ++ late → early ≡ pre ++ e ∷ post → es ≡ pre ++ e ∷ (post ++ late)
before_rest late pre e post f g = f ∙ ap (λ xs. xs ++ late) g ∙ go pre
  where
    go : (xs : List Event) → (xs ++ e ∷ post) ++ late ≡ xs ++ e ∷ (post ++ late)
    go [] = refl
    go (x ∷ xs) = ap (λ ys. x ∷ ys) (go xs)

front_shorter : (pre : List Event) (e : Event) (post : List Event) → length pre < length (pre ++ e ∷ post)
front_shorter [] e post = omega arith
front_shorter (x ∷ pre) e post = let h = front_shorter pre e post in omega arith

pub any_below : (P : List Event → Event → Type 0) (es : List Event) (n : ℕ) → length es ≤ n → EachBelow P es n → Each P es
any_below P es n l h pre e post f = h pre e post f (let a = front_shorter pre e post in let b = ap length f in omega arith)

pub each_paid : (es : List Event) → Each EndIsPaid es → Paid es
each_paid es h early late m f = paid_on m [] early (omega arith) (λ pre e post g. h pre e (post ++ late) (before_rest late pre e post f g))

pub paid_each : (es : List Event) → Paid es → Each EndIsPaid es
paid_each es p pre (begun l) post f = tt
paid_each es p pre (ended l) post f =
    let h = p (pre ++ ended l ∷ []) post l (f ∙ sym (and_then pre (ended l) post)) in
    let a = ends_append l pre (ended l ∷ []) in
    let b = begins_append l pre (ended l ∷ []) in
    let c : one_if (same_message l l) ≡ 1 = ap one_if (same_self l) in
    omega arith
paid_each es p pre (ended_many l) post f = tt

pub each_paid_many : (es : List Event) → Each ManyIsPaid es → PaidMany es
each_paid_many es h early late m f = h early (ended_many m) late f

pub paid_many_each : (es : List Event) → PaidMany es → Each ManyIsPaid es
paid_many_each es p pre (begun l) post f = tt
paid_many_each es p pre (ended l) post f = tt
paid_many_each es p pre (ended_many l) post f = p pre post l f
