-- Lists in the store's order: sorting makes one, and two with equal counts are equal.
use Rattle.std.proofs.Common.{◌≡◌, ℕ, zero, suc, ◌+◌, ◌<◌, ◌≤◌, Bool, true, false, if◌then◌else◌, List, [], ◌∷◌, ◌++◌, length, drop, get_or, slice_index_or, refl, sym, ap, subst, ◌∙◌, true≢false, arith, ◌⊎◌, inl, inr, ⊎_elim, sum_by, Result, Ok, Err, IfOk}
use Rattle.std.specs.List.Sorted.{IsSorted, IsPermutation}
use Rattle.std.specs.Ordering.{is_lt}
use Rattle.std.proofs.lemmas.List.Sorted.{sum_by-IsPermutation}
use Rattle.std.proofs.lemmas.List.{append_assoc}
use Rattle.std.proofs.lemmas.List.Sums.{sum_by-cons}
use Rattle.std.proofs.lemmas.Map.Keys.{ge_from_not_lt}
use Rattle.spi_term.proofs.Counting.{and_true}
use Rattle.spi_term.proofs.Choices.{one_false}
use Rattle.spi_intern.specs.declared.atoms.AtomId.{AtomId}
use Rattle.spi_intern.specs.declared.atoms.AtomId.TheVariants.{End, Check, Many}
use Rattle.spi_intern.specs.contracts.atoms.AtomIdOrd.TheImpl.{cmp-value}
use Rattle.spi_intern.specs.Atoms.{same_id_atom, times, group, atom_place, IsNotAfter, by_group, by_place, InOrder, order_none, order_next, cut_times, IsCutTo, is_many, repeats, without_repeats, AtomVec}
use Rattle.spi_intern.proofs.EffectLaws.{atom_same, same_of, id_of}

alike : (a b : AtomId) → group a ≡ group b → atom_place a ≡ atom_place b → a ≡ b
alike (End a) (End b) g e = ap End (id_of a b e)
alike (End a) (Check b) g e = absurd cc
alike (End a) (Many b) g e = absurd cc
alike (Check a) (End b) g e = absurd cc
alike (Check a) (Check b) g e = ap Check (id_of a b e)
alike (Check a) (Many b) g e = absurd cc
alike (Many a) (End b) g e = absurd cc
alike (Many a) (Check b) g e = absurd cc
alike (Many a) (Many b) g e = ap Many (id_of a b e)

pub one_way : (a b : AtomId) → IsNotAfter a b → IsNotAfter b a → a ≡ b
one_way a b (by_group p) (by_group q) = absurd (omega arith)
one_way a b (by_group p) (by_place e q) = absurd (omega arith)
one_way a b (by_place e p) (by_group q) = absurd (omega arith)
one_way a b (by_place e p) (by_place f q) = alike a b e (omega arith)

further : (a b c : AtomId) → IsNotAfter a b → IsNotAfter b c → IsNotAfter a c
further a b c (by_group p) (by_group q) = by_group (omega arith)
further a b c (by_group p) (by_place e q) = by_group (omega arith)
further a b c (by_place e p) (by_group q) = by_group (omega arith)
further a b c (by_place e p) (by_place f q) = by_place (e ∙ f) (omega arith)

itself : (a : AtomId) → IsNotAfter a a
itself a = by_place refl (omega arith)

-- what isn't less doesn't come before
not_less : (a b : AtomId) → is_lt (cmp-value.it b a) ≡ false → IsNotAfter a b
not_less (End a) (End b) h = by_place refl (ge_from_not_lt b.place a.place h)
not_less (End a) (Check b) h = by_group (omega arith)
not_less (End a) (Many b) h = by_group (omega arith)
not_less (Check a) (End b) h = absurd (true≢false h)
not_less (Check a) (Check b) h = by_place refl (ge_from_not_lt b.place a.place h)
not_less (Check a) (Many b) h = by_group (omega arith)
not_less (Many a) (End b) h = absurd (true≢false h)
not_less (Many a) (Check b) h = absurd (true≢false h)
not_less (Many a) (Many b) h = by_place refl (ge_from_not_lt b.place a.place h)

abbrev bit : Bool → ℕ
bit b = if b then 1 else 0

pub two_ways : (b : Bool) (n : ℕ) → 1 ≤ bit b + n → (b ≡ true) ⊎ (1 ≤ n)
two_ways true n h = inl refl
two_ways false n h = inr (omega arith)

rest_sorted : (x : AtomId) (xs : List AtomId) → IsSorted cmp-value.it (x ∷ xs) → IsSorted cmp-value.it xs
rest_sorted x xs h = λ k d low high.
    let e : suc k + 1 ≡ suc (k + 1) = omega arith in
    subst (λ j. is_lt (cmp-value.it (slice_index_or (x ∷ xs) j d) (slice_index_or xs k d)) ≡ false) e (h (suc k) d (omega arith) (omega arith))

-- the first isn't after what stands later
first_of : (x : AtomId) (xs : List AtomId) → IsSorted cmp-value.it (x ∷ xs) → (z : AtomId) → 1 ≤ times z (x ∷ xs) → IsNotAfter x z
first_of x [] h z n = ⊎_elim (λ e. subst (IsNotAfter x) (sym (atom_same z x e)) (itself x)) (λ m. absurd (omega arith)) (two_ways (same_id_atom z x) 0 n)
first_of x (y ∷ xs) h z n =
    ⊎_elim (λ e. subst (IsNotAfter x) (sym (atom_same z x e)) (itself x))
    (λ m. further x y z (not_less x y (h 0 x (omega arith) (omega arith))) (first_of y xs (rest_sorted x (y ∷ xs) h) z m))
    (two_ways (same_id_atom z x) (times z (y ∷ xs)) n)

pub sorted_order : (xs : List AtomId) → IsSorted cmp-value.it xs → InOrder xs
sorted_order [] h = order_none
sorted_order (x ∷ xs) h = order_next (first_of x xs h) (sorted_order xs (rest_sorted x xs h))

times_sum : (a : AtomId) (xs : List AtomId) → sum_by (λ b. bit (same_id_atom a b)) xs ≡ times a xs
times_sum a [] = refl
times_sum a (b ∷ xs) = sum_by-cons (λ c. bit (same_id_atom a c)) b xs ∙ ap (λ n. bit (same_id_atom a b) + n) (times_sum a xs)

pub times_sorted : (a : AtomId) (xs ys : List AtomId) → IsPermutation xs ys → times a ys ≡ times a xs
times_sorted a xs ys p = sym (times_sum a ys) ∙ sum_by-IsPermutation (λ b. bit (same_id_atom a b)) xs ys p ∙ times_sum a xs

here : (a : AtomId) (xs : List AtomId) → 1 ≤ times a (a ∷ xs)
here a xs =
    let P : Bool → Type 0 = λ b. 1 ≤ bit b + times a xs in
    let one : P true = omega arith in
    subst P (sym (same_of a)) one

cut_off : (m n j k : ℕ) → m ≡ n → m + j ≡ n + k → j ≡ k
cut_off m n j k e f = omega arith

pub order_one : (xs ys : List AtomId) → InOrder xs → InOrder ys → ((a : AtomId) → times a xs ≡ times a ys) → xs ≡ ys
order_one [] [] s t h = refl
order_one [] (y ∷ ys) s t h = let e = h y in let w = here y ys in absurd (omega arith)
order_one (x ∷ xs) [] s t h = let e = h x in let w = here x xs in absurd (omega arith)
order_one (x ∷ xs) (y ∷ ys) (order_next f s) (order_next g t) h =
    let p : IsNotAfter x y = f y (subst (λ n. 1 ≤ n) (sym (h y)) (here y ys)) in
    let q : IsNotAfter y x = g x (subst (λ n. 1 ≤ n) (h x) (here x xs)) in
    let e : x ≡ y = one_way x y p q in
    let rest : xs ≡ ys = order_one xs ys s t (λ a. cut_off (bit (same_id_atom a x)) (bit (same_id_atom a y)) (times a xs) (times a ys) (ap (λ z. bit (same_id_atom a z)) e) (h a)) in
    λ i. e i ∷ rest i

-- a count that is cut is 0 just where the count is
pub cut_some : (a : AtomId) (n : ℕ) → 1 ≤ cut_times a n → 1 ≤ n
cut_some (End a) n h = h
cut_some (Check a) n h = h
cut_some (Many a) n h = omega arith

cut_none : (a : AtomId) → cut_times a 0 ≡ 0
cut_none (End a) = refl
cut_none (Check a) = refl
cut_none (Many a) = refl

cut_one : (a : AtomId) → cut_times a 1 ≡ 1
cut_one (End a) = refl
cut_one (Check a) = refl
cut_one (Many a) = refl

-- one more where it is no `many`, or the first
cut_more : (a : AtomId) (n : ℕ) → is_many a ≡ false → cut_times a (1 + n) ≡ 1 + cut_times a n
cut_more (End a) n h = refl
cut_more (Check a) n h = refl
cut_more (Many a) n h = absurd (true≢false h)

-- one more of a `many` that is there
cut_again : (a : AtomId) (n : ℕ) → is_many a ≡ true → 1 ≤ n → cut_times a (1 + n) ≡ cut_times a n
cut_again (End a) n h k = absurd (true≢false (sym h))
cut_again (Check a) n h k = absurd (true≢false (sym h))
cut_again (Many a) n h k = omega arith

-- the first stands next again
next_again : (x : AtomId) (xs : List AtomId) → repeats (x ∷ xs) ≡ true → (is_many x ≡ true) × (1 ≤ times x xs)
next_again x [] h = absurd (true≢false (sym h))
next_again x (y ∷ xs) h =
    let w = and_true (is_many x) (same_id_atom x y) h in
    let P : Bool → Type 0 = λ b. 1 ≤ bit b + times x xs in
    let one : P true = omega arith in
    (w.0, subst P (sym w.1) one)

-- the first stands nowhere later, or is no `many`
once_here : (x : AtomId) (xs : List AtomId) → InOrder (x ∷ xs) → repeats (x ∷ xs) ≡ false → (is_many x ≡ false) ⊎ (times x xs ≡ 0)
once_here x [] o h = inr refl
once_here x (y ∷ xs) (order_next f (order_next g o)) h = ⊎_elim inl (λ d. inr (none d)) (one_false (is_many x) (same_id_atom x y) h)
  where
    none_or_some : (n : ℕ) → (n ≡ 0) ⊎ (1 ≤ n)
    none_or_some zero = inl refl
    none_or_some (suc n) = inr (omega arith)

    none : same_id_atom x y ≡ false → times x (y ∷ xs) ≡ 0
    none d = ⊎_elim (λ e. e) (λ s.
        let p : IsNotAfter x y = f y (later y (here y xs)) in
        let q : IsNotAfter y x = g x s in
        let e : x ≡ y = one_way x y p q in
        absurd (true≢false (sym (ap (same_id_atom x) (sym e) ∙ same_of x) ∙ d))) (none_or_some (times x (y ∷ xs)))
      where
        later : (z : AtomId) → 1 ≤ times z (y ∷ xs) → 1 ≤ times z (x ∷ (y ∷ xs))
        later z n = omega arith

same_or : (a x : AtomId) → (a ≡ x) ⊎ (same_id_atom a x ≡ false)
same_or a x = by (same_id_atom a x) refl
  where
    by : (b : Bool) → same_id_atom a x ≡ b → (a ≡ x) ⊎ (same_id_atom a x ≡ false)
    by true e = inl (atom_same a x e)
    by false e = inr e

zero_on : (n : ℕ) → n ≡ 0 + n
zero_on n = omega arith

-- one more in front of the list
counts_on : (a x : AtomId) (xs : List AtomId) → InOrder (x ∷ xs) → times a (without_repeats xs) ≡ cut_times a (times a xs) → times a (without_repeats (x ∷ xs)) ≡ cut_times a (times a (x ∷ xs))
counts_on a x xs o rest = by (repeats (x ∷ xs)) refl
  where
    other : same_id_atom a x ≡ false → cut_times a (times a xs) ≡ cut_times a (times a (x ∷ xs))
    other d = ap (cut_times a) (zero_on (times a xs)) ∙ ap (λ b. cut_times a (bit b + times a xs)) (sym d)

    mine : a ≡ x → cut_times a (1 + times a xs) ≡ cut_times a (times a (x ∷ xs))
    mine e = ap (λ b. cut_times a (bit b + times a xs)) (sym (ap (same_id_atom a) (sym e) ∙ same_of a))

    dropped : repeats (x ∷ xs) ≡ true → cut_times a (times a xs) ≡ cut_times a (times a (x ∷ xs))
    dropped h =
        ⊎_elim (λ e.
        let w = next_again x xs h in
        sym (cut_again a (times a xs) (ap is_many e ∙ w.0) (subst (λ z. 1 ≤ times z xs) (sym e) w.1)) ∙ mine e) other (same_or a x)

    kept : repeats (x ∷ xs) ≡ false → bit (same_id_atom a x) + cut_times a (times a xs) ≡ cut_times a (times a (x ∷ xs))
    kept h =
        ⊎_elim (λ e.
        ap (λ b. bit b + cut_times a (times a xs)) (ap (same_id_atom a) (sym e) ∙ same_of a)
        ∙ ⊎_elim (λ n. sym (cut_more a (times a xs) (ap is_many e ∙ n))) (λ n.
        let m : times a xs ≡ 0 = ap (λ z. times z xs) e ∙ n in
        ap (λ k. 1 + cut_times a k) m ∙ ap (λ k. 1 + k) (cut_none a) ∙ sym (cut_one a) ∙ ap (λ k. cut_times a (1 + k)) (sym m)) (once_here x xs o h)
        ∙ mine e)
        (λ d. ap (λ b. bit b + cut_times a (times a xs)) d ∙ sym (zero_on (cut_times a (times a xs))) ∙ other d) (same_or a x)

    by : (b : Bool) → repeats (x ∷ xs) ≡ b → times a (if repeats (x ∷ xs) then without_repeats xs else x ∷ without_repeats xs) ≡ cut_times a (times a (x ∷ xs))
    by true h = ap (λ b. times a (if b then without_repeats xs else x ∷ without_repeats xs)) h ∙ rest ∙ dropped h
    by false h = ap (λ b. times a (if b then without_repeats xs else x ∷ without_repeats xs)) h ∙ ap (λ n. bit (same_id_atom a x) + n) rest ∙ kept h

-- the counts without repeats are those with them, cut
times_cut : (a : AtomId) (xs : List AtomId) → InOrder xs → times a (without_repeats xs) ≡ cut_times a (times a xs)
times_cut a [] o = sym (cut_none a)
times_cut a (x ∷ xs) (order_next f o) = counts_on a x xs (order_next f o) (times_cut a xs o)

order_on : (x : AtomId) (xs : List AtomId) → InOrder (x ∷ xs) → InOrder xs → InOrder (without_repeats xs) → InOrder (without_repeats (x ∷ xs))
order_on x xs (order_next f g) o rest = by (repeats (x ∷ xs))
  where
    was : (z : AtomId) → 1 ≤ times z (x ∷ without_repeats xs) → 1 ≤ times z (x ∷ xs)
    was z n = ⊎_elim (λ e. subst (λ b. 1 ≤ bit b + times z xs) (sym e) (omega arith)) (λ m. let k : 1 ≤ times z xs = cut_some z (times z xs) (subst (λ j. 1 ≤ j) (times_cut z xs o) m) in omega arith) (two_ways (same_id_atom z x) (times z (without_repeats xs)) n)

    by : (b : Bool) → InOrder (if b then without_repeats xs else x ∷ without_repeats xs)
    by true = rest
    by false = order_next (λ z n. f z (was z n)) rest

-- what is left stands in order
order_cut : (xs : List AtomId) → InOrder xs → InOrder (without_repeats xs)
order_cut [] o = order_none
order_cut (x ∷ xs) (order_next f o) = order_on x xs (order_next f o) o (order_cut xs o)

-- the answers of a call that sorts and then takes repeats out
pub cut_order : {E : Type 0} (ys zs : List AtomId) → zs ≡ ys → IsSorted cmp-value.it ys → (r : Result AtomVec E) → IfOk r (λ kept. kept.items ≡ without_repeats zs) → IfOk r (λ kept. InOrder kept.items)
cut_order ys zs v s (Ok kept) e = subst InOrder (sym (e ∙ ap without_repeats v)) (order_cut ys (sorted_order ys s))
cut_order ys zs v s (Err x) e = tt

pub cut_to : {E : Type 0} (xs ys zs : List AtomId) → zs ≡ ys → IsPermutation xs ys → IsSorted cmp-value.it ys → (r : Result AtomVec E) → IfOk r (λ kept. kept.items ≡ without_repeats zs) → IfOk r (λ kept. IsCutTo xs kept.items)
cut_to xs ys zs v p s (Ok kept) e = record { at = λ a. ap (times a) (e ∙ ap without_repeats v) ∙ times_cut a ys (sorted_order ys s) ∙ ap (cut_times a) (times_sorted a xs ys p) }
cut_to xs ys zs v p s (Err x) e = tt

-- a list of one atom at most is in order, and has no repeats
pub short_order : (xs : List AtomId) → length xs < 2 → InOrder xs
short_order [] h = order_none
short_order (x ∷ []) h = order_next (λ z n. ⊎_elim (λ e. subst (IsNotAfter x) (sym (atom_same z x e)) (itself x)) (λ m. absurd (omega arith)) (two_ways (same_id_atom z x) 0 n)) order_none
short_order (x ∷ (y ∷ xs)) h = absurd (omega arith)

pub short_cut : (xs : List AtomId) → length xs < 2 → IsCutTo xs xs
short_cut [] h = record { at = λ a. sym (cut_none a) }
short_cut (x ∷ []) h = record { at = λ a. times_cut a (x ∷ []) (short_order (x ∷ []) h) }
short_cut (x ∷ (y ∷ xs)) h = absurd (omega arith)

-- what is left from a place on
pub repeats_none : (xs : List AtomId) (n : ℕ) → length xs ≤ n + 1 → repeats (drop n xs) ≡ false
repeats_none [] zero h = refl
repeats_none [] (suc n) h = refl
repeats_none (x ∷ []) zero h = refl
repeats_none (x ∷ (y ∷ xs)) zero h = absurd (omega arith)
repeats_none (x ∷ xs) (suc n) h = repeats_none xs n (omega arith)

left_skip : (xs : List AtomId) (n : ℕ) → n < length xs → repeats (drop n xs) ≡ true → without_repeats (drop n xs) ≡ without_repeats (drop (n + 1) xs)
left_skip [] n h k = absurd (omega arith)
left_skip (x ∷ xs) zero h k = ap (λ b. if b then without_repeats xs else x ∷ without_repeats xs) k
left_skip (x ∷ xs) (suc n) h k = let e : suc (n + 1) ≡ suc n + 1 = omega arith in left_skip xs n (omega arith) k ∙ ap (λ j. without_repeats (drop j (x ∷ xs))) e

left_keep : (xs : List AtomId) (n : ℕ) (y : AtomId) → n < length xs → y ≡ get_or xs n y → repeats (drop n xs) ≡ false → without_repeats (drop n xs) ≡ y ∷ without_repeats (drop (n + 1) xs)
left_keep [] n y l h k = absurd (omega arith)
left_keep (x ∷ xs) zero y l h k = ap (λ b. if b then without_repeats xs else x ∷ without_repeats xs) k ∙ ap (λ z. z ∷ without_repeats xs) (sym h)
left_keep (x ∷ xs) (suc n) y l h k = let e : suc (n + 1) ≡ suc n + 1 = omega arith in left_keep xs n y (omega arith) h k ∙ ap (λ j. y ∷ without_repeats (drop j (x ∷ xs))) e

-- what stands below the length stands there whatever else is given
pub get_any : (xs : List AtomId) (n : ℕ) (d e : AtomId) → n < length xs → get_or xs n d ≡ get_or xs n e
get_any [] n d e h = absurd (omega arith)
get_any (x ∷ xs) zero d e h = refl
get_any (x ∷ xs) (suc n) d e h = get_any xs n d e (omega arith)

-- a turn of the loop that takes repeats out
pub left_next : (xs : List AtomId) (n : ℕ) (x : AtomId) (b : Bool) (kept more all : List AtomId) → n < length xs → x ≡ get_or xs n x → b ≡ repeats (drop n xs) → more ≡ (if b then kept else kept ++ x ∷ []) → kept ++ without_repeats (drop n xs) ≡ all → more ++ without_repeats (drop (n + 1) xs) ≡ all
left_next xs n x true kept more all l g e m h = ap (λ zs. zs ++ without_repeats (drop (n + 1) xs)) m ∙ ap (λ zs. kept ++ zs) (sym (left_skip xs n l (sym e))) ∙ h
left_next xs n x false kept more all l g e m h =
    ap (λ zs. zs ++ without_repeats (drop (n + 1) xs)) m ∙ append_assoc kept (x ∷ []) (without_repeats (drop (n + 1) xs)) ∙ ap (λ zs. kept ++ zs) (sym (left_keep xs n x l g (sym e))) ∙ h
