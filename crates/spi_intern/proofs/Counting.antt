-- Numbers of atoms count as the atoms do, so lists in order that mean effects with equal counts are equal.
use Rattle.std.proofs.Common.{◌≡◌, ℕ, zero, suc, ◌+◌, ◌≤◌, Bool, true, if◌then◌else◌, List, [], ◌∷◌, Some, refl, sym, ap, subst, ◌∙◌, arith, ◌⊎◌, inl, inr, ⊎_elim, slice_get, Result, Ok, Err, IfOk}
use Rattle.spi_term.specs.Term.{Message, Atom, ends, checks, many, Effect, same_atom}
use Rattle.spi_term.specs.Counts.{tally, cut, SameEffect}
use Rattle.spi_term.proofs.Lists.{some_is}
use Rattle.spi_term.proofs.Choices.{truths}
use Rattle.spi_term.proofs.Counting.{same_atom_true, same_atom_refl, cut_twice}
use Rattle.spi_intern.specs.Table.{AllDiffer, TellsAll, tells_none, tells_next}
use Rattle.spi_intern.specs.declared.atoms.AtomId.{AtomId}
use Rattle.spi_intern.specs.declared.atoms.AtomId.TheVariants.{End, Check, Many}
use Rattle.spi_intern.specs.Atoms.{SaysAtom, says_end, says_check, says_many, same_id_atom, times, InOrder, cut_times, IsCutTo, IdsMean}
use Rattle.spi_intern.proofs.EffectLaws.{atom_same, same_of, id_of}
use Rattle.spi_intern.proofs.Sorting.{order_one, two_ways, cut_some}

pub atom_like : {ms : List Message} {i : AtomId} {a b : Atom} → SaysAtom ms i a → SaysAtom ms i b → a ≡ b
atom_like (says_end e) (says_end f) = ap ends (some_is (sym e ∙ f))
atom_like (says_check e) (says_check f) = ap checks (some_is (sym e ∙ f))
atom_like (says_many e) (says_many f) = ap many (some_is (sym e ∙ f))

atom_one : {ms : List Message} {i j : AtomId} {a : Atom} → AllDiffer ms → SaysAtom ms i a → SaysAtom ms j a → i ≡ j
atom_one d (says_end {a = x} e) (says_end {a = y} f) = ap End (id_of x y (d.one _ _ _ e f))
atom_one d (says_check {a = x} e) (says_check {a = y} f) = ap Check (id_of x y (d.one _ _ _ e f))
atom_one d (says_many {a = x} e) (says_many {a = y} f) = ap Many (id_of x y (d.one _ _ _ e f))

tells_like : {ms : List Message} {ids : List AtomId} {es fs : List Atom} → TellsAll (SaysAtom ms) ids es → TellsAll (SaysAtom ms) ids fs → es ≡ fs
tells_like tells_none tells_none = refl
tells_like (tells_next s t) (tells_next r q) = λ i. atom_like s r i ∷ tells_like t q i

abbrev bit : Bool → ℕ
bit b = if b then 1 else 0

tests_agree : {ms : List Message} → AllDiffer ms → (i j : AtomId) (a b : Atom) → SaysAtom ms i a → SaysAtom ms j b → same_id_atom i j ≡ same_atom a b
tests_agree {ms} d i j a b s t = truths (same_id_atom i j) (same_atom a b) there back
  where
    there : same_id_atom i j ≡ true → same_atom a b ≡ true
    there h = let e : a ≡ b = atom_like (subst (λ k. SaysAtom ms k a) (atom_same i j h) s) t in ap (same_atom a) (sym e) ∙ same_atom_refl a

    back : same_atom a b ≡ true → same_id_atom i j ≡ true
    back h = let e : i ≡ j = atom_one d s (subst (SaysAtom ms j) (sym (same_atom_true a b h)) t) in ap (same_id_atom i) (sym e) ∙ same_of i

tally_told : {ms : List Message} {ids : List AtomId} {es : List Atom} → AllDiffer ms → TellsAll (SaysAtom ms) ids es → (i : AtomId) (a : Atom) → SaysAtom ms i a → times i ids ≡ tally a es
tally_told d tells_none i a s = refl
tally_told d (tells_next {p = p} {m = m} t q) i a s = λ k. bit (tests_agree d i p a m s t k) + tally_told d q i a s k

-- a number that stands in the list means an atom
told_in : {ms : List Message} {ids : List AtomId} {es : List Atom} → TellsAll (SaysAtom ms) ids es → (i : AtomId) → 1 ≤ times i ids → (a : Atom) × SaysAtom ms i a
told_in tells_none i h = absurd (omega arith)
told_in {ms} (tells_next {p = p} {m = m} {ps = ps} t q) i h =
    ⊎_elim (λ e. (m, subst (λ k. SaysAtom ms k m) (sym (atom_same i p e)) t)) (λ g. told_in q i g) (two_ways (same_id_atom i p) (times i ps) h)

-- and an atom that stands in the effect has a number
told_of : {ms : List Message} {ids : List AtomId} {es : List Atom} → TellsAll (SaysAtom ms) ids es → (a : Atom) → 1 ≤ tally a es → (i : AtomId) × SaysAtom ms i a
told_of tells_none a h = absurd (omega arith)
told_of {ms} (tells_next {p = p} {m = m} {ms = es} t q) a h =
    ⊎_elim (λ e. (p, subst (SaysAtom ms p) (sym (same_atom_true a m e)) t)) (λ g. told_of q a g) (two_ways (same_atom a m) (tally a es) h)

some_or_none : (n : ℕ) → (1 ≤ n) ⊎ (n ≡ 0)
some_or_none zero = inr refl
some_or_none (suc n) = inl (omega arith)

counts_agree : {ms : List Message} {ids js : List AtomId} {es fs : List Atom} → AllDiffer ms → TellsAll (SaysAtom ms) ids es → TellsAll (SaysAtom ms) js fs → ((a : Atom) → tally a es ≡ tally a fs) → (i : AtomId) → times i ids ≡ times i js
counts_agree {ms} {ids} {js} {es} {fs} d t u h i =
    ⊎_elim (λ w. by (told_in t i w))
    (λ e. ⊎_elim (λ w. by (told_in u i w)) (λ f. e ∙ sym f) (some_or_none (times i js)))
    (some_or_none (times i ids))
  where
    by : (a : Atom) × SaysAtom ms i a → times i ids ≡ times i js
    by w = tally_told d t i w.0 w.1 ∙ h w.0 ∙ sym (tally_told d u i w.0 w.1)

uncut : (es fs : Effect) → ((m : Message) → tally (many m) es ≤ 1) → ((m : Message) → tally (many m) fs ≤ 1) → (a : Atom) → cut a (tally a es) ≡ cut a (tally a fs) → tally a es ≡ tally a fs
uncut es fs f g (ends m) e = e
uncut es fs f g (checks m) e = e
uncut es fs f g (many m) e = let p = f m in let q = g m in omega arith

-- one list means effects with equal counts
pub means_like : {ms : List Message} (ids : List AtomId) (es fs : Effect) → IdsMean ms ids es → IdsMean ms ids fs → SameEffect es fs
means_like ids es fs c d =
    let e : c.told ≡ d.told = tells_like c.each d.each in
    record { at = λ a. sym (c.same.at a) ∙ ap (λ xs. cut a (tally a xs)) e ∙ d.same.at a }

-- and effects with equal counts have one list
pub means_one : {ms : List Message} → AllDiffer ms → (ids js : List AtomId) (es fs : Effect) → IdsMean ms ids es → IdsMean ms js fs → SameEffect es fs → ids ≡ js
means_one k ids js es fs c d s =
    order_one ids js c.order d.order
    (counts_agree k c.each d.each (λ a. uncut c.told d.told c.once d.once a (c.same.at a ∙ s.at a ∙ sym (d.same.at a))))

says_cut : {ms : List Message} {i : AtomId} {a : Atom} (n : ℕ) → SaysAtom ms i a → cut_times i n ≡ cut a n
says_cut n (says_end e) = refl
says_cut n (says_check e) = refl
says_cut n (says_many e) = refl

cut_small : (m : Message) (n : ℕ) → cut (many m) n ≤ 1
cut_small m n = omega arith

told_all : {ms : List Message} (js : List AtomId) → ((i : AtomId) → 1 ≤ times i js → (a : Atom) × SaysAtom ms i a) → (es : Effect) × TellsAll (SaysAtom ms) js es
told_all [] f = ([], tells_none)
told_all (j ∷ js) f =
    let w = f j (subst (λ b. 1 ≤ bit b + times j js) (sym (same_of j)) (first (times j js))) in
    let r = told_all js (λ i n. f i (more (bit (same_id_atom i j)) (times i js) n)) in
    (w.0 ∷ r.0, tells_next w.1 r.1)
  where
    first : (n : ℕ) → 1 ≤ 1 + n
    first n = omega arith

    more : (m n : ℕ) → 1 ≤ n → 1 ≤ m + n
    more m n h = omega arith

-- the list in order, with each `many` once, has the effect's counts
pub cut_means : {ms : List Message} {ids js : List AtomId} {es : Effect} → AllDiffer ms → TellsAll (SaysAtom ms) ids es → IsCutTo ids js → InOrder js → IdsMean ms js es
cut_means {ms} {ids} {js} {es} d t k o = record { told = all.0; each = all.1; same = record { at = same }; once = once; order = o }
  where
    all : (fs : Effect) × TellsAll (SaysAtom ms) js fs
    all = told_all js (λ i n. told_in t i (cut_some i (times i ids) (subst (λ m. 1 ≤ m) (k.at i) n)))

    counted : (a : Atom) → (i : AtomId) × SaysAtom ms i a → tally a all.0 ≡ cut a (tally a es)
    counted a w = sym (tally_told d all.1 w.0 a w.1) ∙ k.at w.0 ∙ says_cut (times w.0 ids) w.1 ∙ ap (cut a) (tally_told d t w.0 a w.1)

    same : (a : Atom) → cut a (tally a all.0) ≡ cut a (tally a es)
    same a =
        ⊎_elim (λ n. ap (cut a) (counted a (told_of all.1 a n)) ∙ cut_twice a (tally a es))
        (λ e. ⊎_elim (λ n. ap (cut a) (counted a (told_of t a n)) ∙ cut_twice a (tally a es)) (λ f. ap (cut a) (e ∙ sym f)) (some_or_none (tally a es)))
        (some_or_none (tally a all.0))

    once : (m : Message) → tally (many m) all.0 ≤ 1
    once m = ⊎_elim (λ n. subst (λ j. j ≤ 1) (sym (counted (many m) (told_of all.1 (many m) n))) (cut_small m (tally (many m) es))) (λ e. subst (λ j. j ≤ 1) (sym e) (omega arith)) (some_or_none (tally (many m) all.0))

pub effect_means : {E : Type 0} {ms : List Message} {ids js : List AtomId} {es : Effect} (ls : List (List AtomId)) → AllDiffer ms → TellsAll (SaysAtom ms) ids es → IsCutTo ids js → InOrder js → (r : Result ℕ E) → IfOk r (λ place. slice_get ls place ≡ Some js) → IfOk r (λ place. (x : List AtomId) × (slice_get ls place ≡ Some x) × IdsMean ms x es)
effect_means {js = js} ls d t k o (Ok place) at = (js, at, cut_means d t k o)
effect_means ls d t k o (Err e) at = tt
