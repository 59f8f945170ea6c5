-- Laws of counts, and what the tests of counts and of types decide.
use Rattle.std.proofs.Common.{◌≡◌, refl, sym, ◌∙◌, ap, subst, ℕ, ◌+◌, ◌≤◌, ◌↔◌, IsTrue, min, Bool, true, false, ◌&&◌, [], ◌∷◌, ◌++◌, if◌then◌else◌, ◌≢◌, ◌⊎◌, inl, inr, ⊎_elim, arith, le_of_eq, le-leb, leb-true}
use Rattle.std.proofs.lemmas.Bool.{cases_lt, false≢true}
use Rattle.spi_term.proofs.Lists.{in_cases}
use Rattle.spi_term.specs.Lists.{In, in_first, in_later}
use Rattle.spi_term.specs.Term.{Atom, ends, checks, many, atom_discrete, same_atom, Effect, Ty, un, unit_ty, pair_ty, sum_ty, key, nonce}
use Rattle.spi_term.specs.Counts.{tally, cut, count, SameEffect}
use Rattle.spi_term.specs.SameTy.{SameTy, same_un, same_unit, same_pair, same_sum, same_key, same_nonce}
use Rattle.spi_term.specs.Tests.{each_within, is_within, same_ty}
use Rattle.spi_term.specs.Equivalences.{CountsAreEquivalent, TypesAreEquivalent}

-- the two kinds of count
pub cut_cases : (a : Atom) → ((n : ℕ) → cut a n ≡ n) ⊎ ((n : ℕ) → cut a n ≡ min n 1)
cut_cases (ends m) = inl λ n. refl
cut_cases (checks m) = inl λ n. refl
cut_cases (many m) = inr λ n. refl

pub cut_le : (a : Atom) (m n : ℕ) → m ≤ n → cut a m ≤ cut a n
cut_le (ends l) m n h = h
cut_le (checks l) m n h = h
cut_le (many l) m n h = omega arith

pub tally_append : (a : Atom) (es fs : Effect) → tally a (es ++ fs) ≡ tally a es + tally a fs
tally_append a [] fs = omega arith
tally_append a (b ∷ es) fs = omega (arith, tally_append a es fs)

pub same_sym : {es fs : Effect} → SameEffect es fs → SameEffect fs es
same_sym h = record { at = λ a. sym (h.at a) }

pub same_refl : (es : Effect) → SameEffect es es
same_refl es = record { at = λ a. refl }

pub same_trans : {es fs gs : Effect} → SameEffect es fs → SameEffect fs gs → SameEffect es gs
same_trans h k = record { at = λ a. h.at a ∙ k.at a }

-- the test of atoms
pub same_atom_refl : (a : Atom) → same_atom a a ≡ true
same_atom_refl a = go (atom_discrete a a)
  where
    go : (d : Dec (a ≡ a)) → (elim d [ yes e ↦ true | no n ↦ false ]) ≡ true
    go (yes e) = refl
    go (no n) = absurd (n refl)

pub same_atom_true : (a b : Atom) → same_atom a b ≡ true → a ≡ b
same_atom_true a b = go (atom_discrete a b)
  where
    go : (d : Dec (a ≡ b)) → (elim d [ yes e ↦ true | no n ↦ false ]) ≡ true → a ≡ b
    go (yes e) h = e
    go (no n) h = cc

-- an atom stands in a list where its count is not 0
pub in_tally : {a : Atom} {es : Effect} → In a es → 1 ≤ tally a es
in_tally {a} (in_first {xs}) = rw (same_atom_refl a) (omega arith)
in_tally {a} (in_later {y} {xs} i) = let h = in_tally i in omega arith

pub tally_in : (a : Atom) (es : Effect) → 1 ≤ tally a es → In a es
tally_in a [] h = absurd (omega arith)
tally_in a (b ∷ es) h = go (same_atom a b) refl h (λ k. tally_in a es k)
  where
    go : (t : Bool) → same_atom a b ≡ t → 1 ≤ (if t then 1 else 0) + tally a es → (1 ≤ tally a es → In a es) → In a (b ∷ es)
    go true e k ih = subst (λ c. In a (c ∷ es)) (same_atom_true a b e) in_first
    go false e k ih = in_later (ih (omega arith))

pub count_tally : (a : Atom) (n : ℕ) → (1 ≤ cut a n → 1 ≤ n) × (1 ≤ n → 1 ≤ cut a n)
count_tally a n = ⊎_elim (λ c. (λ h. omega arith, λ h. omega arith)) (λ c. (λ h. omega arith, λ h. omega arith)) (cut_cases a)

-- an atom that counts is in the effect, and the other way round
pub count_in : (a : Atom) (es : Effect) → 1 ≤ count a es → In a es
count_in a es h = tally_in a es ((count_tally a (tally a es)).0 h)

pub in_count : (a : Atom) (es : Effect) → In a es → 1 ≤ count a es
in_count a es i = (count_tally a (tally a es)).1 (in_tally i)

-- no atom counts in the effect without atoms
pub count_none : (a : Atom) → count a [] ≡ 0
count_none (ends m) = refl
count_none (checks m) = refl
count_none (many m) = omega arith

pub cut_twice : (a : Atom) (n : ℕ) → cut a (cut a n) ≡ cut a n
cut_twice (ends m) n = refl
cut_twice (checks m) n = refl
cut_twice (many m) n = omega arith

pub same_ty_refl : (t : Ty) → SameTy t t
same_ty_refl un = same_un
same_ty_refl unit_ty = same_unit
same_ty_refl (pair_ty t u) = same_pair (same_ty_refl t) (same_ty_refl u)
same_ty_refl (sum_ty t u) = same_sum (same_ty_refl t) (same_ty_refl u)
same_ty_refl (key t) = same_key (same_ty_refl t)
same_ty_refl (nonce es) = same_nonce (same_refl es)

-- two types that are both the same as a third
same_ty_both : {t u v : Ty} → SameTy t u → SameTy t v → SameTy u v
same_ty_both same_un same_un = same_un
same_ty_both same_unit same_unit = same_unit
same_ty_both (same_pair h j) (same_pair h' j') = same_pair (same_ty_both h h') (same_ty_both j j')
same_ty_both (same_sum h j) (same_sum h' j') = same_sum (same_ty_both h h') (same_ty_both j j')
same_ty_both (same_key h) (same_key h') = same_key (same_ty_both h h')
same_ty_both (same_nonce h) (same_nonce h') = same_nonce (same_trans (same_sym h) h')

pub same_ty_sym : {t u : Ty} → SameTy t u → SameTy u t
same_ty_sym {t} h = same_ty_both h (same_ty_refl t)

pub same_ty_trans : {t u v : Ty} → SameTy t u → SameTy u v → SameTy t v
same_ty_trans h k = same_ty_both (same_ty_sym h) k

pub same_other : (c a : Atom) → c ≢ a → same_atom c a ≡ false
same_other c a d = go (atom_discrete c a)
  where
    go : (e : Dec (c ≡ a)) → (elim e [ yes e ↦ true | no n ↦ false ]) ≡ false
    go (yes e) = absurd (d e)
    go (no n) = refl

-- an answer that is right is the test
pub same_is : (t : Bool) (a b : Atom) → IsTrue t ↔ (a ≡ b) → t ≡ same_atom a b
same_is true a b h = sym (ap (same_atom a) (sym (h.0 refl)) ∙ same_atom_refl a)
same_is false a b h = sym (same_other a b (λ e. false≢true (h.1 e)))

-- the tests
pub and_true : (a b : Bool) → (a && b) ≡ true → (a ≡ true) × (b ≡ true)
and_true true b h = (refl, h)
and_true false b h = cc

pub both_true : {a b : Bool} → a ≡ true → b ≡ true → (a && b) ≡ true
both_true h k = rw (h, k)

pub same_both : {es fs : Effect} → ((a : Atom) → count a es ≤ count a fs) → ((a : Atom) → count a fs ≤ count a es) → SameEffect es fs
same_both h k = record { at = λ a. let x = h a in let y = k a in omega arith }

each_sound : (gs es fs : Effect) (a : Atom) → In a gs → each_within gs es fs ≡ true → count a es ≤ count a fs
each_sound [] es fs a i h = elim i [ ]
each_sound (b ∷ gs) es fs a i h =
    let r = and_true _ _ h in
    ⊎_elim (λ e. subst (λ c. count c es ≤ count c fs) (sym e) (leb-true _ _ r.0)) (λ j. each_sound gs es fs a j r.1) (in_cases i)

pub each_complete_in : (gs es fs : Effect) → ((a : Atom) → In a gs → count a es ≤ count a fs) → each_within gs es fs ≡ true
each_complete_in [] es fs w = refl
each_complete_in (a ∷ gs) es fs w = both_true (le-leb _ _ (w a in_first)) (each_complete_in gs es fs (λ b i. w b (in_later i)))

-- the test of counts decides whether one effect is within another
pub is_within_sound : (es fs : Effect) → is_within es fs ≡ true → (a : Atom) → count a es ≤ count a fs
is_within_sound es fs h a =
    ⊎_elim
    (λ none. ⊎_elim (λ c. omega arith) (λ c. omega arith) (cut_cases a))
    (λ some. each_sound es es fs a (tally_in a es some) h)
    (cases_lt (tally a es) 1)

pub is_within_complete : (es fs : Effect) → ((a : Atom) → count a es ≤ count a fs) → is_within es fs ≡ true
is_within_complete es fs w = each_complete_in es es fs (λ a i. w a)

-- the test of types decides sameness
pub same_sound : (t u : Ty) → same_ty t u ≡ true → SameTy t u
same_sound un un h = same_un
same_sound unit_ty unit_ty h = same_unit
same_sound (pair_ty t u) (pair_ty v w) h = let r = and_true _ _ h in same_pair (same_sound t v r.0) (same_sound u w r.1)
same_sound (sum_ty t u) (sum_ty v w) h = let r = and_true _ _ h in same_sum (same_sound t v r.0) (same_sound u w r.1)
same_sound (key t) (key u) h = same_key (same_sound t u h)
same_sound (nonce es) (nonce fs) h = let r = and_true _ _ h in same_nonce (same_both (is_within_sound es fs r.0) (is_within_sound fs es r.1))
same_sound _ _ h = cc

pub same_complete : {t u : Ty} → SameTy t u → same_ty t u ≡ true
same_complete same_un = refl
same_complete same_unit = refl
same_complete (same_pair h k) = both_true (same_complete h) (same_complete k)
same_complete (same_sum h k) = both_true (same_complete h) (same_complete k)
same_complete (same_key h) = same_complete h
same_complete (same_nonce {es} {fs} h) =
    both_true (is_within_complete es fs (λ a. le_of_eq (h.at a))) (is_within_complete fs es (λ a. le_of_eq (sym (h.at a))))

-- an answer that is the test decides sameness
pub is_same_ty : (b : Bool) (t u : Ty) → b ≡ same_ty t u → IsTrue b ↔ SameTy t u
is_same_ty b t u e = (λ h. same_sound t u (sym e ∙ h), λ s. e ∙ same_complete s)

-- the laws
pub counts_equivalent : CountsAreEquivalent
counts_equivalent = record { reflexive = same_refl; symmetric = λ a b. same_sym; transitive = λ a b c. same_trans }

pub types_equivalent : TypesAreEquivalent
types_equivalent = record { reflexive = same_ty_refl; symmetric = λ a b. same_ty_sym; transitive = λ a b c. same_ty_trans }
