-- Whether an effect is within another, chunk by chunk.
use Rattle.std.proofs.Common.{◌≡◌, refl, sym, ◌∙◌, ap, subst, ℕ, zero, suc, ◌+◌, ◌<◌, ◌≤◌, ◌↔◌, Bool, true, false, true≢false, List, [], ◌∷◌, ◌++◌, Some, length, map, take, drop, ◌-◌, get_or, if◌then◌else◌, ◌⊎◌, inl, inr, ⊎_elim, arith, Bor}
use Rattle.std.proofs.lemmas.Bool.{cases_Bool}
use Rattle.std.specs.Prelude.{slice_get, slice_index}
use Rattle.std.specs.List.{sum_by}
use Rattle.std.specs.List.Sorted.{IsPermutation}
use Rattle.std.proofs.lemmas.List.Sorted.{sum_by-IsPermutation, IsPermutation-sym}
use Rattle.std.proofs.lemmas.List.Sums.{sum_by-cons}
use Rattle.spi_term.proofs.Lists.{get_at, in_cases, in_append}
use Rattle.spi_term.specs.Lists.{At, at_first, at_later, In, in_first, in_later}
use Rattle.spi_term.specs.Term.{Atom, same_atom, Effect}
use Rattle.spi_term.specs.Counts.{tally, cut, count}
use Rattle.spi_term.specs.Tests.{is_within}
use Rattle.spi_term.specs.Looking.{IsFirstPlace, IsTally, AreFewer, AllWithin}
use Rattle.spi_term.specs.View.{pointed}
use Rattle.spi_term.specs.declared.term.Atom.{Atom as Atom-code}
use Rattle.spi_term.proofs.Counting.{same_atom_refl, same_atom_true, in_tally, tally_in, each_complete_in, is_within_sound}
use Rattle.spi_term.proofs.Lookup.{seen, pointed_at, place_unique, one_element}

-- an atom that stands in a list has a place there
place_next : (a b : Atom) (es : Effect) (i : ℕ) → same_atom a b ≡ false → IsFirstPlace a es (Some i) → IsFirstPlace a (b ∷ es) (Some (suc i))
place_next a b es i d p = (p.0, before)
  where
    before : (k : ℕ) → k < suc i → slice_get (b ∷ es) k ≡ Some a → ⊥
    before zero h e = true≢false (sym (subst (λ c. same_atom a c ≡ true) (sym (one_element e)) (same_atom_refl a)) ∙ d)
    before (suc k) h e = p.1 k (omega arith) e

place_first : (a b : Atom) (es : Effect) → same_atom a b ≡ true → IsFirstPlace a (b ∷ es) (Some zero)
place_first a b es d = (ap Some (sym (same_atom_true a b d)), λ k h. absurd (omega arith))

pub place_exists : (a : Atom) (es : Effect) → In a es → (i : ℕ) × IsFirstPlace a es (Some i)
place_exists a [] i = elim i [ ]
place_exists a (b ∷ es) i = ⊎_elim
    (λ (d : same_atom a b ≡ true). (zero, place_first a b es d))
    (λ (d : same_atom a b ≡ false). let (j, p) = place_exists a es (tally_in a es (later d (in_tally i))) in (suc j, place_next a b es j d p))
    (cases_Bool (same_atom a b))
  where
    later : same_atom a b ≡ false → 1 ≤ (if same_atom a b then 1 else 0) + tally a es → 1 ≤ tally a es
    later d h = let P : Bool → Type 0 = λ t. 1 ≤ (if t then 1 else 0) + tally a es in let k : P false = subst P d h in omega arith

at_in : {a : Atom} {es : Effect} {i : ℕ} → At es i a → In a es
at_in at_first = in_first
at_in (at_later h) = in_later (at_in h)

-- the same atoms stand in a list in another order
tally_sum : (a : Atom) (es : Effect) → tally a es ≡ sum_by (λ b. if same_atom a b then 1 else 0) es
tally_sum a [] = refl
tally_sum a (b ∷ es) = ap (λ n. (if same_atom a b then 1 else 0) + n) (tally_sum a es) ∙ sym (sum_by-cons (λ c. if same_atom a c then 1 else 0) b es)

pub in_permutation : (a : Atom) (es fs : Effect) → IsPermutation es fs → In a es → In a fs
in_permutation a es fs p i =
    tally_in a fs (subst (λ n. 1 ≤ n) (tally_sum a es ∙ sym (sum_by-IsPermutation (λ b. if same_atom a b then 1 else 0) es fs p) ∙ sym (tally_sum a fs)) (in_tally i))

-- what is written at the places decides
pub sorted_told : (sorted es fs : Effect) (ours theirs : List ℕ) → IsTally sorted es ours → IsTally sorted fs theirs → AreFewer sorted ours theirs ↔ AllWithin sorted es fs
sorted_told sorted es fs ours theirs s t = (there, back)
  where
    there : AreFewer sorted ours theirs → AllWithin sorted es fs
    there f = record {
      at = λ a i.
          let (k, q) = place_exists a sorted i in
          subst (λ n. cut a n ≤ count a fs) (s.at a k q) (subst (λ n. cut a (slice_index ours k) ≤ cut a n) (t.at a k q) (f.at a k q));
    }

    back : AllWithin sorted es fs → AreFewer sorted ours theirs
    back w = record {
      at = λ a k q.
          let h = w.at a (at_in (get_at sorted k q.0)) in
          subst (λ n. cut a n ≤ cut a (slice_index theirs k)) (sym (s.at a k q)) (subst (λ n. count a es ≤ cut a n) (sym (t.at a k q)) h);
    }

all_within_permuted : (gs hs es fs : Effect) → IsPermutation gs hs → AllWithin hs es fs → AllWithin gs es fs
all_within_permuted gs hs es fs p w = record { at = λ a i. w.at a (in_permutation a gs hs p i) }

-- sorted or not
pub chunk_told : (P : Type 0) (chunk before after es fs : Effect) → before ≡ chunk → IsPermutation before after → P ↔ AllWithin after es fs → P ↔ AllWithin chunk es fs
chunk_told P chunk before after es fs e p h =
    subst (λ l. P ↔ AllWithin l es fs) e
    (λ q. all_within_permuted before after es fs p (h.0 q), λ w. h.1 (all_within_permuted after before es fs (IsPermutation-sym before after p) w))

-- one more place
pub fewer_more : (rs : List (Bor Atom-code)) (ours theirs : List ℕ) (n : ℕ) (r : Bor Atom-code) (place : ℕ) → n < length rs → r ≡ get_or rs n r → IsFirstPlace (seen r) (pointed rs) (Some place) → cut (seen r) (slice_index ours place) ≤ cut (seen r) (slice_index theirs place) → ((a : Atom) (i : ℕ) → i < n → IsFirstPlace a (pointed rs) (Some i) → cut a (slice_index ours i) ≤ cut a (slice_index theirs i)) → (a : Atom) (i : ℕ) → i < n + 1 → IsFirstPlace a (pointed rs) (Some i) → cut a (slice_index ours i) ≤ cut a (slice_index theirs i)
fewer_more rs ours theirs n r place w g q le before a i h p = ⊎_elim (λ (k : i < n). before a i k p) here (sides i n h)
  where
    sides : (i n : ℕ) → i < n + 1 → (i < n) ⊎ (i ≡ n)
    sides zero zero h = inr refl
    sides zero (suc n) h = inl (omega arith)
    sides (suc i) zero h = absurd (omega arith)
    sides (suc i) (suc n) h = ⊎_elim (λ k. inl (omega arith)) (λ k. inr (ap suc k)) (sides i n (omega arith))

    here : i ≡ n → cut a (slice_index ours i) ≤ cut a (slice_index theirs i)
    here e =
        let same : a ≡ seen r = one_element (sym p.0 ∙ ap (slice_get (pointed rs)) e ∙ pointed_at rs n r w g) in
        let there : i ≡ place = place_unique (seen r) (pointed rs) i place (subst (λ b. IsFirstPlace b (pointed rs) (Some i)) same p) q in
        subst (λ b. cut b (slice_index ours i) ≤ cut b (slice_index theirs i)) (sym same) (subst (λ k. cut (seen r) (slice_index ours k) ≤ cut (seen r) (slice_index theirs k)) (sym there) le)

-- a list by its parts
pub all_within_none : (es fs : Effect) → AllWithin [] es fs
all_within_none es fs = record { at = λ a i. elim i [ ] }

pub all_within_append : (gs hs es fs : Effect) → AllWithin gs es fs → AllWithin hs es fs → AllWithin (gs ++ hs) es fs
all_within_append gs hs es fs v w = record { at = λ a i. ⊎_elim (λ j. v.at a j) (λ j. w.at a j) (in_append gs i) }

-- up to a place, and from there to another
take_drop : {A B : Type 0} (f : A → B) (xs : List A) (m n k : ℕ) → k ≡ m + n → map f (take k xs) ≡ map f (take m xs) ++ map f (take n (drop m xs))
take_drop f xs zero n k e = let h : k ≡ n = omega arith in ap (λ z. map f (take z xs)) h
take_drop f [] (suc m) zero zero e = refl
take_drop f [] (suc m) zero (suc k) e = refl
take_drop f [] (suc m) (suc n) zero e = refl
take_drop f [] (suc m) (suc n) (suc k) e = refl
take_drop f (x ∷ xs) (suc m) n zero e = absurd (omega arith)
take_drop f (x ∷ xs) (suc m) n (suc k) e = ap (λ l. f x ∷ l) (take_drop f xs m n k (omega arith))

pub all_within_more : {A : Type 0} (f : A → Atom) (xs : List A) (m k : ℕ) (es fs : Effect) → m ≤ k → AllWithin (map f (take m xs)) es fs → AllWithin (map f (take (k - m) (drop m xs))) es fs → AllWithin (map f (take k xs)) es fs
all_within_more f xs m k es fs le v w =
    let e : k ≡ m + (k - m) = omega arith in
    (subst (λ l. AllWithin l es fs) (sym (take_drop f xs m (k - m) k e)) (all_within_append (map f (take m xs)) (map f (take (k - m) (drop m xs))) es fs v w))

take_whole : {A B : Type 0} (f : A → B) (xs : List A) (n : ℕ) → length xs ≤ n → map f (take n xs) ≡ map f xs
take_whole f [] zero h = refl
take_whole f [] (suc n) h = refl
take_whole f (x ∷ xs) zero h = absurd (omega arith)
take_whole f (x ∷ xs) (suc n) h = ap (λ l. f x ∷ l) (take_whole f xs n (omega arith))

in_take : {A : Type 0} (f : A → Atom) (xs : List A) (n : ℕ) (a : Atom) → In a (map f (take n xs)) → In a (map f xs)
in_take f [] zero a i = i
in_take f [] (suc n) a i = i
in_take f (x ∷ xs) zero a i = elim i [ ]
in_take f (x ∷ xs) (suc n) a i = ⊎_elim (λ e. subst (λ b. In b (f x ∷ map f xs)) (sym e) in_first) (λ j. in_later (in_take f xs n a j)) (in_cases i)

-- all parts decide
pub all_within_told : {A : Type 0} (f : A → Atom) (xs : List A) (n : ℕ) (fs : Effect) → length xs ≤ n → AllWithin (map f (take n xs)) (map f xs) fs → true ≡ is_within (map f xs) fs
all_within_told f xs n fs h w = sym (each_complete_in (map f xs) (map f xs) fs (subst (λ l. AllWithin l (map f xs) fs) (take_whole f xs n h) w).at)

pub part_not_within : (gs es fs : Effect) → (AllWithin gs es fs → ⊥) → false ≡ is_within es fs
part_not_within gs es fs n = ⊎_elim
    (λ (t : is_within es fs ≡ true). absurd (n record { at = λ a i. is_within_sound es fs t a }))
    (λ (f : is_within es fs ≡ false). sym f)
    (cases_Bool (is_within es fs))
