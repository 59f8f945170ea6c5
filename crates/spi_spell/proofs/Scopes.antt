-- The names in scope where n names are bound, by their spellings, and what number each has.
use Rattle.std.proofs.Common.{◌≡◌, ◌≢◌, ℕ, zero, suc, ◌+◌, ◌^◌, ◌<◌, ◌≤◌, Bool, true, false, if◌then◌else◌, List, [], ◌∷◌, ◌++◌, length, map, reverse, Option, Some, None, slice_get, bytes_eq, refl, sym, ◌∙◌, ap, arith, append_assoc, append-nil}
use Rattle.std.specs.List.{AllByRecursion}
use Rattle.std.specs.Fmt.{decimal}
use Rattle.std.specs.Str.Parse.{digits_value}
use Rattle.std.proofs.lemmas.Fmt.{decimal_is_IsNumeral_wide}
use Rattle.std.proofs.lemmas.List.{reverse-append, reverse-reverse}
use Rattle.std.proofs.lemmas.Slice.Eq.{bytes_eq-Decides}
use Rattle.spi_gen.specs.Handshake.{word}
use Rattle.spi_scope.specs.Scope.{Names, number_of}
use Rattle.spi_scope.specs.Points.{all_names, with_free}
use Rattle.spi_show.specs.Spelled.{bound_text, given_text, name_text, IsApart}
use Rattle.spi_spell.proofs.Printed.{free_trees}
use Rattle.spi_spell.proofs.Printable.{AreDistinct}

-- the names with numbers below n, the innermost first
abbrev pub in_scope : (ℕ → List ℕ) → ℕ → Names
in_scope spell zero = []
in_scope spell (suc n) = spell n ∷ in_scope spell n

pub scope_length : (spell : ℕ → List ℕ) (n : ℕ) → length (in_scope spell n) ≡ n
scope_length spell zero = refl
scope_length spell (suc n) = ap suc (scope_length spell n)

-- no two of these names are spelled alike
abbrev pub NamesAreApart : ℕ → (ℕ → List ℕ) → Type 0
NamesAreApart most spell = (i j : ℕ) → i < most → j < most → spell i ≡ spell j → i ≡ j

-- ---- numbers of names

module _ (most : ℕ) (spell : ℕ → List ℕ) (apart : NamesAreApart most spell) where
  pub found : (n i : ℕ) → i < n → n ≤ most → number_of (in_scope spell n) (spell i) ≡ Some i
  found zero i h few = absurd (omega (arith, h))
  found (suc n) i h few = by (bytes_eq (spell n) (spell i)) refl (λ other. found n i other (omega (arith, few)))
    where
      by : (b : Bool) → bytes_eq (spell n) (spell i) ≡ b → (i < n → number_of (in_scope spell n) (spell i) ≡ Some i)
          → (if b then Some (length (in_scope spell n)) else number_of (in_scope spell n) (spell i)) ≡ Some i
      by true e k =
          let same : n ≡ i = apart n i (omega (arith, few)) (omega (arith, h, few)) ((bytes_eq-Decides (spell n) (spell i)).0 e) in
          ap Some (scope_length spell n ∙ same)
      by false e k = k (omega (arith, h, other))
        where
          other : n ≡ i → ⊥
          other same =
              let alike : bytes_eq (spell n) (spell i) ≡ true = (bytes_eq-Decides (spell n) (spell i)).1 (ap spell same) in
              let wrong : true ≡ false = sym alike ∙ e in
              absurd (cc)

  pub unknown : (n i : ℕ) → n ≤ i → i < most → number_of (in_scope spell n) (spell i) ≡ None
  unknown zero i h few = refl
  unknown (suc n) i h few = by (bytes_eq (spell n) (spell i)) refl (unknown n i (omega (arith, h)) few)
    where
      by : (b : Bool) → bytes_eq (spell n) (spell i) ≡ b → number_of (in_scope spell n) (spell i) ≡ None
          → (if b then Some (length (in_scope spell n)) else number_of (in_scope spell n) (spell i)) ≡ None
      by true e k =
          let same : n ≡ i = apart n i (omega (arith, h, few)) few ((bytes_eq-Decides (spell n) (spell i)).0 e) in
          absurd (omega (arith, same, h))
      by false e k = k

-- ---- the names of a file

-- no two numbers below 10 ^ 64 are written alike
decimal_apart : (m n : ℕ) → m < 10 ^ 64 → n < 10 ^ 64 → decimal m ≡ decimal n → m ≡ n
decimal_apart m n p q e = sym (decimal_is_IsNumeral_wide m p).1 ∙ ap (digits_value 10) e ∙ (decimal_is_IsNumeral_wide n q).1

-- the words of a list that has no word twice
not_again : (w v : List ℕ) (ws : List (List ℕ)) (i : ℕ) → AllByRecursion (λ x. w ≢ x) ws → slice_get ws i ≡ Some v → w ≡ v → ⊥
not_again w v [] i h at same = absurd (cc)
not_again w v (x ∷ ws) zero h at same = h.0 (let e : x ≡ v = cc in same ∙ sym e)
not_again w v (x ∷ ws) (suc i) h at same = not_again w v ws i h.1 at same

one_place : (ws : List (List ℕ)) (i j : ℕ) (v w : List ℕ) → AreDistinct ws → slice_get ws i ≡ Some v → slice_get ws j ≡ Some w → v ≡ w → i ≡ j
one_place [] i j v w h at there same = absurd (cc)
one_place (x ∷ ws) zero zero v w h at there same = refl
one_place (x ∷ ws) zero (suc j) v w h at there same = absurd (not_again x w ws j h.0 there (let e : x ≡ v = cc in e ∙ same))
one_place (x ∷ ws) (suc i) zero v w h at there same = absurd (not_again x v ws i h.0 at (let e : x ≡ w = cc in e ∙ sym same))
one_place (x ∷ ws) (suc i) (suc j) v w h at there same = ap suc (one_place ws i j v w h.1 at there same)

-- free names and bound ones are spelled differently
pub names_apart : (names : List (List ℕ)) (s : ℕ) → AreDistinct names → IsApart names s → s < 10 ^ 60 → NamesAreApart 100000 (name_text s names)
names_apart names s distinct apart low i j few fewer = by (slice_get names i) (slice_get names j) refl refl
  where
    by : (o p : Option (List ℕ)) → slice_get names i ≡ o → slice_get names j ≡ p → given_text o (bound_text s i) ≡ given_text p (bound_text s j) → i ≡ j
    by (Some v) (Some w) e f same = one_place names i j v w distinct e f same
    by (Some v) None e f same = absurd (apart (j + s) i (omega arith) (omega (arith, fewer)) (e ∙ ap Some same))
    by None (Some w) e f same = absurd (apart (i + s) j (omega arith) (omega (arith, few)) (f ∙ ap Some (sym same)))
    by None None e f same =
        let digits : decimal (i + s) ≡ decimal (j + s) = cc in
        let sums : i + s ≡ j + s = decimal_apart (i + s) (j + s) (omega (arith, few, low)) (omega (arith, fewer, low)) digits in
        omega (arith, sums)

-- these are the spellings from number m on
abbrev pub AreSpelled : (ℕ → List ℕ) → ℕ → List (List ℕ) → Type 0
AreSpelled spell m [] = Unit {0}
AreSpelled spell m (w ∷ ws) = (spell m ≡ w) × AreSpelled spell (suc m) ws

spelled_from : (spell : ℕ → List ℕ) (m : ℕ) (ws : List (List ℕ)) → ((i : ℕ) (w : List ℕ) → slice_get ws i ≡ Some w → spell (m + i) ≡ w) → AreSpelled spell m ws
spelled_from spell m [] h = tt
spelled_from spell m (w ∷ ws) h =
    let first : spell m ≡ w = ap spell (omega arith) ∙ h 0 w refl in
    (first, spelled_from spell (suc m) ws (λ i v at. ap spell (omega arith) ∙ h (suc i) v at))

pub free_spelled : (s : ℕ) (names : List (List ℕ)) → AreSpelled (name_text s names) 0 names
free_spelled s names = spelled_from (name_text s names) 0 names (λ i w at. ap (name_text s names) (omega arith) ∙ ap (λ o. given_text o (bound_text s i)) at)

-- what declarations bring into scope
free_in_scope : (spell : ℕ → List ℕ) (m : ℕ) (ws : List (List ℕ)) → AreSpelled spell m ws → with_free (in_scope spell m) (map word ws) ≡ in_scope spell (m + length ws)
free_in_scope spell m [] h = ap (in_scope spell) (omega arith)
free_in_scope spell m (w ∷ ws) h =
    ap (λ v. with_free (v ∷ in_scope spell m) (map word ws)) (sym h.0) ∙ free_in_scope spell (suc m) ws h.1 ∙ ap (in_scope spell) (omega arith)

free_reversed : (ws : List (List ℕ)) (xs : Names) → with_free xs (map word ws) ≡ reverse ws ++ xs
free_reversed [] xs = refl
free_reversed (w ∷ ws) xs =
    free_reversed ws (w ∷ xs) ∙ sym (append_assoc (reverse ws) (w ∷ []) xs) ∙ ap (λ l. l ++ xs) (sym (reverse-append (w ∷ []) ws))

pub declared_names : (names : List (List ℕ)) (s : ℕ) → all_names [] (free_trees names) ≡ in_scope (name_text s names) (length names)
declared_names [] s = refl
declared_names (w ∷ ws) s =
    let none : 0 + length (w ∷ ws) ≡ length (w ∷ ws) = omega arith in
    free_in_scope (name_text s (w ∷ ws)) 0 (w ∷ ws) (free_spelled s (w ∷ ws)) ∙ ap (in_scope (name_text s (w ∷ ws))) none

pub declared_reversed : (names : List (List ℕ)) → names ≡ reverse (all_names [] (free_trees names))
declared_reversed [] = refl
declared_reversed (w ∷ ws) =
    sym (reverse-reverse (w ∷ ws)) ∙ ap reverse (sym (append-nil (reverse (w ∷ ws)))) ∙ ap reverse (sym (free_reversed (w ∷ ws) []))
