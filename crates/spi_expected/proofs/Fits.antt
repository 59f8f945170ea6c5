-- The candidates fit behind each front of a file's tokens.
use Rattle.std.proofs.Common.{◌≡◌, ℕ, zero, suc, ◌<◌, ◌≤◌, Bool, true, false, List, [], ◌∷◌, ◌++◌, length, map, get_or, None, refl, sym, subst, true≢false, lit≤, arith}
use Rattle.std.specs.Prelude.{codes, ◌&&◌}
use Rattle.std.specs.List.{AllByRecursion}
use Rattle.std.proofs.lemmas.Slice.Eq.{bytes_eq-Decides}
use Rattle.spi_lex.specs.declared.token.Kind.{Kind}
use Rattle.spi_lex.specs.declared.token.Kind.TheVariants as K
use Rattle.spi_lex.specs.declared.token.Mark.{Mark}
use Rattle.spi_lex.specs.declared.token.Reserved.{Reserved}
use Rattle.spi_lex.specs.declared.token.Reserved.TheVariants.{Hash, EndMany, Many}
use Rattle.spi_lex.specs.Words.{word_of, version_1, version_2}
use Rattle.spi_lex.specs.Lexing.{is_version, is_two, is_semicolon, is_version_2}
use Rattle.spi_lex.proofs.Writing.{all_letters, letters_identifier}
use Rattle.spi_tree.specs.Formed.{IsWordFit, AreWordsFit}
use Rattle.spi_parse.proofs.LiveLaws.{version_fit}
use Rattle.spi_parse.proofs.Words.{fewer_words, fit_any}
use Rattle.spi_expected.specs.Expected.{marks, words, candidates}

-- ---- lists

module _ {A : Type 0} (P : A → Type 0) where
  pub all_left : (xs ys : List A) → AllByRecursion P (xs ++ ys) → AllByRecursion P xs
  all_left [] ys h = tt
  all_left (x ∷ xs) ys h = (h.0, all_left xs ys h.1)

  pub all_both : (xs ys : List A) → AllByRecursion P xs → AllByRecursion P ys → AllByRecursion P (xs ++ ys)
  all_both [] ys h k = k
  all_both (x ∷ xs) ys h k = (h.0, all_both xs ys h.1 k)

  pub all_at : (xs : List A) (i : ℕ) (x : A) → x ≡ get_or xs i x → i < length xs → AllByRecursion P xs → P x
  all_at [] i x e l h = absurd (omega (arith, l))
  all_at (y ∷ ys) zero x e l h = subst P (sym e) h.0
  all_at (y ∷ ys) (suc i) x e l h = all_at ys i x e (omega (arith, l)) h.1

-- ---- a word that isn't reserved in version 2 isn't in version 1

pub fits_first : (v : Bool) (k : Kind) → IsWordFit v k → IsWordFit false k
fits_first true (K.Word name) h = (h.0, h.1, fewer_words version_1 (Hash ∷ EndMany ∷ Many ∷ []) name h.2)
fits_first false (K.Word name) h = h
fits_first v (K.Reserved word) h = tt
fits_first v (K.Number value) h = tt
fits_first v (K.Mark m) h = tt

version_word : (k : Kind) → is_version k ≡ true → IsWordFit true k
version_word (K.Word name) h = subst (λ (n : List ℕ). IsWordFit true (K.Word n)) (sym ((bytes_eq-Decides name (codes "version")).0 h)) version_fit
version_word (K.Reserved word) h = tt
version_word (K.Number value) h = tt
version_word (K.Mark m) h = tt

two_number : (k : Kind) → is_two k ≡ true → IsWordFit true k
two_number (K.Word name) h = absurd (true≢false (sym h))
two_number (K.Reserved word) h = tt
two_number (K.Number value) h = tt
two_number (K.Mark m) h = tt

and_left : (a b : Bool) → (a && b) ≡ true → a ≡ true
and_left true b h = refl
and_left false b h = absurd (true≢false (sym h))

and_right : (a b : Bool) → (a && b) ≡ true → b ≡ true
and_right true b h = h
and_right false b h = absurd (true≢false (sym h))

-- three tokens of which the last is a candidate
three : (w : Bool) (a b k : Kind) → is_version_2 (a ∷ b ∷ k ∷ []) ≡ w → IsWordFit false a → IsWordFit false b → IsWordFit true k → AreWordsFit w (a ∷ b ∷ k ∷ [])
three true a b k h fa fb fk =
    let first = and_left (is_version a && is_two b) (is_semicolon k) h in
    (version_word a (and_left (is_version a) (is_two b) first), (two_number b (and_right (is_version a) (is_two b) first), (fk, tt)))
three false a b k h fa fb fk = (fa, (fb, (fits_first true k fk, tt)))

-- behind a front of tokens that fit, a candidate fits
fits_behind : (front rest : List Kind) (k : Kind) → AreWordsFit (is_version_2 (front ++ rest)) (front ++ rest) → IsWordFit true k → AreWordsFit (is_version_2 (front ++ k ∷ [])) (front ++ k ∷ [])
fits_behind [] rest k h f = (fits_first true k f, tt)
fits_behind (a ∷ []) rest k h f = (fits_first _ a h.0, (fits_first true k f, tt))
fits_behind (a ∷ b ∷ []) rest k h f = three (is_version_2 (a ∷ b ∷ k ∷ [])) a b k refl (fits_first _ a h.0) (fits_first _ b h.1.0) f
fits_behind (a ∷ b ∷ c ∷ ds) rest k h f =
    let v = is_version_2 (a ∷ b ∷ c ∷ ds) in
    all_both (IsWordFit v) (a ∷ b ∷ c ∷ ds) (k ∷ []) (all_left (IsWordFit v) (a ∷ b ∷ c ∷ ds) rest h) (fit_any v k f, tt)

pub fits_front : (all front rest : List Kind) (k : Kind) → all ≡ front ++ rest → AreWordsFit (is_version_2 all) all → IsWordFit true k → AreWordsFit (is_version_2 (front ++ k ∷ [])) (front ++ k ∷ [])
fits_front all front rest k e h f = fits_behind front rest k (subst (λ (l : List Kind). AreWordsFit (is_version_2 l) l) e h) f

-- ---- the candidates

reserved_fit : (ws : List Reserved) → AreWordsFit true (map K.Reserved ws)
reserved_fit [] = tt
reserved_fit (w ∷ ws) = (tt, reserved_fit ws)

marks_fit : (ms : List Mark) → AreWordsFit true (map K.Mark ms)
marks_fit [] = tt
marks_fit (m ∷ ms) = (tt, marks_fit ms)

pub candidates_fit : AreWordsFit true candidates
candidates_fit =
    let rest : List Kind = K.Number 0 ∷ K.Number 2 ∷ map K.Word words in
    all_both (IsWordFit true) (map K.Reserved version_2) (map K.Mark marks ++ rest) (reserved_fit version_2)
    (all_both (IsWordFit true) (map K.Mark marks) rest (marks_fit marks) (
      tt,
      (
        tt,
        (
          word (codes "x") refl (lit≤ tt) (lit≤ tt) refl,
          (
            version_fit,
            (
              word (codes "act") refl (lit≤ tt) (lit≤ tt) refl,
              (word (codes "talk") refl (lit≤ tt) (lit≤ tt) refl, (word (codes "ProcStop") refl (lit≤ tt) (lit≤ tt) refl, tt)),
            ),
          ),
        ),
      ),
    ))
  where
    word : (name : List ℕ) → all_letters name ≡ true → 0 < length name → length name ≤ 255 → word_of version_2 name ≡ None → IsWordFit true (K.Word name)
    word name letters some few free = (letters_identifier name letters some, few, free)
