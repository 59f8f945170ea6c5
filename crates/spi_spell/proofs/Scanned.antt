-- Whether a text writes tokens, and whether their words fit, by going over them.
use Rattle.std.proofs.Common.{◌≡◌, ℕ, zero, suc, ◌<◌, Bool, true, false, ◌&&◌, ◌==◌, List, [], ◌∷◌, ◌++◌, length, Option, Some, None, if◌then◌else◌, arith, refl, sym, subst}
use Rattle.std.specs.Prelude.{nat_lt, is_none}
use Rattle.std.specs.Char.{is_ascii_alphabetic}
use Rattle.std.proofs.lemmas.Bool.{and_parts, eqb-true, ltb-true}
use Rattle.spi_lex.specs.declared.token.Kind.{Kind}
use Rattle.spi_lex.specs.declared.token.Kind.TheVariants as kinds
use Rattle.spi_lex.specs.declared.token.Reserved.{Reserved}
use Rattle.spi_lex.specs.Lexeme.{is_blank}
use Rattle.spi_lex.specs.Words.{version_1, word_of}
use Rattle.spi_lex.specs.Writing.{written, is_apart, IsEnded, Writes, nothing, blank, token}
use Rattle.spi_tree.specs.Formed.{IsWordFit, AreWordsFit}
use Rattle.spi_spell.proofs.Plain.{is_plain_ascii, ArePlain, plain_identifier}

-- ---- texts

-- the text behind this front
abbrev strip : List ℕ → List ℕ → Option (List ℕ)
strip [] text = Some text
strip (a ∷ front) [] = None
strip (a ∷ front) (b ∷ text) = if a == b then strip front text else None

strip_is : (front text rest : List ℕ) → strip front text ≡ Some rest → text ≡ front ++ rest
strip_is [] text rest h = cc
strip_is (a ∷ front) [] rest h = cc
strip_is (a ∷ front) (b ∷ text) rest h = go (a == b) refl h (λ k. strip_is front text rest k)
  where
    go : (same : Bool) → (a == b) ≡ same → (if same then strip front text else None) ≡ Some rest → (strip front text ≡ Some rest → text ≡ front ++ rest) → b ∷ text ≡ a ∷ (front ++ rest)
    go true e h behind =
        let one : a ≡ b = eqb-true a b e in
        let more = behind h in
        cc
    go false e h behind = cc

abbrev ends_by : Kind → List ℕ → Bool
ends_by (kinds.Word name) text = is_apart text
ends_by (kinds.Reserved word) text = is_apart text
ends_by (kinds.Number value) text = is_apart text
ends_by (kinds.Mark m) text = true

ends : (k : Kind) (text : List ℕ) → ends_by k text ≡ true → IsEnded k text
ends (kinds.Word name) text h = h
ends (kinds.Reserved word) text h = h
ends (kinds.Number value) text h = h
ends (kinds.Mark m) text h = tt

-- whether the text is these tokens with blanks between, in at most so many pieces
abbrev pub is_written_as : ℕ → List Kind → List ℕ → Bool
is_written_as zero ks text = false
is_written_as (suc n) [] [] = true
is_written_as (suc n) (k ∷ ks) [] = false
is_written_as (suc n) [] (b ∷ text) = is_blank b && is_written_as n [] text
is_written_as (suc n) (k ∷ ks) (b ∷ text) =
    if is_blank b then is_written_as n (k ∷ ks) text
    else elim (strip (written k) (b ∷ text)) [ None ↦ false | Some rest ↦ ends_by k rest && is_written_as n ks rest ]

pub writes : (n : ℕ) (ks : List Kind) (text : List ℕ) → is_written_as n ks text ≡ true → Writes ks text
writes zero ks text h = cc
writes (suc n) [] [] h = nothing
writes (suc n) (k ∷ ks) [] h = cc
writes (suc n) [] (b ∷ text) h = let p = and_parts (is_blank b) (is_written_as n [] text) h in blank b p.0 (writes n [] text p.1)
writes (suc n) (k ∷ ks) (b ∷ text) h = go (λ (l : List Kind) (t : List ℕ) e. writes n l t e) (is_blank b) refl h
  where
    one : ((l : List Kind) (t : List ℕ) → is_written_as n l t ≡ true → Writes l t) → (o : Option (List ℕ)) → strip (written k) (b ∷ text) ≡ o → (elim o [ None ↦ false | Some rest ↦ ends_by k rest && is_written_as n ks rest ]) ≡ true → Writes (k ∷ ks) (b ∷ text)
    one behind None e h = cc
    one behind (Some rest) e h =
        let p = and_parts (ends_by k rest) (is_written_as n ks rest) h in
        subst (λ (l : List ℕ). Writes (k ∷ ks) l) (sym (strip_is (written k) (b ∷ text) rest e)) (token k (ends k rest p.0) (behind ks rest p.1))

    go : ((l : List Kind) (t : List ℕ) → is_written_as n l t ≡ true → Writes l t) → (is : Bool) → is_blank b ≡ is → (if is then is_written_as n (k ∷ ks) text else (elim (strip (written k) (b ∷ text)) [ None ↦ false | Some rest ↦ ends_by k rest && is_written_as n ks rest ])) ≡ true → Writes (k ∷ ks) (b ∷ text)
    go behind true e h = blank b e (behind (k ∷ ks) text h)
    go behind false e h = one behind (strip (written k) (b ∷ text)) refl h

-- ---- words

abbrev all_plain : List ℕ → Bool
all_plain [] = true
all_plain (b ∷ bs) = is_plain_ascii b && all_plain bs

are_plain : (bs : List ℕ) → all_plain bs ≡ true → ArePlain bs
are_plain [] h = tt
are_plain (b ∷ bs) h = let p = and_parts (is_plain_ascii b) (all_plain bs) h in (p.0, are_plain bs p.1)

-- a short plain word that no version reserves
abbrev is_word_free : List ℕ → Bool
is_word_free [] = false
is_word_free (b ∷ bs) = (nat_lt b 128 && is_ascii_alphabetic b) && (all_plain (b ∷ bs) && (nat_lt (length (b ∷ bs)) 256 && is_none (word_of version_1 (b ∷ bs))))

is_free_word : (name : List ℕ) → is_word_free name ≡ true → IsWordFit false (kinds.Word name)
is_free_word [] h = cc
is_free_word (b ∷ bs) h =
    let p = and_parts (nat_lt b 128 && is_ascii_alphabetic b) (all_plain (b ∷ bs) && (nat_lt (length (b ∷ bs)) 256 && is_none (word_of version_1 (b ∷ bs)))) h in
    let first = and_parts (nat_lt b 128) (is_ascii_alphabetic b) p.0 in
    let q = and_parts (all_plain (b ∷ bs)) (nat_lt (length (b ∷ bs)) 256 && is_none (word_of version_1 (b ∷ bs))) p.1 in
    let r = and_parts (nat_lt (length (b ∷ bs)) 256) (is_none (word_of version_1 (b ∷ bs))) q.1 in
    let short : length (b ∷ bs) < 256 = ltb-true (length (b ∷ bs)) 256 r.0 in
    (plain_identifier b bs (ltb-true b 128 first.0) first.1 (are_plain (b ∷ bs) q.0), omega (arith, short), none (word_of version_1 (b ∷ bs)) r.1)
  where
    none : (o : Option Reserved) → is_none o ≡ true → o ≡ None
    none None h = refl
    none (Some w) h = cc

abbrev is_fit : Kind → Bool
is_fit (kinds.Word name) = is_word_free name
is_fit (kinds.Reserved word) = true
is_fit (kinds.Number value) = true
is_fit (kinds.Mark m) = true

fits : (k : Kind) → is_fit k ≡ true → IsWordFit false k
fits (kinds.Word name) h = is_free_word name h
fits (kinds.Reserved word) h = tt
fits (kinds.Number value) h = tt
fits (kinds.Mark m) h = tt

-- whether all words are short, plain and not reserved
abbrev pub are_fit : List Kind → Bool
are_fit [] = true
are_fit (k ∷ ks) = is_fit k && are_fit ks

pub words_fit : (ks : List Kind) → are_fit ks ≡ true → AreWordsFit false ks
words_fit [] h = tt
words_fit (k ∷ ks) h = let p = and_parts (is_fit k) (are_fit ks) h in (fits k p.0, words_fit ks p.1)
