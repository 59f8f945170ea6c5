-- A word is found among all reserved words where it is found among those with its first byte.
use Rattle.std.proofs.Common.{◌≡◌, ℕ, Bool, true, false, List, [], ◌∷◌, Option, Some, None, refl, sym, ap, ◌∙◌, subst, slice_get}
use Rattle.spi_lex.specs.declared.token.Reserved.{Reserved}
use Rattle.spi_lex.specs.declared.token.Reserved.TheVariants.{Free, TypeWord, Process, Opponent, Schedule, Derivation, Out, Inp, Repeat, Split, Match, Case, Decrypt, Check, Begin, End, Cast, New, Stop, Is, Inl, Inr, Un, Key, Nonce, Hash, EndMany, Many}
use Rattle.spi_lex.specs.Words.{word_bytes, word_of, words_of}
use Rattle.spi_lex.specs.Initials.{words_from}
use Rattle.spi_lex.proofs.Lexed.{word_found}

abbrev initial : List ℕ → ℕ
initial [] = 0
initial (b ∷ bs) = b

agrees : (later : Bool) (w : Reserved)
    → word_of (words_from later (initial (word_bytes w))) (word_bytes w) ≡ word_of (words_of later) (word_bytes w)
agrees true Free = refl
agrees true TypeWord = refl
agrees true Process = refl
agrees true Opponent = refl
agrees true Schedule = refl
agrees true Derivation = refl
agrees true Out = refl
agrees true Inp = refl
agrees true Repeat = refl
agrees true Split = refl
agrees true Match = refl
agrees true Case = refl
agrees true Decrypt = refl
agrees true Check = refl
agrees true Begin = refl
agrees true End = refl
agrees true Cast = refl
agrees true New = refl
agrees true Stop = refl
agrees true Is = refl
agrees true Inl = refl
agrees true Inr = refl
agrees true Un = refl
agrees true Key = refl
agrees true Nonce = refl
agrees true Hash = refl
agrees true EndMany = refl
agrees true Many = refl
agrees false Free = refl
agrees false TypeWord = refl
agrees false Process = refl
agrees false Opponent = refl
agrees false Schedule = refl
agrees false Derivation = refl
agrees false Out = refl
agrees false Inp = refl
agrees false Repeat = refl
agrees false Split = refl
agrees false Match = refl
agrees false Case = refl
agrees false Decrypt = refl
agrees false Check = refl
agrees false Begin = refl
agrees false End = refl
agrees false Cast = refl
agrees false New = refl
agrees false Stop = refl
agrees false Is = refl
agrees false Inl = refl
agrees false Inr = refl
agrees false Un = refl
agrees false Key = refl
agrees false Nonce = refl
agrees false Hash = refl
agrees false EndMany = refl
agrees false Many = refl

abbrev Agrees : Bool → List ℕ → Type 0
Agrees later name = word_of (words_from later (initial name)) name ≡ word_of (words_of later) name

one_of_them : (later : Bool) (name : List ℕ) (w : Reserved) → word_bytes w ≡ name → Agrees later name
one_of_them later name w e = subst (λ (n : List ℕ). Agrees later n) e (agrees later w)

-- either is a word, and then its spelling is the name, or neither is
compared : (later : Bool) (name : List ℕ) (all some : Option Reserved) → word_of (words_of later) name ≡ all
    → word_of (words_from later (initial name)) name ≡ some → Agrees later name
compared later name (Some w) some p q = one_of_them later name w (word_found (words_of later) name w p)
compared later name None (Some w) p q =
    one_of_them later name w (word_found (words_from later (initial name)) name w q)
compared later name None None p q = q ∙ sym p

pub found_by_initial : (later : Bool) (name : List ℕ) (b : ℕ) → slice_get name 0 ≡ Some b
    → word_of (words_from later b) name ≡ word_of (words_of later) name
found_by_initial later (c ∷ cs) b e =
    let same : c ≡ b = cc in
    ap (λ (d : ℕ). word_of (words_from later d) (c ∷ cs)) (sym same)
    ∙ compared later (c ∷ cs) (word_of (words_of later) (c ∷ cs)) (word_of (words_from later c) (c ∷ cs)) refl refl
found_by_initial later [] b e = cc
