-- Texts of a version, and what is taken of their single tokens, by the number of the token.
use Rattle.std.specs.Prelude.{◌≡◌, ◌≤◌, ◌⊎◌, ◌==◌, ℕ, ◌+◌, List, length, slice_get, Some, Result, Ok, Err, codes}
use Rattle.spi_lex.specs.declared.token.Kind.{Kind}
use Rattle.spi_lex.specs.declared.token.Kind.TheVariants as kinds
use Rattle.spi_lex.specs.declared.token.Mark.TheVariants as mark
use Rattle.spi_lex.specs.declared.token.Token.{Token}
use Rattle.spi_lex.specs.Lexing.{kinds_of}
use Rattle.spi_tree.specs.declared.tree.SWord.{SWord}
use Rattle.spi_tree.specs.Formed.{AreWordsFit}
use Rattle.spi_parse.specs.declared.fault.ParseFault.{ParseFault}
use Rattle.spi_parse.specs.declared.fault.ParseFault.TheVariants as faults

-- the version is known, its words fit, and the numbers of the tokens are small
pub record IsTextOf (version : ℕ) (ts : List Token) : Type 0 where
  pub size : length ts ≤ 16_777_216
  pub known : (version ≡ 1) ⊎ (version ≡ 2)
  pub words : AreWordsFit (version == 2) (kinds_of ts)

-- the token of this number is such a one
abbrev pub IsThere : List Token → ℕ → Kind → Type 0
IsThere ts i k = (t : Token) × (slice_get ts i ≡ Some t) × (t.kind ≡ k)

-- the number behind the token where it is the one that is asked for, or the fault at it
abbrev pub TakesOneToken : Kind → Result ℕ ParseFault → List Token → ℕ → Type 0
TakesOneToken k (Ok next) ts i = IsThere ts i k × (next ≡ i + 1)
TakesOneToken k (Err (faults.Syntax token)) ts i = (IsThere ts i k → ⊥) × (token ≡ i)
TakesOneToken k (Err (faults.TooDeep token)) ts i = ⊥
TakesOneToken k (Err faults.NoMemory) ts i = ⊥

-- the word that is the token of this number, and the number behind it, or the fault at it
abbrev pub TakesWord : Result (SWord × ℕ) ParseFault → List Token → ℕ → Type 0
TakesWord (Ok r) ts i = (t : Token) × (slice_get ts i ≡ Some t) × (t.kind ≡ kinds.Word r.0.word)
    × (t.span ≡ r.0.span) × (r.1 ≡ i + 1)
TakesWord (Err (faults.Syntax token)) ts i = ((word : List ℕ) → IsThere ts i (kinds.Word word) → ⊥)
    × (token ≡ i)
TakesWord (Err (faults.TooDeep token)) ts i = ⊥
TakesWord (Err faults.NoMemory) ts i = Unit {0}

abbrev pub version_word : Kind
version_word = kinds.Word (codes "version")

-- the version that a text begins with and the number of the token behind it, or the fault behind the word
abbrev pub ReadsVersion : Result (ℕ × ℕ) ParseFault → List Token → Type 0
ReadsVersion (Ok r) ts =
    ((r.0 ≡ 2) × (r.1 ≡ 3) × IsThere ts 0 version_word × IsThere ts 1 (kinds.Number 2)
    × IsThere ts 2 (kinds.Mark mark.Semicolon))
    ⊎ ((r.0 ≡ 1) × (r.1 ≡ 0) × (IsThere ts 0 version_word → ⊥))
ReadsVersion (Err (faults.Syntax token)) ts =
    IsThere ts 0 version_word
    × (((token ≡ 1) × (IsThere ts 1 (kinds.Number 2) → ⊥))
    ⊎ ((token ≡ 2) × IsThere ts 1 (kinds.Number 2) × (IsThere ts 2 (kinds.Mark mark.Semicolon) → ⊥)))
ReadsVersion (Err (faults.TooDeep token)) ts = ⊥
ReadsVersion (Err faults.NoMemory) ts = ⊥
