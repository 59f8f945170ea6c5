-- What is determined by tokens, for one kind of part: `pieces` are those of a part, `IsPart` says which there are, and `bare` is
-- a part without its spans.
use Rattle.std.specs.Prelude.{◌≡◌, ℕ, ◌⊎◌, List, ◌++◌, ◌∷◌, Result, Err}
use Rattle.spi_lex.specs.declared.token.Kind.{Kind}
use Rattle.spi_lex.specs.declared.token.Token.{Token}
use Rattle.spi_tree.specs.Pieces.{Piece, kinds_in}
use Rattle.spi_parse.specs.declared.fault.ParseFault.{ParseFault}
use Rattle.spi_parse.specs.declared.fault.ParseFault.TheVariants as faults
use Rattle.spi_parse.specs.Exact.{IsWithin, ItemEnds, PiecesStartDeep, Reads}

-- the same answer, but for want of memory
abbrev pub AreOne : {V : Type 0} → Result V ParseFault → Result V ParseFault → Type 0
AreOne a b = (a ≡ b) ⊎ (a ≡ Err faults.NoMemory) ⊎ (b ≡ Err faults.NoMemory)

-- the tokens from a number on have one answer: one part with its spans and its end, or one fault at one token
abbrev pub HasOneAnswer : {X : Type 0} → (X → List Piece) → (X → Type 0) → Type 0
HasOneAnswer {X = X} pieces IsPart =
    (a b : Result (X × ℕ) ParseFault) (ts : List Token) (from : ℕ)
    → Reads (λ x. x) pieces IsPart a ts from → Reads (λ x. x) pieces IsPart b ts from → AreOne a b

-- a text is cut in one way into a part and what is behind it
abbrev pub IsCutOnce : {X : Type 0} → (X → X) → (X → List Piece) → (X → Type 0) → Type 0
IsCutOnce {X = X} bare pieces IsPart =
    (a b : X) (c d : List Kind) → IsPart a → IsPart b → kinds_in (pieces a) ++ c ≡ kinds_in (pieces b) ++ d
    → (bare a ≡ bare b) × (c ≡ d)

-- a text is cut in one way into a part that goes on no further and what is behind it
abbrev pub IsCutOnceAtEnds : {X : Type 0} → (X → X) → (X → List Piece) → (X → Type 0) → Type 0
IsCutOnceAtEnds {X = X} bare pieces IsPart =
    (a b : X) (c d : List Kind) → IsPart a → IsPart b → kinds_in (pieces a) ++ c ≡ kinds_in (pieces b) ++ d
    → ItemEnds pieces IsPart (kinds_in (pieces a)) c → ItemEnds pieces IsPart (kinds_in (pieces b)) d
    → (bare a ≡ bare b) × (c ≡ d)

-- no part's tokens are a proper prefix of another's
abbrev pub BeginsNoOther : {X : Type 0} → (X → List Piece) → (X → Type 0) → Type 0
BeginsNoOther {X = X} pieces IsPart =
    (a b : X) (k : Kind) (more : List Kind) → IsPart a → IsPart b
    → kinds_in (pieces b) ≡ kinds_in (pieces a) ++ k ∷ more → ⊥

-- where a part is within the nesting limits, no part that begins so has a node above one there
abbrev pub AgreesOnDepth : {X : Type 0} → (X → List Piece) → (X → Type 0) → Type 0
AgreesOnDepth {X = X} pieces IsPart =
    (a b : X) → IsPart a → IsPart b → IsWithin (pieces a) → (pre : List Kind) (k : Kind) (more : List Kind)
    → kinds_in (pieces a) ≡ pre ++ k ∷ more → PiecesStartDeep (pieces b) pre k → ⊥
