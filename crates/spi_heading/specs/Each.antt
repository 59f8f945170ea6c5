-- Any number of parts of one kind, one behind another. `piece` has the pieces of a part in front of others, and `Is` says
-- which parts are formed.
use Rattle.std.specs.Prelude.{ℕ, ◌≤◌, Bool, List, [], ◌∷◌, drop, length, Result, Ok, Err}
use Rattle.std.specs.List.{AllByRecursion}
use Rattle.spi_lex.specs.declared.token.Token.{Token}
use Rattle.spi_tree.specs.Pieces.{Piece, kinds_in}
use Rattle.spi_tree.specs.Formed.{AreWordsFit}
use Rattle.spi_parse.specs.declared.fault.ParseFault.{ParseFault}
use Rattle.spi_parse.specs.declared.fault.ParseFault.TheVariants as faults
use Rattle.spi_parse.specs.Exact.{Spells, Reads, IsSyntaxAt, IsDeepAt}
use Rattle.spi_lex.specs.Lexing.{kinds_of}

abbrev pub each_pieces : {X : Type 0} → (X → List Piece → List Piece) → List X → List Piece → List Piece
each_pieces piece [] r = r
each_pieces piece (x ∷ xs) r = piece x (each_pieces piece xs r)

-- a part by itself is formed, and its words fit
abbrev pub IsWhole : {X : Type 0} → Bool → (X → List Piece → List Piece) → (X → Type 0) → X → Type 0
IsWhole later piece Is x = Is x × AreWordsFit later (kinds_in (piece x []))

-- the tokens from number i up to number j are those of these parts, which are formed and within the limits, with their spans
pub record EachAt {X : Type 0} (piece : X → List Piece → List Piece) (Is : X → Type 0) (xs : List X)
    (ts : List Token) (i j : ℕ) : Type 0 where
  pub are : AllByRecursion Is xs
  pub within : j ≤ length ts
  pub spells : Spells (drop j ts) 0 (each_pieces piece xs []) (drop i ts)

-- All parts up to a token with which none begins, and the number of that token; or the fault of the part behind those
-- that are read. `Begins` says at which tokens a part begins.
abbrev pub ReadsEach : {V X : Type 0} → (V → List X) → (X → List Piece → List Piece) → Bool → (X → Type 0)
    → (List Token → ℕ → Type 0) → Result (V × ℕ) ParseFault → List Token → ℕ → Type 0
ReadsEach view piece later Is Begins (Ok r) ts i = EachAt piece Is (view r.0) ts i r.1 × (Begins ts r.1 → ⊥)
ReadsEach {X = X} view piece later Is Begins (Err f) ts i =
    (xs : List X) × (j : ℕ) × EachAt piece Is xs ts i j × Begins ts j
    × Reads (λ (x : X). x) (λ x. piece x []) (IsWhole later piece Is) (Err f) ts j

-- the fault of a whole text
abbrev pub FailsWhole : {X : Type 0} → (X → List Piece) → (X → Type 0) → ParseFault → List Token → Type 0
FailsWhole pieces IsPart (faults.Syntax token) ts = IsSyntaxAt pieces IsPart (kinds_of ts) token
FailsWhole pieces IsPart (faults.TooDeep token) ts = IsDeepAt pieces IsPart (kinds_of ts) token
FailsWhole pieces IsPart faults.NoMemory ts = Unit {0}
