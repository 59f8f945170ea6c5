-- Kinds of parts that stand any number of times, one behind another.
use Rattle.std.specs.Prelude.{◌≡◌, ℕ, Bool, List, [], ◌∷◌, ◌++◌, map, Result}
use Rattle.std.specs.Global.{Vec}
use Rattle.spi_lex.specs.declared.token.Token.{Token}
use Rattle.spi_tree.specs.declared.tree.Decl.{Decl}
use Rattle.spi_tree.specs.Trees as t
use Rattle.spi_tree.specs.Pieces.{Piece, opens, cell, closes, decl_pieces}
use Rattle.spi_tree.specs.Formed.{IsDeclared}
use Rattle.spi_tree.specs.Views.{decl_of}
use Rattle.spi_parse.specs.declared.fault.ParseFault.{ParseFault}
use Rattle.spi_parse.specs.Exact.{Reads}
use Rattle.spi_heading.specs.declared.shared.Shared.{Shared}
use Rattle.spi_heading.specs.Headings as h
use Rattle.spi_heading.specs.Each.{IsWhole, ReadsEach}
use Rattle.spi_heading.specs.Grammar.{shared_pieces, IsShared, BeginsDecl, BeginsShared}
use Rattle.spi_heading.specs.Views.{shared_of}

-- What such a part is without where it lies in memory, its pieces in front of others, which are formed in a version, and the
-- tokens at which one begins.
pub record RepeatedKind (A : Type 0) : Type 1 where
  pub Part : Type 0
  pub view : A → Part
  pub pieces : Part → List Piece → List Piece
  pub Is : Bool → Part → Type 0
  pub Begins : List Token → ℕ → Type 0

-- pieces with a token before which no node ends
abbrev pub IsSolid : List Piece → Type 0
IsSolid [] = ⊥
IsSolid (opens from ∷ ps) = IsSolid ps
IsSolid (cell k deep ∷ ps) = Unit {0}
IsSolid (closes to ∷ ps) = ⊥

-- each part has a token, and its pieces in front of others are its own and then those
pub record IsSolidKind {A : Type 0} (kind : RepeatedKind A) : Type 0 where
  pub behind : (x : kind.Part) (r : List Piece) → kind.pieces x r ≡ kind.pieces x [] ++ r
  pub solid : (x : kind.Part) (r : List Piece) → IsSolid (kind.pieces x r)

-- one part, or the fault
abbrev pub ReadsRepeated : {A : Type 0} → RepeatedKind A → Bool → Result (A × ℕ) ParseFault → List Token → ℕ
    → Type 0
ReadsRepeated kind later r ts i =
    Reads kind.view (λ x. kind.pieces x []) (IsWhole later kind.pieces (kind.Is later)) r ts i

-- all parts up to a token with which none begins, or the fault
abbrev pub ReadsParts : {A : Type 0} → RepeatedKind A → Bool → Result (Vec A × ℕ) ParseFault → List Token → ℕ
    → Type 0
ReadsParts {A = A} kind later r ts i =
    ReadsEach (λ (v : Vec A). map kind.view v.items) kind.pieces later (kind.Is later) kind.Begins r ts i

-- ---- declarations and shared names

abbrev pub declared_kind : RepeatedKind Decl
declared_kind =
    record { Part = t.Declared; view = decl_of; pieces = decl_pieces; Is = IsDeclared; Begins = BeginsDecl }

abbrev pub shared_kind : RepeatedKind Shared
shared_kind =
    record { Part = h.Shared; view = shared_of; pieces = shared_pieces; Is = IsShared; Begins = BeginsShared }
