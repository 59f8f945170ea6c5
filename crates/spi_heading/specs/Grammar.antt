-- The tokens of shared names, as spi_tree's Pieces has those of trees: `{"shared" Word ":" STy ";"}*`.
use Rattle.std.specs.Prelude.{ℕ, ◌⊎◌, Bool, false, List, [], codes}
use Rattle.spi_lex.specs.declared.token.Kind.{Kind}
use Rattle.spi_lex.specs.declared.token.Kind.TheVariants as kinds
use Rattle.spi_lex.specs.declared.token.Mark.TheVariants as mark
use Rattle.spi_lex.specs.declared.token.Reserved.TheVariants as word
use Rattle.spi_tree.specs.Pieces.{Piece, begins, ends, a_mark, named_pieces, kinds_in}
use Rattle.spi_tree.specs.Formed.{IsTy, AreWordsFit}
use Rattle.spi_lex.specs.declared.token.Token.{Token}
use Rattle.spi_heading.specs.Headings.{Shared, Named}
use Rattle.spi_heading.specs.Taking.{IsThere}

abbrev pub shared_word : Kind
shared_word = kinds.Word (codes "shared")

abbrev pub shared_pieces : Shared → List Piece → List Piece
shared_pieces s r =
    begins s.span shared_word false (named_pieces s.name s.ty (a_mark mark.Semicolon (ends s.span r)))

-- those of a version
abbrev pub IsShared : Bool → Shared → Type 0
IsShared later s = IsTy later s.ty

-- where a shared name begins, and where a declaration does
abbrev pub BeginsShared : List Token → ℕ → Type 0
BeginsShared ts i = IsThere ts i shared_word

abbrev pub BeginsDecl : List Token → ℕ → Type 0
BeginsDecl ts i = IsThere ts i (kinds.Reserved word.Free) ⊎ IsThere ts i (kinds.Reserved word.TypeWord)

-- the parts that stand alone: their pieces, and which are formed
abbrev pub whole_shared : Shared → List Piece
whole_shared s = shared_pieces s []

abbrev pub whole_named : Named → List Piece
whole_named x = named_pieces x.name x.ty []

abbrev pub IsWholeShared : Bool → Shared → Type 0
IsWholeShared later s = IsShared later s × AreWordsFit later (kinds_in (whole_shared s))

abbrev pub IsWholeNamed : Bool → Named → Type 0
IsWholeNamed later x = IsTy later x.ty × AreWordsFit later (kinds_in (whole_named x))
