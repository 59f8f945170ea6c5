-- Which tokens could stand where the tokens of a file break off.
use Rattle.std.specs.Prelude.{ℕ, List, [], ◌∷◌, ◌++◌, map, codes}
use Rattle.spi_lex.specs.declared.token.Kind.{Kind}
use Rattle.spi_lex.specs.declared.token.Kind.TheVariants as kinds
use Rattle.spi_lex.specs.declared.token.Mark.{Mark}
use Rattle.spi_lex.specs.declared.token.Mark.TheVariants.{ParenOpen, ParenClose, BracketOpen, BracketClose, BraceOpen, BraceClose, Comma, Semicolon, Colon, Equals, Bar, Plus, NumberSign}
use Rattle.spi_lex.specs.Words.{version_2}
use Rattle.spi_parse.specs.Exact.{ItemBegins}
use Rattle.spi_parse.specs.Formed.{whole_file, IsFile}

-- some file's tokens begin with these and then with one of this kind
abbrev pub GoesOn : List Kind → Kind → Type 0
GoesOn front k = ItemBegins whole_file IsFile (front ++ k ∷ [])

abbrev pub marks : List Mark
marks =
    ParenOpen ∷ ParenClose ∷ BracketOpen ∷ BracketClose ∷ BraceOpen ∷ BraceClose ∷ Comma ∷ Semicolon ∷ Colon
    ∷ Equals
    ∷ Bar ∷ Plus ∷ NumberSign ∷ []

-- Words that aren't reserved: `x` for each name, those that a file's parts ask for by their spelling, and one rule's name for
-- all rules'.
abbrev pub words : List (List ℕ)
words = codes "x" ∷ codes "version" ∷ codes "act" ∷ codes "talk" ∷ codes "ProcStop" ∷ []

-- the kinds of token that are tried: all reserved words, all marks, a number, the number of the version, and these words
abbrev pub candidates : List Kind
candidates =
    map kinds.Reserved version_2
    ++ map kinds.Mark marks
    ++ kinds.Number 0 ∷ kinds.Number 2 ∷ map kinds.Word words

-- those of the kinds of which P holds, in order
pub data AreThose (P : Kind → Type 0) : List Kind → List Kind → Type 0 where
  none : AreThose P [] []
  kept : {k : Kind} {ks those : List Kind} → P k → AreThose P ks those → AreThose P (k ∷ ks) (k ∷ those)
  left : {k : Kind} {ks those : List Kind} → (P k → ⊥) → AreThose P ks those → AreThose P (k ∷ ks) those
