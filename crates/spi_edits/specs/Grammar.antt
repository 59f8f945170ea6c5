-- The tokens of benches, as spi_tree's Pieces has those of trees, and which benches are formed.
use Rattle.std.specs.Prelude.{◌≡◌, ◌⊎◌, ◌==◌, Bool, false, List, [], ◌∷◌, ◌++◌, codes}
use Rattle.std.specs.List.{AllByRecursion}
use Rattle.spi_text.specs.declared.lines.Span.{Span}
use Rattle.spi_lex.specs.declared.token.Kind.{Kind}
use Rattle.spi_lex.specs.declared.token.Kind.TheVariants as kinds
use Rattle.spi_lex.specs.declared.token.Mark.TheVariants as mark
use Rattle.spi_tree.specs.Pieces.{Piece, opens, closes, begins, ends, a_word, a_mark, at_level, proc_pieces, decl_pieces, version_pieces, kinds_in}
use Rattle.spi_tree.specs.Formed.{IsProc, IsDeclared, AreWordsFit}
use Rattle.spi_heading.specs.Each.{each_pieces}
use Rattle.spi_heading.specs.Grammar.{shared_pieces, IsShared}
use Rattle.spi_edits.specs.Edits.{Edit, puts, drops, Bench}
use Rattle.spi_tree.specs.Trees.{nowhere}

-- the words that edits begin with, which are asked for by spelling
abbrev pub put_word : Kind
put_word = kinds.Word (codes "put")

abbrev pub drop_word : Kind
drop_word = kinds.Word (codes "drop")

abbrev pub edit_pieces : Edit → List Piece → List Piece
edit_pieces (puts s w p) r =
    begins s put_word false
    (a_word false w (a_mark mark.BraceOpen (proc_pieces (at_level 0) p (a_mark mark.BraceClose (ends s r)))))
edit_pieces (drops s w) r = begins s drop_word false (a_word false w (a_mark mark.Semicolon (ends s r)))

-- the version, the declarations, the shared names and the edits
abbrev pub bench_pieces : Bench → List Piece
bench_pieces b =
    version_pieces b.version
    (each_pieces decl_pieces b.decls
    (each_pieces shared_pieces b.shared (each_pieces edit_pieces b.edits [])))

-- a node from the first of these tokens to the last, where there are any
abbrev pub placed : Span → List Piece → List Piece
placed s [] = []
placed s (p ∷ ps) = opens s.from ∷ p ∷ (ps ++ closes s.to ∷ [])

abbrev pub whole_bench : Bench → List Piece
whole_bench b = placed b.span (bench_pieces b)

-- ---- which are formed

abbrev pub IsEdit : Bool → Edit → Type 0
IsEdit later (puts s w p) = IsProc later (at_level 0) p
IsEdit later (drops s w) = Unit {0}

abbrev pub is_later_bench : Bench → Bool
is_later_bench b = b.version == 2

-- a formed bench; one without tokens has the empty span at 0
pub record IsBench (b : Bench) : Type 0 where
  pub version : (b.version ≡ 1) ⊎ (b.version ≡ 2)
  pub decls : AllByRecursion (IsDeclared (is_later_bench b)) b.decls
  pub shared : AllByRecursion (IsShared (is_later_bench b)) b.shared
  pub edits : AllByRecursion (IsEdit (is_later_bench b)) b.edits
  pub words : AreWordsFit (is_later_bench b) (kinds_in (whole_bench b))
  pub place : bench_pieces b ≡ [] → b.span ≡ nowhere

-- ---- an edit that stands alone

abbrev pub whole_edit : Edit → List Piece
whole_edit e = edit_pieces e []

abbrev pub IsWholeEdit : Bool → Edit → Type 0
IsWholeEdit later e = IsEdit later e × AreWordsFit later (kinds_in (whole_edit e))
