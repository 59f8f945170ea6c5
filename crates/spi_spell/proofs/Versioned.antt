-- The tokens of a tree that is read are all of its version.
use Rattle.std.proofs.Common.{◌≡◌, Bool, true, false, List, [], ◌∷◌, refl, sym, subst, arith}
use Rattle.std.specs.List.{AllByRecursion}
use Rattle.spi_lex.specs.declared.token.Kind.{Kind}
use Rattle.spi_lex.specs.declared.token.Reserved.TheVariants as word
use Rattle.spi_lex.specs.Words.{words_of}
use Rattle.spi_lex.specs.Lexing.{is_version_2}
use Rattle.spi_lex.specs.Writing.{IsKind, AreKinds, first_version, later_version}
use Rattle.spi_tree.specs.Trees as t
use Rattle.spi_tree.specs.Pieces.{Piece, closes, a_reserved, at_level, kinds_in, tokens_of, decls_pieces, proc_pieces, opponent_pieces, schedule_pieces, derivation_pieces}
use Rattle.spi_tree.specs.Formed.{is_later}
use Rattle.spi_parse.proofs.LiveLaws.{version_fit}
use Rattle.spi_parse.proofs.Versions.{plain_decls}
use Rattle.spi_spell.proofs.PrintsFiles.{with_version}

kinds_of_version : (ks : List Kind) → AreKinds ks → AllByRecursion (IsKind (words_of (is_version_2 ks))) ks
kinds_of_version ks (first_version old h) = subst (λ (v : Bool). AllByRecursion (IsKind (words_of v)) ks) (sym old) h
kinds_of_version ks (later_version h) = (version_fit, (omega arith, (tt, h)))

abbrev file_body : t.File → List Piece
file_body f = decls_pieces f.decls (a_reserved word.Process (proc_pieces (at_level 0) f.process (opponent_pieces f.opponent (schedule_pieces f.schedule (derivation_pieces f.derivation (closes f.span.to ∷ []))))))

versioned : (later : Bool) (r : List Piece) → is_version_2 (kinds_in r) ≡ false → is_version_2 (kinds_in (with_version later r)) ≡ later
versioned true r none = refl
versioned false r none = none

pub tree_fit : (tree : t.File) → AreKinds (tokens_of tree) → AllByRecursion (IsKind (words_of (is_later tree))) (tokens_of tree)
tree_fit tree are =
    let same = versioned (is_later tree) (file_body tree) (plain_decls tree.decls _) in
    subst (λ (v : Bool). AllByRecursion (IsKind (words_of v)) (tokens_of tree)) same (kinds_of_version (tokens_of tree) are)
