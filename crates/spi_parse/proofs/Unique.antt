-- A tree is the only one with its tokens, up to spans.
use Rattle.std.proofs.Common.{◌≡◌, false, List, [], ◌∷◌, Ok, refl, sym, ap, ◌∙◌}
use Rattle.spi_lex.specs.declared.token.Kind.{Kind}
use Rattle.spi_tree.specs.Trees as t
use Rattle.spi_tree.specs.Pieces.{Piece, opens, cell, closes, kinds_in, tokens_of}
use Rattle.spi_parse.specs.Tokens.{Tok, State}
use Rattle.spi_parse.specs.Table.{Sym, Tree, file}
use Rattle.spi_parse.specs.Reading.{any, read}
use Rattle.spi_parse.specs.Formed.{IsFile, whole_file}
use Rattle.spi_parse.specs.Bare.{bare_file}
use Rattle.spi_parse.proofs.Readers.{at, ok_is}
use Rattle.spi_parse.proofs.Complete.{flat_pieces, any_fits, file_c}
use Rattle.spi_parse.proofs.Words.{file_ruled}
use Rattle.spi_tree.specs.Trees.{nowhere}

-- tokens of these kinds, at one place and at no limit
abbrev pub all_false : List Kind → List Tok
all_false [] = []
all_false (k ∷ ks) = record { kind = k; span = nowhere; deep = false } ∷ all_false ks

pub flat_is : (ps : List Piece) → flat_pieces (λ d. false) ps ≡ all_false (kinds_in ps)
flat_is [] = refl
flat_is (opens from ∷ ps) = flat_is ps
flat_is (cell k deep ∷ ps) = ap (λ (l : List Tok). record { kind = k; span = nowhere; deep = false } ∷ l) (flat_is ps)
flat_is (closes to ∷ ps) = flat_is ps

-- two parts with the same tokens are one up to spans
pub same_bare : (a : Sym) (shown : Tree a → List Piece) (bare : Tree a → Tree a) (y z : Tree a)
    → read any a (at 0 (flat_pieces (λ d. false) (shown y))) ≡ Ok (bare y, at 0 []) → read any a (at 0 (flat_pieces (λ d. false) (shown z))) ≡ Ok (bare z, at 0 [])
    → kinds_in (shown y) ≡ kinds_in (shown z) → bare y ≡ bare z
same_bare a shown bare y z hy hz e =
    let lists : flat_pieces (λ d. false) (shown y) ≡ flat_pieces (λ d. false) (shown z) = flat_is (shown y) ∙ ap all_false e ∙ sym (flat_is (shown z)) in
    let answers = sym hy ∙ ap (λ (l : List Tok). read any a (at 0 l)) lists ∙ hz in
    ap (λ (x : Tree a × State). x.0) (ok_is {X = Tree a × State} (bare y, at 0 []) (bare z, at 0 []) answers)

pub same_tokens : (f g : t.File) → IsFile f → IsFile g → tokens_of f ≡ tokens_of g → bare_file f ≡ bare_file g
same_tokens f g hf hg e =
    same_bare file whole_file bare_file f g (file_c any (λ d. false) any_fits f (file_ruled f hf)) (file_c any (λ d. false) any_fits g (file_ruled g hg)) e
