-- Where the last token of a file ends, and what is left behind a file.
use Rattle.std.proofs.Common.{◌≡◌, ℕ, ◌-◌, ◌≤◌, List, [], ◌∷◌, map, length, Ok, sym, ap, subst, ◌∙◌, arith}
use Rattle.std.proofs.lemmas.List.{length-map}
use Rattle.spi_lex.specs.declared.token.Token.{Token}
use Rattle.spi_lex.specs.Lexing.{kinds_of, is_version_2}
use Rattle.spi_lex.specs.Left.{end_of}
use Rattle.spi_tree.specs.declared.tree.Tree.{Tree}
use Rattle.spi_tree.specs.Trees as t
use Rattle.spi_tree.specs.Formed.{AreWordsFit}
use Rattle.spi_tree.specs.Views.{file_of}
use Rattle.spi_parse.specs.declared.cursor.Reader.{Reader}
use Rattle.spi_parse.specs.Tokens.{Tok, State, tok}
use Rattle.spi_parse.specs.Places.{state_of, tokens_in}
use Rattle.spi_parse.specs.Table.{file}
use Rattle.spi_parse.specs.Reading.{limited, read}
use Rattle.spi_parse.specs.Formed.{IsFile, whole_file}
use Rattle.spi_parse.specs.Exact.{IsSyntaxAt}
use Rattle.spi_parse.proofs.Readers.{at}
use Rattle.spi_parse.proofs.Numbered.{state_is}
use Rattle.spi_parse.proofs.Sound.{is_sound}
use Rattle.spi_parse.proofs.TableLaws.{table_ok}
use Rattle.spi_parse.proofs.Wholes.{untok_tok, parses_rest}

pub file_ends : (ts : List Token) (x : t.File) (e : ℕ) → read limited file (at 0 (map tok ts)) ≡ Ok (x, at e []) → e ≡ end_of 0 ts
file_ends ts x e is =
    let k = (is_sound table_ok).by file (at 0 (map tok ts)) (x, at e []) is in
    sym (k.1 []).ends ∙ ap (end_of 0) (untok_tok ts)

some_left : (tokens : List Token) (fit : AreWordsFit (is_version_2 (kinds_of tokens)) (kinds_of tokens)) (tree : Tree) (e : ℕ) (l : List Token) → 1 ≤ length l
    → read limited file (at 0 (map tok tokens)) ≡ Ok (file_of tree, at e (map tok l)) → IsSyntaxAt whole_file IsFile (kinds_of tokens) (length tokens - length l)
some_left tokens fit tree e [] h is = absurd (omega arith)
some_left tokens fit tree e (x ∷ l) h is = parses_rest file_of tokens fit tree e x l is

-- where some are left behind the tree, and so many
pub left_over : (tokens : List Token) (fit : AreWordsFit (is_version_2 (kinds_of tokens)) (kinds_of tokens)) (tree : Tree) (start : State) (after : Reader) (t : Tok) (ts : List Tok)
    → start ≡ at 0 (map tok tokens) → (state_of after).rest ≡ t ∷ ts → read limited file start ≡ Ok (file_of tree, state_of after)
    → IsSyntaxAt whole_file IsFile (kinds_of tokens) (length tokens - length (state_of after).rest)
left_over tokens fit tree start after t ts begins is gives =
    let count : length (state_of after).rest ≡ length (tokens_in after) = ap (λ (s : State). length s.rest) (state_is after) ∙ length-map (tokens_in after) tok in
    let more : length (state_of after).rest ≡ length (t ∷ ts) = ap length is in
    subst (λ (n : ℕ). IsSyntaxAt whole_file IsFile (kinds_of tokens) (length tokens - n)) (sym count)
    (some_left tokens fit tree after.end (tokens_in after) (omega arith)
    (subst (λ (s : State). read limited file s ≡ Ok (file_of tree, state_of after)) begins gives ∙ ap (λ (s : State). Ok (file_of tree, s)) (state_is after)))
