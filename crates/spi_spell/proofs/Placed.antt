-- The tokens of a formed tree within the nesting limits are read, and what is read is that tree, with their spans.
use Rattle.std.proofs.Common.{◌≡◌, ℕ, Bool, List, [], ◌∷◌, ◌++◌, map, Ok, Err, refl, sym, ap, ◌∙◌, append-nil}
use Rattle.spi_lex.specs.declared.token.Kind.{Kind}
use Rattle.spi_lex.specs.declared.token.Token.{Token}
use Rattle.spi_lex.specs.Lexing.{kinds_of, is_version_2}
use Rattle.spi_tree.specs.Trees as t
use Rattle.spi_tree.specs.Pieces.{kinds_in, tokens_of, file_pieces}
use Rattle.spi_tree.specs.Formed.{AreWordsFit}
use Rattle.spi_parse.specs.Tokens.{Tok, tok}
use Rattle.spi_parse.specs.Table.{file}
use Rattle.spi_parse.specs.Reading.{Out, limited, told, read}
use Rattle.spi_parse.specs.Formed.{IsFile, whole_file}
use Rattle.spi_parse.specs.Bare.{bare_file}
use Rattle.spi_parse.specs.Exact.{IsWithin, Spells}
use Rattle.spi_parse.proofs.Readers.{at}
use Rattle.spi_parse.proofs.Spelled.{tokens_spelled}
use Rattle.spi_parse.proofs.Unique.{same_tokens}
use Rattle.spi_parse.proofs.Spell.{IsRuledFile}
use Rattle.spi_parse.proofs.Viable.{AreSpare}
use Rattle.spi_parse.proofs.Complete.{told_fits, file_c}
use Rattle.spi_parse.proofs.ExactLaws as exact
use Rattle.spi_parse.proofs.ExactLaws.{firsts, tokens_told, exact_ok}
use Rattle.spi_parse.proofs.Words.{file_ruled, file_made}
use Rattle.spi_parse.proofs.Versions.{tokens_fit}
use Rattle.spi_parse.proofs.Wholes.{kinds_tok, parses_ok}

-- ---- what is read

kinds_append : (a b : List Tok) → exact.kinds_read (a ++ b) ≡ exact.kinds_read a ++ exact.kinds_read b
kinds_append [] b = refl
kinds_append (x ∷ a) b = ap (λ (l : List Kind). x.kind ∷ l) (kinds_append a b)

abbrev FileIsPlaced : t.File → List Token → t.File → Type 0
FileIsPlaced f ts g = (bare_file g ≡ bare_file f) × IsFile g × Spells [] 0 (whole_file g) ts

module _ (f : t.File) (ts : List Token) (formed : IsFile f) (within : IsWithin (whole_file f)) (same : kinds_of ts ≡ tokens_of f) where
  fit : AreWordsFit (is_version_2 (kinds_of ts)) (kinds_of ts)
  fit = tokens_fit f (kinds_of ts) formed same

  making : (x : t.File) → IsRuledFile x → (pre rest : List Kind) (c : List (Kind × Bool)) → exact.kinds_read (map tok ts) ≡ pre ++ rest → kinds_in (file_pieces x []) ≡ pre ++ firsts c → AreSpare c → IsFile x
  making x h pre rest c split = file_made (kinds_of ts) fit x h pre rest c (sym (kinds_tok ts) ∙ split)

  complete : (x : t.File) → IsRuledFile x → read told file (at 0 (tokens_told (whole_file x))) ≡ Ok (bare_file x, at 0 [])
  complete x h = file_c told (λ d. d) told_fits x h

  -- nothing is left, since the tree goes on
  none_left : (g : t.File) (e : ℕ) (k : Tok) (rest : List Tok) → read limited file (at 0 (map tok ts)) ≡ Ok (g, at e (k ∷ rest)) → ⊥
  none_left g e k rest is =
      let r = exact_ok file bare_file IsFile file_ruled complete (map tok ts) making g (at e (k ∷ rest)) is in
      let split : kinds_of ts ≡ exact.kinds_read r.pre ++ k.kind ∷ exact.kinds_read rest = sym (kinds_tok ts) ∙ ap exact.kinds_read r.split ∙ kinds_append r.pre (k ∷ rest) in
      r.ends f formed (exact.kinds_read rest) (sym same ∙ split)

  placed_at : (g : t.File) (e : ℕ) (rest : List Tok) → read limited file (at 0 (map tok ts)) ≡ Ok (g, at e rest) → (g : t.File) × FileIsPlaced f ts g
  placed_at g e [] is =
      let p = parses_ok (λ (x : t.File). x) ts fit g e is in
      (g, (same_tokens g f p.0 formed (tokens_spelled g ts p.1 ∙ same), p.0, p.1))
  placed_at g e (k ∷ rest) is = absurd (none_left g e k rest is)

  placed_by : (r : Out t.File) → read limited file (at 0 (map tok ts)) ≡ r → (g : t.File) × FileIsPlaced f ts g
  placed_by (Ok (g, s)) is = placed_at g s.end s.rest is
  placed_by (Err d) is =
      let all : exact.kinds_read (map tok ts) ≡ exact.kinds_read (map tok ts) ++ [] = sym (append-nil (exact.kinds_read (map tok ts))) in
      absurd (exact.no_part file bare_file IsFile file_ruled complete (map tok ts) making d is f (exact.kinds_read (map tok ts)) [] all formed within (sym same ∙ sym (kinds_tok ts)) tt)

-- the tree with the spans of these tokens
pub placed : (f : t.File) (ts : List Token) → IsFile f → IsWithin (whole_file f) → kinds_of ts ≡ tokens_of f → (g : t.File) × (bare_file g ≡ bare_file f) × IsFile g × Spells [] 0 (whole_file g) ts
placed f ts formed within same =
    let p = placed_by f ts formed within same (read limited file (at 0 (map tok ts))) refl in
    (p.0, p.1.0, p.1.1, p.1.2)
