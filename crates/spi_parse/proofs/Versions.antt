-- The version of a file is told by its first tokens.
use Rattle.std.proofs.Common.{◌≡◌, ℕ, ◌==◌, Bool, false, List, [], ◌∷◌, refl, sym, ap, subst, ◌∙◌, ◌⊎◌, inl, inr}
use Rattle.spi_lex.specs.declared.token.Kind.{Kind}
use Rattle.spi_lex.specs.declared.token.Kind.TheVariants as kinds
use Rattle.spi_lex.specs.declared.token.Reserved.{Reserved}
use Rattle.spi_lex.specs.declared.token.Reserved.TheVariants as word
use Rattle.spi_lex.specs.Lexing.{is_version_2}
use Rattle.spi_tree.specs.Trees as t
use Rattle.spi_tree.specs.Pieces.{Piece, kinds_in, tokens_of, at_level, a_reserved, ends, decls_pieces, proc_pieces, version_pieces, opponent_pieces, schedule_pieces, derivation_pieces}
use Rattle.spi_tree.specs.Formed.{AreWordsFit, is_later}
use Rattle.spi_parse.specs.Formed.{IsFile}

pub begins_reserved : (ds : List t.Declared) (q : List Piece) → (w : Reserved) × (l : List Kind) × (kinds_in (decls_pieces ds (a_reserved word.Process q)) ≡ kinds.Reserved w ∷ l)
begins_reserved [] q = (word.Process, kinds_in q, refl)
begins_reserved (t.free s w ws ∷ ds) q = (word.Free, _, refl)
begins_reserved (t.abbreviated s w a ∷ ds) q = (word.TypeWord, _, refl)

pub reserved_first : (w : Reserved) (l : List Kind) → is_version_2 (kinds.Reserved w ∷ l) ≡ false
reserved_first w [] = refl
reserved_first w (b ∷ []) = refl
reserved_first w (b ∷ c ∷ l) = refl

pub plain_decls : (ds : List t.Declared) (q : List Piece) → is_version_2 (kinds_in (decls_pieces ds (a_reserved word.Process q))) ≡ false
plain_decls ds q = let b = begins_reserved ds q in ap is_version_2 b.2 ∙ reserved_first b.0 b.1

abbrev behind_decls : t.File → List Piece
behind_decls f = proc_pieces (at_level 0) f.process (opponent_pieces f.opponent (schedule_pieces f.schedule (derivation_pieces f.derivation (ends f.span []))))

abbrev tokens_by : t.File → ℕ → List Kind
tokens_by f v = kinds_in (version_pieces v (decls_pieces f.decls (a_reserved word.Process (behind_decls f))))

version_by : (f : t.File) (v : ℕ) → (v ≡ 1) ⊎ (v ≡ 2) → is_version_2 (tokens_by f v) ≡ (v == 2)
version_by f v (inl e) =
    let one : is_version_2 (tokens_by f 1) ≡ false = plain_decls f.decls (behind_decls f) in
    subst (λ (i : ℕ). is_version_2 (tokens_by f i) ≡ (i == 2)) (sym e) one
version_by f v (inr e) = subst (λ (i : ℕ). is_version_2 (tokens_by f i) ≡ (i == 2)) (sym e) refl

pub tokens_fit : (f : t.File) (ks : List Kind) → IsFile f → ks ≡ tokens_of f → AreWordsFit (is_version_2 ks) ks
tokens_fit f ks h e =
    let later : is_version_2 (tokens_of f) ≡ is_later f = version_by f f.version h.formed.version in
    subst (λ (l : List Kind). AreWordsFit (is_version_2 l) l) (sym e) (subst (λ (v : Bool). AreWordsFit v (tokens_of f)) (sym later) h.formed.words)
