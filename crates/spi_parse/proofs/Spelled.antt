-- Tokens that spell pieces are theirs, and no node among them is above a nesting limit.
use Rattle.std.proofs.Common.{◌≡◌, ℕ, List, [], ◌∷◌, ◌++◌, sym, ap, ◌∙◌, append-nil}
use Rattle.spi_lex.specs.declared.token.Kind.{Kind}
use Rattle.spi_lex.specs.declared.token.Token.{Token}
use Rattle.spi_lex.specs.Lexing.{kinds_of}
use Rattle.spi_tree.specs.Trees as t
use Rattle.spi_tree.specs.Pieces.{Piece, opens, cell, closes, kinds_in, tokens_of}
use Rattle.spi_parse.specs.Formed.{whole_file}
use Rattle.spi_parse.specs.Exact.{Spells, IsWithin}

pub spelled_kinds : (left : List Token) (e : ℕ) (ps : List Piece) (ts : List Token) → Spells left e ps ts → kinds_of ts ≡ kinds_in ps ++ kinds_of left
spelled_kinds left e [] ts h = ap kinds_of h
spelled_kinds left e (opens from ∷ ps) [] h = absurd h
spelled_kinds left e (opens from ∷ ps) (t ∷ ts) h = spelled_kinds left e ps (t ∷ ts) h.1
spelled_kinds left e (cell k deep ∷ ps) [] h = absurd h
spelled_kinds left e (cell k deep ∷ ps) (t ∷ ts) h = ap (λ (l : List Kind). t.kind ∷ l) (spelled_kinds left t.span.to ps ts h.2) ∙ ap (λ (x : Kind). x ∷ (kinds_in ps ++ kinds_of left)) h.0
spelled_kinds left e (closes to ∷ ps) ts h = spelled_kinds left e ps ts h.1

pub spelled_within : (left : List Token) (e : ℕ) (ps : List Piece) (ts : List Token) → Spells left e ps ts → IsWithin ps
spelled_within left e [] ts h = tt
spelled_within left e (opens from ∷ ps) [] h = absurd h
spelled_within left e (opens from ∷ ps) (t ∷ ts) h = spelled_within left e ps (t ∷ ts) h.1
spelled_within left e (cell k deep ∷ ps) [] h = absurd h
spelled_within left e (cell k deep ∷ ps) (t ∷ ts) h = (h.1, spelled_within left t.span.to ps ts h.2)
spelled_within left e (closes to ∷ ps) ts h = spelled_within left e ps ts h.1

-- the tokens of a tree that was read are those that it was read from
pub tokens_spelled : (f : t.File) (ts : List Token) → Spells [] 0 (whole_file f) ts → tokens_of f ≡ kinds_of ts
tokens_spelled f ts h = sym (spelled_kinds [] 0 (whole_file f) ts h ∙ append-nil (kinds_in (whole_file f)))
