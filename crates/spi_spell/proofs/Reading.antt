-- What is read from tokens.
use Rattle.std.proofs.Common.{◌≡◌, ℕ, List, [], ◌∷◌, ◌++◌, refl, sym, ◌∙◌, append-nil}
use Rattle.spi_lex.specs.declared.token.Token.{Token}
use Rattle.spi_lex.specs.declared.token.Kind.{Kind}
use Rattle.spi_lex.specs.declared.token.Kind.TheVariants as kinds
use Rattle.spi_lex.specs.declared.token.Reserved.{Reserved}
use Rattle.spi_lex.specs.Lexing.{kinds_of}
use Rattle.spi_tree.specs.Pieces.{Piece, closes, a_reserved}
use Rattle.spi_parse.specs.Exact.{Spells}

none_left : (ts : List Token) → kinds_of ts ≡ [] → ts ≡ []
none_left [] h = refl
none_left (t ∷ ts) h = absurd cc

-- the tokens that are left, and where the token before them ends
pub record RestOfKinds (ks : List Kind) : Type 0 where
  pub end : ℕ
  pub tokens : List Token
  pub left : kinds_of tokens ≡ ks

module _ {T U : Type 0} (IsIt : T → Type 0) (stands_for : T → U) (pieces : T → List Piece → List Piece) (u : U) where
  -- one that stands for u, from the tokens on which its own stand first, the token before which ends at e
  pub record ReadsTree (e : ℕ) (ts : List Token) (ks : List Kind) : Type 0 where
    pub read : T
    pub is : IsIt read
    pub are : stands_for read ≡ u
    pub rest : RestOfKinds ks
    pub spells : (after : List Token) (r : List Piece) → Spells after rest.end r rest.tokens → Spells after e (pieces read r) ts

  -- the same behind a reserved word, with no token left
  pub record ReadsBehind (w : Reserved) (more : List Token) : Type 0 where
    pub e : ℕ
    pub tokens : List Token
    pub reads : ReadsTree e tokens []
    pub spells : (f : ℕ) → Spells [] f (a_reserved w (pieces reads.read (closes reads.rest.end ∷ []))) more

  pub reads_behind : (w : Reserved) (ks : List Kind) (more : List Token) → ((e : ℕ) (ts : List Token) → kinds_of ts ≡ ks ++ [] → ReadsTree e ts [])
      → kinds_of more ≡ kinds.Reserved w ∷ ks → ReadsBehind w more
  reads_behind w ks [] reads h = absurd cc
  reads_behind w ks (t ∷ ts) reads h =
      let first : t.kind ≡ kinds.Reserved w = cc in
      let behind : kinds_of ts ≡ ks = cc in
      let x = reads t.span.to ts (behind ∙ sym (append-nil ks)) in
      record {
        e = t.span.to;
        tokens = ts;
        reads = x;
        spells = λ f. (first, refl, x.spells [] (closes x.rest.end ∷ []) (refl, none_left x.rest.tokens x.rest.left));
      }
