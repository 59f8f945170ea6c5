-- Declarations and shared names are good kinds, told by their first tokens.
use Rattle.std.proofs.Common.{◌≡◌, Bool, List, [], ◌∷◌, refl, sym, ap, subst, ◌∙◌, ◌⊎◌, inl, inr}
use Rattle.spi_lex.specs.declared.token.Kind.{Kind}
use Rattle.spi_lex.specs.declared.token.Kind.TheVariants as K
use Rattle.spi_lex.specs.declared.token.Reserved.TheVariants as word
use Rattle.spi_tree.specs.declared.tree.SWord.{SWord}
use Rattle.spi_tree.specs.Trees as t
use Rattle.spi_tree.specs.Pieces.{cells}
use Rattle.spi_parse.specs.Formed.{whole_decl, IsWholeDecl}
use Rattle.spi_grammar.specs.Exactly.{kinds, IsGoodKind}
use Rattle.spi_grammar.proofs.Good.{IsSome}
use Rattle.spi_parts.proofs.Bridge.{of_piece}
use Rattle.spi_parts.proofs.Alone.{Decls, declarations_closed, declarations_even}
use Rattle.spi_heading.specs.Grammar.{shared_word, whole_shared}
use Rattle.spi_heading.proofs.Symbols.{asked_fits, shared, spelling_asked}
use Rattle.spi_heading.proofs.Rows.{row_good}
use Rattle.spi_heading.proofs.Names.{Shareds, shared_row, shared_are}
use Rattle.spi_heading.proofs.RowParts.{rows_same}
use Rattle.spi_tree.specs.Trees.{nowhere}

abbrev pub BeginsDeclared : Kind → Type 0
BeginsDeclared k = (k ≡ K.Reserved word.Free) ⊎ (k ≡ K.Reserved word.TypeWord)

decl_first : (d : t.Declared) → (k : Kind) × (x : List Kind) × (kinds (cells (whole_decl d)) ≡ k ∷ x) × BeginsDeclared k
decl_first (t.free s w ws) = (K.Reserved word.Free, _, refl, inl refl)
decl_first (t.abbreviated s w a) = (K.Reserved word.TypeWord, _, refl, inr refl)

module _ (v : Bool) where
  pub decls_begin : (a : List (Kind × Bool)) → Decls v a → (k : Kind) (x : List Kind) → kinds a ≡ k ∷ x → BeginsDeclared k
  decls_begin a p k x e =
      let f = decl_first p.part in
      let g : f.0 ∷ f.1 ≡ k ∷ x = sym f.2 ∙ ap kinds p.shows ∙ e in
      let j : f.0 ≡ k = cc in
      subst BeginsDeclared j f.3

  pub decls_some : IsSome (Decls v)
  decls_some a p e = let f = decl_first p.part in let g : f.0 ∷ f.1 ≡ [] = sym f.2 ∙ ap kinds p.shows ∙ e in cc

  pub decls_good : IsGoodKind (Decls v)
  decls_good =
      let name : SWord = record { word = spelling_asked shared; span = nowhere } in
      let d : t.Declared = t.free nowhere name [] in
      record { live = (cells (whole_decl d), of_piece whole_decl (IsWholeDecl v) d (tt, (tt, (asked_fits v shared, (tt, tt))))); closed = declarations_closed v; even = declarations_even v }

  pub shareds_begin : (a : List (Kind × Bool)) → Shareds v a → (k : Kind) (x : List Kind) → kinds a ≡ k ∷ x → k ≡ shared_word
  shareds_begin a p k x e =
      let g : kinds (cells (whole_shared p.part)) ≡ k ∷ x = ap kinds p.shows ∙ e in
      cc

  pub shareds_some : IsSome (Shareds v)
  shareds_some a p e = let g : kinds (cells (whole_shared p.part)) ≡ [] = ap kinds p.shows ∙ e in cc

  pub shareds_good : IsGoodKind (Shareds v)
  shareds_good =
      let s = rows_same (shared_are v) in
      let g = row_good v shared_row in
      record { live = (g.live.0, s.there g.live.0 g.live.1); closed = λ a b ma mb k x e. g.closed a b (s.back a ma) (s.back b mb) k x e; even = λ a b ma mb within p k x e d. g.even a b (s.back a ma) (s.back b mb) within p k x e d }
