-- Kinds whose parts are rows, each told by its first token, are good.
use Rattle.std.proofs.Common.{◌≡◌, Bool, List, [], ◌∷◌, ◌++◌, sym, ap, ◌∙◌, ◌⊎◌, inl, inr}
use Rattle.spi_lex.specs.declared.token.Kind.{Kind}
use Rattle.spi_grammar.specs.Exactly.{kinds, IsLive, IsPrefixFree, IsEven, IsGoodKind}
use Rattle.spi_grammar.proofs.Cuts.{deep_begins}
use Rattle.spi_heading.proofs.Failing.{IsToldBy}
use Rattle.spi_heading.proofs.Symbols.{HeadingSym}
use Rattle.spi_heading.proofs.Rows.{Row, row_good}

-- the row that a part of the kind M is, and the token that tells it
pub record FormOf (v : Bool) (M : List (Kind × Bool) → Type 0) (a : List (Kind × Bool)) : Type 0 where
  pub first : Kind
  pub row : List HeadingSym
  pub told : IsToldBy first (Row v row) M
  pub is : Row v row a
  pub begins : (x : List Kind) × (kinds a ≡ first ∷ x)

module _ (v : Bool) (M : List (Kind × Bool) → Type 0) (forms : (a : List (Kind × Bool)) → M a → FormOf v M a) where
  -- what begins as a part does is of its row
  same_row : (a : List (Kind × Bool)) (f : FormOf v M a) (b : List (Kind × Bool)) → M b → (x : List Kind) → kinds b ≡ f.first ∷ x → Row v f.row b
  same_row a f b mb x e = go (f.told.splits b mb)
    where
      go : Row v f.row b ⊎ ((x : List Kind) → kinds b ≡ f.first ∷ x → ⊥) → Row v f.row b
      go (inl h) = h
      go (inr never) = absurd (never x e)

  forms_closed : IsPrefixFree M
  forms_closed a b ma mb k x e =
      let f = forms a ma in
      let longer : kinds b ≡ f.first ∷ (f.begins.0 ++ k ∷ x) = e ∙ ap (λ (l : List Kind). l ++ k ∷ x) f.begins.1 in
      (row_good v f.row).closed a b f.is (same_row a f b mb (f.begins.0 ++ k ∷ x) longer) k x e

  forms_even : IsEven M
  forms_even a b ma mb within p k x e s =
      let f = forms a ma in
      let d = deep_begins b p k s in
      let one = head p (f.first) f.begins.0 (sym f.begins.1 ∙ e) d.0 d.1 in
      (row_good v f.row).even a b f.is (same_row a f b mb one.0 one.1) within p k x e s
    where
      head : (p : List Kind) (h : Kind) (y : List Kind) → h ∷ y ≡ p ++ k ∷ x → (c : List Kind) → kinds b ≡ p ++ k ∷ c → (z : List Kind) × (kinds b ≡ h ∷ z)
      head [] h y e c g = let j : h ≡ k = cc in (c, g ∙ ap (λ (w : Kind). w ∷ c) (sym j))
      head (q ∷ p) h y e c g = let j : h ≡ q = cc in (p ++ k ∷ c, g ∙ ap (λ (w : Kind). w ∷ (p ++ k ∷ c)) (sym j))

  pub forms_good : IsLive M → IsGoodKind M
  forms_good live = record { live = live; closed = forms_closed; even = forms_even }
