-- The parts of one kind that a whole text ends with.
use Rattle.std.proofs.Common.{◌≡◌, ℕ, ◌≤◌, ◌<◌, Bool, List, [], ◌∷◌, ◌++◌, length, Err, refl, sym, ap, subst, ◌∙◌, arith}
use Rattle.spi_lex.specs.declared.token.Kind.{Kind}
use Rattle.spi_lex.specs.declared.token.Token.{Token}
use Rattle.spi_lex.specs.Lexing.{kinds_of}
use Rattle.spi_tree.specs.Pieces.{Piece}
use Rattle.spi_tree.specs.Formed.{AreWordsFit}
use Rattle.spi_parse.specs.declared.fault.ParseFault.{ParseFault}
use Rattle.spi_grammar.specs.Exactly.{kinds, IsGoodKind, Many, Nothing}
use Rattle.spi_grammar.proofs.Good.{IsSome}
use Rattle.spi_parts.proofs.Bridge.{OfPieces}
use Rattle.spi_heading.specs.Each.{IsWhole, EachAt, ReadsEach}
use Rattle.spi_heading.specs.Repeated.{IsSolid}
use Rattle.spi_heading.proofs.Standing.{unfound, one_there}
use Rattle.spi_heading.proofs.Failing.{fails_from}
use Rattle.spi_heading.proofs.Each.{Along, each_along}
use Rattle.spi_heading.proofs.Wholes.{WholeFails, RestOfWhole, many_fault, each_next}

pub nothing_begins : (k : Kind) (b : List (Kind × Bool)) → Nothing b → (x : List Kind) → kinds b ≡ k ∷ x → ⊥
nothing_begins k b lb x e = let g : [] ≡ k ∷ x = ap kinds (sym lb) ∙ e in cc

-- the loop that reads them ends where the text does
pub at_end : (m n : ℕ) → m ≤ n → (m < n → ⊥) → m ≡ n
at_end m n le not = let ge : n ≤ m = omega (arith, not) in omega arith

module _ {X : Type 0} (piece : X → List Piece → List Piece) (behind : (x : X) (r : List Piece) → piece x r ≡ piece x [] ++ r) (solids : (x : X) (r : List Piece) → IsSolid (piece x r)) (v : Bool) (Is : X → Type 0) where
  abbrev Parts : List (Kind × Bool) → Type 0
  Parts = OfPieces (λ x. piece x []) (IsWhole v piece Is)

  -- those that are read stand up to the end
  pub last_along : (ts : List Token) (i end : ℕ) (xs : List X) → i ≤ length ts → EachAt piece Is xs ts i end × (end < length ts → ⊥) → Along piece behind Is ts i xs (length ts)
  last_along ts i end xs within e = subst (λ (m : ℕ). Along piece behind Is ts i xs m) (at_end end (length ts) e.0.within e.1) (each_along piece behind Is ts solids i end xs within e.0)

  pub last_answer : IsGoodKind Parts → IsSome Parts → (Whole : List (Kind × Bool) → Type 0) (ts : List Token) → AreWordsFit v (kinds_of ts) → (i : ℕ) → i ≤ length ts → RestOfWhole Whole (Many Parts Nothing) ts i → (f : ParseFault)
      → ReadsEach (λ (xs : List X). xs) piece v Is (λ ts i. i < length ts) (Err f) ts i → WholeFails Whole ts f
  last_answer good some Whole ts fit i within r f e =
      let o = one_there ts e.1 e.3 in
      many_fault Whole Parts Nothing ts e.1 f o.0.kind (o.0, unfound ts e.1 o.0 o.1 o.2, refl) (λ b lb x g. nothing_begins o.0.kind b lb x g)
      (each_next Whole Nothing ts piece behind v Is fit good some (λ a b la lb k x y g h. nothing_begins k b lb y h) ([], refl) e.0 i e.1 (each_along piece behind Is ts solids i e.1 e.0 within e.2) r)
      good ([], refl) (fails_from (λ (x : X). x) (λ x. piece x []) (IsWhole v piece Is) ts e.1 f e.4)
