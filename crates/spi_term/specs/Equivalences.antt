-- Equal counts, and sameness of types, are equivalences.
use Rattle.spi_term.specs.Counts.{SameEffect}
use Rattle.spi_term.specs.SameTy.{SameTy}

-- a relation that is reflexive, symmetric and transitive
pub record IsEquivalence {A : Type 0} (R : A → A → Type 0) : Type 0 where
  pub reflexive : (a : A) → R a a
  pub symmetric : (a b : A) → R a b → R b a
  pub transitive : (a b c : A) → R a b → R b c → R a c

abbrev pub CountsAreEquivalent : Type 0
CountsAreEquivalent = IsEquivalence SameEffect

abbrev pub TypesAreEquivalent : Type 0
TypesAreEquivalent = IsEquivalence SameTy
