-- Lists of all numbers of a kind.
use Rattle.std.specs.Prelude.{◌↔◌, ℕ, List}
use Rattle.spi_term.specs.Lists.{In, AreAscending}

-- the list has each number that is so, and no other, the least first
pub record AreAll (IsSo : ℕ → Type 0) (is : List ℕ) : Type 0 where
  pub ascending : AreAscending is
  pub each : (i : ℕ) → In i is ↔ IsSo i
