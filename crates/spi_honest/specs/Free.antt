-- What the table of free names keeps.
use Rattle.std.specs.Prelude.{◌≡◌, length}
use Rattle.std.specs.Str.{bytes_eq}
use Rattle.indexmap.specs.IndexMap.{get_by}
use Rattle.spi_narrate.specs.Narrations as n
use Rattle.spi_scope.specs.Scope.{Word, Names, number_of}
use Rattle.spi_honest.specs.declared.free.FreeNames.{FreeNames}
use Rattle.spi_honest.specs.Narrated.{free_of}

-- each spelling has the number of the innermost name
pub record NumbersSpellings (table : FreeNames) (names : Names) : Type 0 where
  pub count : table.count ≡ length names
  pub finds : (w : Word) → get_by (λ k. bytes_eq w k.now) table.numbers ≡ number_of names w

-- the table of a narration's free names
abbrev pub NumbersFree : FreeNames → n.Narration → Type 0
NumbersFree table x = NumbersSpellings table (free_of x)
