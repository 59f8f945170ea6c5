-- The place with a number.
use Rattle.std.specs.Prelude.{ℕ, List, Option, Some, None, slice_get}
use Rattle.spi_text.specs.declared.lines.Span.{Span}
use Rattle.spi_tree.specs.Trees.{nowhere}

-- the place with this number, and the empty one at 0 where there isn't one
abbrev pub or_nowhere : Option Span → Span
or_nowhere None = nowhere
or_nowhere (Some s) = s

abbrev pub place_in : List Span → ℕ → Span
place_in ss i = or_nowhere (slice_get ss i)
