-- How a form of which the front was seen stands to a text.
use Rattle.std.specs.Prelude.{◌≡◌, ℕ, List, ◌++◌}
use Rattle.std.specs.Cmp.Lexicographic.{slice_cmp}
use Rattle.std.specs.Ordering.{nat_cmp}
use Rattle.std.specs.declared.cmp.Ordering.{Ordering}
use Rattle.std.specs.declared.cmp.Ordering.TheVariants.{Less, Greater}
use Rattle.spi_show.specs.declared.below.Standing.{Standing}
use Rattle.spi_show.specs.declared.below.Standing.TheVariants.{On, Before, Behind}

-- how the text compares with the form, where so much of the form comes yet
abbrev pub compared : Standing → List ℕ → Ordering
compared (On rest) more = slice_cmp nat_cmp rest.now more
compared Before more = Greater
compared Behind more = Less

-- the standing behind one more piece
abbrev pub Passes : Standing → List ℕ → Standing → Type 0
Passes from piece to = (more : List ℕ) → compared from (piece ++ more) ≡ compared to more
