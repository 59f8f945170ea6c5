use Rattle.std.proofs.Common.{◌≡◌, take}
use Rattle.std.specs.List.{count_by}
use Rattle.spi_text.specs.Place.{is_line_end}
use Rattle.spi_text.proofs.place.line_ends_in.Given as goal

abbrev pub invariant-loop-b : goal.invariant-loop-b
invariant-loop-b l = l.count ≡ count_by is_line_end (take l.b-index l.bytes)
