use Rattle.std.proofs.Common.{◌≡◌, not, take}
use Rattle.std.specs.List.{count_by}
use Rattle.spi_text.specs.Place.{continues}
use Rattle.spi_text.proofs.lines.starts_in.Given as goal

abbrev pub invariant-loop-b : goal.invariant-loop-b
invariant-loop-b l = l.count ≡ count_by (λ b. not (continues b)) (take l.b-index l.bytes)
