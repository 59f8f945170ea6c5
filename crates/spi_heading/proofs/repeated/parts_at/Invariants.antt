use Rattle.std.proofs.Common.{◌==◌, length, ◌-◌}
use Rattle.spi_lex.specs.Numbered.{listed}
use Rattle.spi_heading.proofs.Loops.{HoldsTo}
use Rattle.spi_heading.proofs.repeated.parts_at.Given as goal

abbrev pub invariant-parts : goal.invariant-parts
invariant-parts g l = HoldsTo g.P.RepeatedPart.kind (l.version == 2) (listed l.tokens) l.start l.parts.items l.at

abbrev pub decreases-parts : goal.decreases-parts
decreases-parts g l = length (listed l.tokens) - l.at
