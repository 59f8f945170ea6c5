use Rattle.std.proofs.Common.{◌≡◌, map, length}
use Rattle.spi_parse.specs.Places.{state_of}
use Rattle.spi_parse.specs.Reading.{read, limited, front}
use Rattle.spi_tree.specs.Views.{step_of}
use Rattle.spi_parse.specs.Table.{steps}
use Rattle.spi_parse.proofs.schedules.all_steps.Given as goal

abbrev pub invariant-items : goal.invariant-items
invariant-items l = front (map step_of l.more.items) (read limited steps (state_of l.at)) ≡ read limited steps (state_of l.fn.at)

abbrev pub decreases-items : goal.decreases-items
decreases-items l = length (state_of l.at).rest
