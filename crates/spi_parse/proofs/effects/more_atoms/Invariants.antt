use Rattle.std.proofs.Common.{◌≡◌, map, length}
use Rattle.spi_parse.specs.Places.{state_of}
use Rattle.spi_parse.specs.Reading.{read, limited, front}
use Rattle.spi_tree.specs.Views.{atom_of}
use Rattle.spi_parse.specs.Table.{atoms}
use Rattle.spi_parse.proofs.effects.more_atoms.Given as goal

abbrev pub invariant-items : goal.invariant-items
invariant-items l = front (map atom_of l.more.items) (read limited (atoms l.node.later l.node.numbered l.node.nesting) (state_of l.at)) ≡ read limited (atoms l.node.later l.node.numbered l.node.nesting) (state_of l.fn.at)

abbrev pub decreases-items : goal.decreases-items
decreases-items l = length (state_of l.at).rest
