use Rattle.std.proofs.Common.{refl}
use Rattle.spi_term.proofs.Places.{scope_of_shape}
use Rattle.spi_replay.proofs.Waited.{enter_node, read_below, read_names, has_entered}
use Rattle.spi_replay.proofs.places.entered.Goals as goal

pub node-at-requires : goal.node-at-requires
node-at-requires c = enter_node c.requires

pub wait_at-requires-clause-below : goal.wait_at-requires-clause-below
wait_at-requires-clause-below c = read_below c.names-free.result c.names-free.ensures (record { can = c.requires; there = c.node-at.ensures; scope = scope_of_shape c.node-at.result.now })

pub wait_at-requires-clause-names : goal.wait_at-requires-clause-names
wait_at-requires-clause-names c = read_names c.names-free.result c.names-free.ensures (record { can = c.requires; there = c.node-at.ensures; scope = scope_of_shape c.node-at.result.now })

pub returns-clause-at : goal.returns-clause-at
returns-clause-at c =
    has_entered _ c.names-free.result c.names-free.ensures (record { can = c.requires; there = c.node-at.ensures; scope = scope_of_shape c.node-at.result.now }) c.in_ok-wait.ensures.kept.messages refl refl c.in_ok-wait.ensures.at
