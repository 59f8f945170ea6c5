use Rattle.std.proofs.Common.{◌+◌}
use Rattle.spi_term.specs.View.{shape_of}
use Rattle.spi_replay.specs.Moves.{w_stays, w_makes, w_forks}
use Rattle.spi_replay.proofs.Waited.{given_below}
use Rattle.spi_replay.proofs.WaitsBy.{lone_for, joint_for, waits_by}
use Rattle.spi_replay.proofs.places.wait_at.Goals as goal

pub returns-in-Stays-clause-at : goal.returns-in-Stays-clause-at
returns-in-Stays-clause-at c = waits_by (shape_of c.args.node.now) _ c.in-Stays.ensures.moves (record { at = λ vs s. w_stays })

pub returns-in-Freshes-clause-at : goal.returns-in-Freshes-clause-at
returns-in-Freshes-clause-at c = waits_by (shape_of c.args.node.now) _ c.in-Freshes.ensures.moves (record { at = λ vs s. w_makes })

pub returns-in-Forks-clause-at : goal.returns-in-Forks-clause-at
returns-in-Forks-clause-at c = waits_by (shape_of c.args.node.now) _ c.in-Forks.ensures.moves (record { at = λ vs s. w_forks })

pub returns-in_ok-id-in-One-clause-at : goal.returns-in_ok-id-in-One-clause-at
returns-in_ok-id-in-One-clause-at c =
    waits_by (shape_of c.args.node.now) _ c.in-One.ensures.moves (lone_for c.in-One.lone c.in_ok-id-in-One.id c.part.result c.lone_wait.result c.in_ok-id-in-One.ensures.at c.part.ensures c.lone_wait.ensures)

pub returns-in_ok-id-in-Two-clause-at : goal.returns-in_ok-id-in-Two-clause-at
returns-in_ok-id-in-Two-clause-at c =
    waits_by (shape_of c.args.node.now) _ c.in-Two.ensures.moves (joint_for c.in-Two.joint _ c.part-in-Two.result _ c.joint_wait.result c.in_ok-id-in-Two.ensures.differ c.in_ok-id-in-Two.ensures.first c.in_ok-id-in-Two.ensures.second c.part-in-Two.ensures c.joint_wait.ensures)

pub instance-requires-clause-over : goal.instance-requires-clause-over
instance-requires-clause-over c = c.in-One.ensures.over (c.args.scope.free + c.args.scope.bound) c.requires.below

pub part-requires : goal.part-requires
part-requires c = given_below c.requires.names c.in_ok-id-in-One.ensures.at

pub instances-requires-clause-first : goal.instances-requires-clause-first
instances-requires-clause-first c = (c.in-Two.ensures.over (c.args.scope.free + c.args.scope.bound) c.requires.below).0

pub instances-requires-clause-second : goal.instances-requires-clause-second
instances-requires-clause-second c = (c.in-Two.ensures.over (c.args.scope.free + c.args.scope.bound) c.requires.below).1

pub part-requires-in-Two : goal.part-requires-in-Two
part-requires-in-Two c = given_below c.requires.names c.in_ok-id-in-Two.ensures.first
