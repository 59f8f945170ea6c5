use Rattle.std.proofs.Common.{take, ◌+◌}
use Rattle.spi_count.specs.Adding.{PileOf}
use Rattle.spi_count.proofs.Summed.{takes_none, takes_more, take_step}
use Rattle.spi_count.proofs.piling.drop_each.Goals as goal

pub loop-a-init : goal.loop-a-init
loop-a-init c = takes_none PileOf c.args.keys.now c.args.pile.now

pub loop-a-preserved : goal.loop-a-preserved
loop-a-preserved c =
    takes_more PileOf c.args.keys.now (take c.loop-a.a-index c.args.ids.now) (take (c.loop-a.a-index + 1) c.args.ids.now) _ c.args.pile.now c.loop-a.pile c.drop_atom.new.pile (take_step c.args.ids.now c.loop-a.a-index _ c.loop-a-test.true) c.loop-a.invariant c.in_ok-drop_atom.ensures
