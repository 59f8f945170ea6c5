use Rattle.std.proofs.Common.{take, ◌+◌}
use Rattle.spi_count.specs.Adding.{PileOf}
use Rattle.spi_count.proofs.Summed.{adds_none, adds_more, take_step}
use Rattle.spi_count.proofs.piling.put_atoms.Goals as goal

pub loop-a-init : goal.loop-a-init
loop-a-init c = adds_none PileOf c.args.keys.now c.args.pile.now

pub loop-a-preserved : goal.loop-a-preserved
loop-a-preserved c =
    adds_more PileOf c.args.keys.now (take c.loop-a.a-index c.args.ids.now) (take (c.loop-a.a-index + 1) c.args.ids.now) _ c.args.pile.now c.loop-a.pile c.put_atom.new.pile (take_step c.args.ids.now c.loop-a.a-index _ c.loop-a-test.true) c.loop-a.invariant c.in_ok-put_atom.ensures
