use Rattle.spi_count.specs.Adding.{SumOf}
use Rattle.std.proofs.Common.{take, ◌+◌}
use Rattle.spi_count.proofs.Summed.{adds_none, adds_more, take_step}
use Rattle.spi_count.proofs.atoms.add_atoms.Goals as goal

pub loop-a-init : goal.loop-a-init
loop-a-init c = adds_none SumOf c.args.keys.now c.args.sum.now

pub loop-a-preserved : goal.loop-a-preserved
loop-a-preserved c =
    adds_more SumOf c.args.keys.now (take c.loop-a.a-index c.args.ids.now) (take (c.loop-a.a-index + 1) c.args.ids.now) _ c.args.sum.now c.loop-a.sum c.add_atom.new.sum (take_step c.args.ids.now c.loop-a.a-index _ c.loop-a-test.true) c.loop-a.invariant c.in_ok-add_atom.ensures
