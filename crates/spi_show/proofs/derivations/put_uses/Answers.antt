use Rattle.spi_show.proofs.Texts.{uses_next}
use Rattle.spi_show.proofs.derivations.put_uses.Goals as goal

pub loop-u-preserved : goal.loop-u-preserved
loop-u-preserved c =
    uses_next c.args.out.now.items c.loop-u.out.items c.put_use.new.out.items c.args.uses.now c.loop-u.u-index c.u-item.result c.u-item.is c.loop-u-test.true c.loop-u.invariant c.in_ok-put_use.ensures
