use Rattle.spi_count.specs.Adding.{SumOf}
use Rattle.spi_message.specs.Forms.{cast_effect_of}
use Rattle.spi_count.proofs.Summed.{no_effect, takes_quiet, takes_said}
use Rattle.spi_count.proofs.atoms.take_type.Goals as goal

pub returns-in-Nonce : goal.returns-in-Nonce
returns-in-Nonce c u es k m t = takes_said c.in-Nonce.ids c.args.sum.now c.take_atoms.new.sum u es k (c.in-Nonce.ensures u m) c.take_atoms.ensures t

pub returns-in-Un : goal.returns-in-Un
returns-in-Un c u es k m t = takes_quiet SumOf c.args.store.now c.args.keys.now c.args.sum.now es (cast_effect_of u) (no_effect _ u tt (c.in-Un.ensures u m)) t

pub returns-in-Unit : goal.returns-in-Unit
returns-in-Unit c u es k m t = takes_quiet SumOf c.args.store.now c.args.keys.now c.args.sum.now es (cast_effect_of u) (no_effect _ u tt (c.in-Unit.ensures u m)) t

pub returns-in-Pair : goal.returns-in-Pair
returns-in-Pair c u es k m t = takes_quiet SumOf c.args.store.now c.args.keys.now c.args.sum.now es (cast_effect_of u) (no_effect _ u tt (c.in-Pair.ensures u m)) t

pub returns-in-Sum : goal.returns-in-Sum
returns-in-Sum c u es k m t = takes_quiet SumOf c.args.store.now c.args.keys.now c.args.sum.now es (cast_effect_of u) (no_effect _ u tt (c.in-Sum.ensures u m)) t

pub returns-in-Key : goal.returns-in-Key
returns-in-Key c u es k m t = takes_quiet SumOf c.args.store.now c.args.keys.now c.args.sum.now es (cast_effect_of u) (no_effect _ u tt (c.in-Key.ensures u m)) t
