use Rattle.spi_term.specs.View.{effect}
use Rattle.spi_effect.proofs.Made.{within_told}
use Rattle.spi_effect.proofs.questions.within.Goals as goal

pub returns : goal.returns
returns c = within_told c.is_effect_within.result (effect c.args.a.now) (effect c.args.b.now) (cc (c.is_effect_within.ensures, c.deref.ensures.value))
