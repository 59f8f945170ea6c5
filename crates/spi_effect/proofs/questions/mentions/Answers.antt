use Rattle.spi_term.specs.View.{effect}
use Rattle.spi_term.proofs.Freeness.{mentions_told}
use Rattle.spi_effect.proofs.questions.mentions.Goals as goal

pub returns : goal.returns
returns c = mentions_told c.is_name_in_effect.result c.args.name (effect c.args.e.now) (cc (c.is_name_in_effect.ensures, c.deref.ensures.value))
