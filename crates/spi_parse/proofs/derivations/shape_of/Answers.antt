use Rattle.std.proofs.Common.{refl}
use Rattle.spi_parse.proofs.RuleLaws.{arity_none}
use Rattle.spi_parse.proofs.derivations.shape_of.Goals as goal

pub returns-in-None : goal.returns-in-None
returns-in-None c = arity_none c.args.later c.args.word.now (c.in-None.ensures.none refl)
