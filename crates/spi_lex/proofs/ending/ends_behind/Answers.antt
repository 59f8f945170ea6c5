use Rattle.std.proofs.Common.{subst}
use Rattle.spi_lex.specs.Left.{OnlyGaps}
use Rattle.spi_lex.proofs.Behind.{ends_there}
use Rattle.spi_lex.proofs.ending.ends_behind.Goals as goal

pub returns-in-Some : goal.returns-in-Some
returns-in-Some c h = ends_there c.args.text.now c.args.at c.utf8.text c.requires (subst OnlyGaps c.in-Some.ensures.back (c.only_gaps.ensures.0 h))
