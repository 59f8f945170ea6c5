use Rattle.spi_bench.proofs.Wholes.{together_is_least, none_is_one, decided}
use Rattle.spi_bench.proofs.laws.parts_decide.Goals as goal

pub returns-clause-least : goal.returns-clause-least
returns-clause-least c = together_is_least

pub returns-clause-blocked : goal.returns-clause-blocked
returns-clause-blocked c = none_is_one

pub returns-clause-whole : goal.returns-clause-whole
returns-clause-whole c = decided
