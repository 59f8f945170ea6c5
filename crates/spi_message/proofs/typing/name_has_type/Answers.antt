use Rattle.spi_term.specs.Term.{name}
use Rattle.spi_message.proofs.Standing.{found_at, missing_at}
use Rattle.spi_message.proofs.Questions.{name_typed, name_untyped}
use Rattle.spi_message.proofs.Comparing.{no_typing}
use Rattle.spi_message.proofs.typing.name_has_type.Goals as goal

pub returns-in_ok-wanted-in-Some-clause-answer : goal.returns-in_ok-wanted-in-Some-clause-answer
returns-in_ok-wanted-in-Some-clause-answer c =
    name_typed c.in_ok-wanted-in-Some.ensures.kept c.distinct.ensures.differ (found_at c.args.env.now c.args.x c.in-Some.known.now _ c.in-Some.ensures.lookup.0 c.in-Some.ensures.lookup.1) c.in_ok-wanted-in-Some.ensures.at c.eq.result c.eq.ensures

pub returns-in-None-clause-answer : goal.returns-in-None-clause-answer
returns-in-None-clause-answer c = name_untyped (missing_at c.args.env.now c.args.x c.in-None.ensures.lookup.0)

pub returns-in_ok-wanted-in-Some-clause-adds : goal.returns-in_ok-wanted-in-Some-clause-adds
returns-in_ok-wanted-in-Some-clause-adds c = c.in_ok-wanted-in-Some.ensures.adds c.args.env.now (name c.args.x)

pub returns-in-None-clause-adds : goal.returns-in-None-clause-adds
returns-in-None-clause-adds c = no_typing
