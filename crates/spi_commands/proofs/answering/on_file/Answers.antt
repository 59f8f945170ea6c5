use Rattle.spi_commands.specs.declared.asked.Command.TheVariants.{Upgrade}
use Rattle.spi_commands.proofs.AnswerCommands.{answered_as}
use Rattle.spi_commands.proofs.answering.on_file.Goals as goal

pub returns-in-Upgrade-clause-answers : goal.returns-in-Upgrade-clause-answers
returns-in-Upgrade-clause-answers g c = answered_as c.args.command Upgrade c.args.bytes.now _ c.upgraded.result c.in-Upgrade.is c.upgraded.ensures.ok c.upgraded.ensures.err
