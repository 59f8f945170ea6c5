use Rattle.std.proofs.Common.{◌∙◌}
use Rattle.spi_commands.proofs.UpgradeAnswers.{respelled_if}
use Rattle.spi_commands.proofs.upgrade.spelling.Goals as goal

pub returns-in_ok-word-in-Some : goal.returns-in_ok-word-in-Some
returns-in_ok-word-in-Some c =
    respelled_if c.args.names.now c.args.name.now c.in-Some.prefix.now c.as_str.result.now c.in_ok-number-in-Some.number c.of-in-Some.result c.in-Some.ensures.0 c.in-Some.ensures.1 c.in_ok-number-in-Some.ensures (c.as_str.ensures.value ∙ c.in_ok-word-in-Some.ensures.ok) c.of-in-Some.ensures
