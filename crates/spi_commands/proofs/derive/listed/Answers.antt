use Rattle.spi_rules.specs.Deriv.{rule_uses}
use Rattle.spi_commands.proofs.DeriveAnswers.{listing}
use Rattle.spi_commands.proofs.derive.listed.Goals as goal

pub returns-clause-ok : goal.returns-clause-ok
returns-clause-ok c = listing c.args.bytes.now c.in_ok-output.output.items c.args.file.now (rule_uses c.args.d.now) c.within_limit.result c.requires.read c.requires.canonical c.in_ok-output.ensures c.within_limit.ensures.ok
