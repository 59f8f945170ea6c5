use Rattle.spi_scope.specs.Files.{meant}
use Rattle.spi_commands.proofs.UpgradeAnswers.{read_spelled, read_version, upgrades}
use Rattle.spi_commands.proofs.upgrade.upgraded.Goals as goal

pub in_version_2-requires : goal.in_version_2-requires
in_version_2-requires c = read_version c.args.bytes.now c.args.file c.requires.read

pub returns-clause-ok : goal.returns-clause-ok
returns-clause-ok c = upgrades c.args.bytes.now (meant c.args.file) (meant c.in_ok-file.file) c.shown-answer.result (read_spelled c.args.bytes.now c.args.file c.requires.read) c.in_ok-file.ensures c.shown-answer.ensures.ok
