use Rattle.std.proofs.Common.{ap}
use Rattle.spi_scope.specs.Files.{uses_of}
use Rattle.spi_commands.proofs.VerifyAnswers.{lacks}
use Rattle.spi_commands.proofs.verify.verified.Goals as goal

pub returns-in-None-clause-ok : goal.returns-in-None-clause-ok
returns-in-None-clause-ok c = lacks c.args.bytes.now c.args.file.now c.missing.result c.requires.read (ap uses_of c.in-None.is) c.missing.ensures.ok
