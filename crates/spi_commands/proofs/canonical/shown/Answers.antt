use Rattle.std.proofs.Common.{arith}
use Rattle.spi_scope.specs.Files.{meant}
use Rattle.spi_commands.proofs.AnswerText.{long_text}
use Rattle.spi_commands.proofs.canonical.shown.Goals as goal

pub returns-else-len-le-LIMIT-clause-ok : goal.returns-else-len-le-LIMIT-clause-ok
returns-else-len-le-LIMIT-clause-ok c = long_text c.args.bytes.now c.in_ok-output.output.items (meant c.args.file.now) c.len-else-len-le-LIMIT.result c.too_much.result c.in_ok-output.ensures (omega (arith, c.len.ensures, c.len-else-len-le-LIMIT.ensures)) c.too_much.ensures.ok
