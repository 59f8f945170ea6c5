use Rattle.spi_fault.specs.Faults.{told}
use Rattle.spi_commands.proofs.AnswerNo.{rejects}
use Rattle.spi_commands.proofs.rejection.rejected.Goals as goal

pub returns-clause-ok : goal.returns-clause-ok
returns-clause-ok c = rejects c.args.bytes.now c.args.file.now (told c.args.fault.now) c.fault_line.result c.requires.read c.requires.fault c.fault_line.ensures.ok
