use Rattle.std.proofs.Common.{◌∙◌}
use Rattle.spi_commands.proofs.AnswerNo.{stands_within}
use Rattle.spi_commands.proofs.rejection.fault_line.Goals as goal

pub no_fault-requires : goal.no_fault-requires
no_fault-requires c = rw c.for_few-lines.ensures (stands_within c.args.bytes.now c.args.file.now c.args.fault.now.node c.requires.read)

pub returns-clause-ok : goal.returns-clause-ok
returns-clause-ok c = (c.answer_with.ensures.status, c.answer_with.ensures.output ∙ rw c.for_few-lines.ensures at c.in_ok-output.ensures)
