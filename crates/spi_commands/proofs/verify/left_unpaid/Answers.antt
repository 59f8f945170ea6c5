use Rattle.spi_term.specs.View.{effect}
use Rattle.spi_commands.proofs.VerifyAnswers.{unpaid_answer, never_empty}
use Rattle.spi_commands.proofs.verify.left_unpaid.Goals as goal

pub returns-in-Some-clause-ok : goal.returns-in-Some-clause-ok
returns-in-Some-clause-ok c = unpaid_answer c.args.bytes.now c.args.file.now (effect c.args.effect.now) c.in-Some.fault c.fault_line.result c.requires.read c.requires.left (rw c.in-Some.is at c.in_ok-fault.ensures) c.fault_line.ensures.ok

pub returns-in-None-clause-ok : goal.returns-in-None-clause-ok
returns-in-None-clause-ok c = absurd (never_empty _ _ _ _ c.requires.left (rw c.in-None.is at c.in_ok-fault.ensures))
