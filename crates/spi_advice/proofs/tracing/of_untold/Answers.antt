use Rattle.spi_advice.proofs.TraceLines.{lacks_opponent, lacks_schedule, offended}
use Rattle.spi_advice.proofs.tracing.of_untold.Goals as goal

pub returns-in-NoOpponent : goal.returns-in-NoOpponent
returns-in-NoOpponent c =
    lacks_opponent c.args.bytes.now _ c.args.file.now c.lacking.result c.requires.read c.in_ok-lines.ensures
    (rw c.in-NoOpponent.is at c.requires.untold) c.lacking.ensures.refused c.lacking.ensures.line

pub returns-in-NoSchedule : goal.returns-in-NoSchedule
returns-in-NoSchedule c =
    lacks_schedule c.args.bytes.now _ c.args.file.now c.lacking-in-NoSchedule.result c.requires.read c.in_ok-lines.ensures
    (rw c.in-NoSchedule.is at c.requires.untold) c.lacking-in-NoSchedule.ensures.refused c.lacking-in-NoSchedule.ensures.line

pub returns-in-NotOpponent : goal.returns-in-NotOpponent
returns-in-NotOpponent c =
    offended c.args.bytes.now c.args.file.now c.in-NotOpponent.node c.offending.result c.requires.read
    (rw c.in-NotOpponent.is at c.requires.untold) c.offending.ensures.refused c.offending.ensures.line
