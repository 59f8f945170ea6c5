use Rattle.spi_advice.proofs.TraceLines.{is_fit, told_trace}
use Rattle.spi_advice.proofs.tracing.of_file.Goals as goal

pub course_text-requires-clause-fit : goal.course_text-requires-clause-fit
course_text-requires-clause-fit c = is_fit c.args.bytes.now c.args.file.now c.requires.read

pub returns-in-Ok : goal.returns-in-Ok
returns-in-Ok c =
    told_trace c.args.bytes.now c.args.file.now c.in-Ok.account c.told.result c.requires.read c.in-Ok.ensures.course
    c.told.ensures.course c.told.ensures.status
