use Rattle.spi_commands.proofs.AnswerNo.{stands_within}
use Rattle.spi_advice.proofs.Advised.{advised, file_checks}
use Rattle.spi_advice.proofs.advice.of_file.Goals as goal

pub explain_file-requires : goal.explain_file-requires
explain_file-requires c =
    rw c.in_ok-lines.ensures (λ i. stands_within c.args.bytes.now c.args.file.now i c.requires.read)

pub returns : goal.returns
returns c =
    let found = rw c.in_ok-lines.ensures at c.in_ok-found.ensures.line in
    let is = file_checks c.args.bytes.now c.in_ok-found.found.line.items c.args.file.now c.in_ok-found.found.fault
    c.requires.read found c.in_ok-found.ensures.fault in
    advised c.args.bytes.now c.in_ok-line.line.items c.deref.result.now
    c.verdict.result c.joined.result (rw (c.verdict.ensures, c.in_ok-line.ensures) is) c.joined.ensures
