use Rattle.std.proofs.Common.{length, ◌∷◌}
use Rattle.spi_narrate.specs.Views.{line_of}
use Rattle.spi_narrate.proofs.Testing.{lines_fault, lines_more}
use Rattle.spi_narrate.proofs.faultless.test_lines.Goals as goal

pub returns-in_err-test_line : goal.returns-in_err-test_line
returns-in_err-test_line c =
    lines_fault line_of c.from_residual.result c.in_err-test_line.field-0.0 (length c.args.lines.now) (c.args.first.now ∷ c.args.more.now) c.args.lines.now c.loop-i.i c.index-lines-i.result c.index-lines-i.is c.loop-i-test.true c.loop-i.invariant
    c.from_residual.ensures.1 c.in_err-test_line.ensures

pub loop-i-preserved : goal.loop-i-preserved
loop-i-preserved c =
    lines_more line_of (length c.args.lines.now) (c.args.first.now ∷ c.args.more.now) c.args.lines.now c.loop-i.i c.index-lines-i.result c.index-lines-i.is c.loop-i-test.true c.loop-i.invariant c.in_ok-test_line.ensures
