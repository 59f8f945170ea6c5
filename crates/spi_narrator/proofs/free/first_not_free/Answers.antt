use Rattle.spi_narrate.specs.Views.{line_of}
use Rattle.spi_narrator.proofs.Freed.{have_more, first_strange}
use Rattle.spi_narrator.proofs.free.first_not_free.Goals as goal

pub returns-in-Some : goal.returns-in-Some
returns-in-Some c free k = first_strange line_of free c.args.lines.now c.loop-line.line-index c.line-item.result c.in-Some.word.now c.line-item.is c.loop-line-test.true (c.in-Some.ensures free k) (c.loop-line.invariant free k)

pub loop-line-preserved : goal.loop-line-preserved
loop-line-preserved c free k = have_more line_of free c.args.lines.now c.loop-line.line-index c.line-item.result c.line-item.is c.loop-line-test.true (c.in_default.ensures free k) (c.loop-line.invariant free k)
