use Rattle.spi_expected.proofs.Front.{begun_whole, begun_deep, begun_syntax}
use Rattle.spi_expected.proofs.fronts.is_begun_in.Goals.{in-Ok, in-Err-Syntax, in-Err-TooDeep, in-Err-NoMemory}
use Rattle.spi_expected.proofs.fronts.is_begun_in.Goals as goal

pub returns : goal.returns
returns c = elim c.match-parse.branch [
  | in-Ok w ↦ rw w.result-is (begun_whole _ c.args.tokens.now (rw w.in-Ok.is at c.parse.ensures))
  | in-Err-Syntax w ↦ rw w.result-is (begun_syntax _ c.args.tokens.now _ (rw w.in-Err-Syntax.field-0-is at w.in-Err-Syntax.ensures) w.is_length.ensures)
  | in-Err-TooDeep w ↦ rw w.result-is (begun_deep _ c.args.tokens.now (rw w.in-Err-TooDeep.field-0-is at w.in-Err-TooDeep.ensures))
  | in-Err-NoMemory w ↦ rw w.result-is tt
]
