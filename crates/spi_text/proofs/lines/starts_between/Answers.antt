use Rattle.std.proofs.Common.{arith}
use Rattle.spi_text.proofs.Blocks.{starts_from}
use Rattle.spi_text.proofs.lines.starts_between.Goals as goal

pub overflow_sub-result : goal.overflow_sub-result
overflow_sub-result c =
    let all = starts_from c.args.bytes.now c.args.from c.args.to c.requires.from in
    omega (arith, all, c.starts_before.ensures, c.starts_before-2.ensures)

pub returns : goal.returns
returns c =
    let all = starts_from c.args.bytes.now c.args.from c.args.to c.requires.from in
    omega (arith, all, c.starts_before.ensures, c.starts_before-2.ensures)
