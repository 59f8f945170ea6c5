use Rattle.std.proofs.Common.{◌*◌, ◌/◌, arith}
use Rattle.spi_text.proofs.Blocks.{starts_from}
use Rattle.spi_text.proofs.lines.starts_before.Goals as goal

pub returns : goal.returns
returns c =
    let before = c.requires.blocks.before (c.args.to / 1024) (omega (arith, c.requires.blocks.past, c.requires.to)) in
    let all = starts_from c.args.bytes.now (c.args.to / 1024 * 1024) c.args.to (omega arith) in
    omega (arith, before, all, c.starts_in.ensures)
