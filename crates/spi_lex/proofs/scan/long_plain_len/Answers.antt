use Rattle.std.proofs.Common.{◌+◌, ◌≤◌, length, arith}
use Rattle.spi_lex.proofs.Plain.{sixteen_more}
use Rattle.spi_lex.proofs.scan.long_plain_len.Goals as goal

pub loop-at-preserved : goal.loop-at-preserved
loop-at-preserved c =
    let fits : c.loop-at.at + 16 ≤ length c.args.bytes.now = omega (arith, c.loop-at-test.true, c.loop-at.invariant.0) in
    (fits, sixteen_more c.args.bytes.now c.loop-at.at fits c.loop-at.invariant.1 (c.are_plain.ensures c.if-are_plain.true))
