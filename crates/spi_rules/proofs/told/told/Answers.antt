use Rattle.std.proofs.Common.{length, arith}
use Rattle.spi_rules.specs.Fours.{short_word, long_word}
use Rattle.spi_rules.proofs.Fours.{short_is, long_is, spelled_so}
use Rattle.spi_rules.proofs.told.told.Goals as goal

pub returns-then-count-le8 : goal.returns-then-count-le8
returns-then-count-le8 c =
    let name = c.args.name.now in
    let first = c.four-first.result in
    let last = c.four-last.result in
    spelled_so c.told_of_short.result (short_word (length name) first last) name
    (short_is name first last (omega (arith, c.if-count-lt4.false)) (omega (arith, c.if-count-le8.true)) c.four-first.ensures c.four-last.ensures)
    c.told_of_short.ensures

pub returns : goal.returns
returns c =
    let name = c.args.name.now in
    let first = c.four-first.result in
    let last = c.four-last.result in
    spelled_so c.told_of_long.result (long_word (length name) first c.four.result last) name
    (long_is name first c.four.result last (omega (arith, c.if-count-le8.false)) (omega (arith, c.if-count-gt12.false)) c.four-first.ensures
    c.four.ensures c.four-last.ensures) c.told_of_long.ensures
