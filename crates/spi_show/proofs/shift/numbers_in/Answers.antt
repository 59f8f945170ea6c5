use Rattle.std.proofs.Common.{subst}
use Rattle.spi_show.specs.Shifts.{IsNumber}
use Rattle.spi_show.proofs.Shifts.{numbers_next}
use Rattle.spi_show.proofs.shift.numbers_in.Goals as goal

pub loop-word-preserved : goal.loop-word-preserved
loop-word-preserved c =
    numbers_next c.args.prefix.now c.args.words.now c.loop-word.word-index c.loop-word.numbers.items c.keep.new.numbers.items c.word-item.result c.in_ok-number.number c.loop-word.invariant c.word-item.is c.loop-word-test.true (subst (λ w. IsNumber c.args.prefix.now w c.in_ok-number.number) c.as_str.ensures c.in_ok-number.ensures) c.in_ok-keep.ensures
