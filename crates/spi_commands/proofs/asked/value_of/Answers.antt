use Rattle.std.proofs.Common.{arith, inl, inr, ◌<◌}
use Rattle.spi_commands.proofs.WordsDigits.{tens_within, tens_more, digit_at, no_digit_at, all_digits}
use Rattle.spi_commands.proofs.asked.value_of.Goals as goal
use Rattle.spi_commands.proofs.asked.value_of.Goals.{then-b-lt48-via-then-b-lt48, then-b-lt48-via-else-b-lt48+then-b-gt57}

pub overflow_add-n : goal.overflow_add-n
overflow_add-n c =
    let few : c.loop-b.b-index < 9 = omega (arith, c.requires, c.loop-b-test.true) in
    let most = tens_within c.loop-b.b-index few in
    omega (arith, most, c.loop-b.invariant.small, c.from.ensures, c.if-b-gt57.false)

pub returns-then-b-lt48 : goal.returns-then-b-lt48
returns-then-b-lt48 c =
    no_digit_at c.args.text.now c.loop-b.n c.loop-b.b-index c.loop-b-test.true
    (elim c.then-b-lt48.branch [
      | then-b-lt48-via-then-b-lt48 w ↦ inl (omega (arith, w.if-b-lt48.true))
      | then-b-lt48-via-else-b-lt48+then-b-gt57 w ↦ inr (omega (arith, w.if-b-gt57.true))
    ]) c.loop-b.invariant.value

pub loop-b-preserved : goal.loop-b-preserved
loop-b-preserved c = record {
  value = digit_at c.args.text.now c.loop-b.n c.loop-b.b-index c.from.result c.loop-b-test.true c.if-b-lt48.false c.if-b-gt57.false c.from.ensures c.loop-b.invariant.value;
  small = tens_more c.loop-b.n c.loop-b.b-index c.from.result c.loop-b.invariant.small (omega (arith, c.from.ensures, c.if-b-gt57.false));
}

pub returns : goal.returns
returns c = all_digits c.args.text.now c.loop-b.n c.loop-b.b-index (omega (arith, c.loop-b-test.false)) c.loop-b.invariant.value
