use Rattle.std.proofs.Common.{arith, ◌∙◌}
use Rattle.spi_message.proofs.Cut.{cut_more, length_less, cut_done}
use Rattle.spi_message.proofs.cutting.cut_to.Goals as goal

pub unbind-requires : goal.unbind-requires
unbind-requires c = omega (arith, c.loop-judge.invariant.free, c.loop-judge-test.true, c.len.ensures, c.requires)

pub loop-judge-preserved : goal.loop-judge-preserved
loop-judge-preserved c = record {
  free = c.unbind.ensures.free ∙ c.loop-judge.invariant.free;
  store = c.unbind.ensures.store ∙ c.loop-judge.invariant.store;
  types = cut_more c.loop-judge.judge.types c.unbind.new.self.types c.unbind.ensures.types.0 c.args.count c.unbind.ensures.types.1 (omega (arith, c.loop-judge-test.true, c.len.ensures)) ∙ c.loop-judge.invariant.types;
}

pub loop-judge-smaller : goal.loop-judge-smaller
loop-judge-smaller c = length_less c.loop-judge.judge.types c.unbind.new.self.types c.unbind.ensures.types.0 c.unbind.ensures.types.1

pub returns-clause-types : goal.returns-clause-types
returns-clause-types c =
    cut_done c.loop-judge.judge.types c.args.count (omega (arith, c.loop-judge-test.false, c.len.ensures)) ∙ c.loop-judge.invariant.types
