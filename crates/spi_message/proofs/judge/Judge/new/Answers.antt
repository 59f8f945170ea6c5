use Rattle.std.proofs.Common.{arith}
use Rattle.spi_message.proofs.Giving.{first_given}
use Rattle.spi_message.proofs.Judges.{free_none, free_next, free_all, free_judge, free_length}
use Rattle.spi_message.proofs.Kept.{answers_none}
use Rattle.spi_message.proofs.judge.Judge.new.Goals as goal

pub loop-name-init : goal.loop-name-init
loop-name-init c = free_none c.new-types.ensures.items

pub loop-name-preserved : goal.loop-name-preserved
loop-name-preserved c = free_next c.loop-name.name c.loop-name.invariant c.in_ok-un.ensures.at c.in_ok-push.ensures.items

pub invariant_of-result : goal.invariant_of-result
invariant_of-result c = record {
  judge = free_judge c.args.free c.requires (free_all c.loop-name.name c.args.free c.loop-name.invariant (omega (arith, c.loop-name-test.false, c.loop-name.auto.name-end)));
  answers = answers_none c.new.ensures;
}

pub returns-clause-names : goal.returns-clause-names
returns-clause-names c = free_all c.loop-name.name c.args.free c.loop-name.invariant (omega (arith, c.loop-name-test.false, c.loop-name.auto.name-end))

pub returns-clause-length : goal.returns-clause-length
returns-clause-length c = free_length c.args.free (free_all c.loop-name.name c.args.free c.loop-name.invariant (omega (arith, c.loop-name-test.false, c.loop-name.auto.name-end)))

pub returns-clause-gave : goal.returns-clause-gave
returns-clause-gave c = first_given c.new-store.ensures.messages c.new-store.ensures.types c.in_ok-un.ensures.kept c.in_ok-un.ensures.adds
