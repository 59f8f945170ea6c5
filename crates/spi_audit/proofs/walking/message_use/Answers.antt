use Rattle.std.proofs.Common.{ap, subst, Option}
use Rattle.spi_rules.specs.Deriv.{rule_use, effect_written}
use Rattle.spi_audit.specs.Asked.{AnswersMessage}
use Rattle.spi_audit.specs.declared.asked.Premises.{Premises}
use Rattle.spi_audit.proofs.WalkUses.{message_written, message_misfits, message_fits}
use Rattle.spi_audit.proofs.walking.message_use.Goals as goal

pub returns-in-Some-clause-answer : goal.returns-in-Some-clause-answer
returns-in-Some-clause-answer c = message_written c.args.judge.now c.args.judge.now (rule_use c.args.u.now) c.args.m c.args.t (ap effect_written c.in-Some.is)

pub returns-in-Some-2-clause-answer : goal.returns-in-Some-2-clause-answer
returns-in-Some-2-clause-answer c =
    message_fits c.args.judge.now c.message_premises.new.judge (rule_use c.args.u.now) c.args.m c.args.t c.in-Some-2.premises (ap effect_written c.in-None.is)
    (subst (λ (o : Option Premises). AnswersMessage c.args.judge.now c.message_premises.new.judge c.args.u.now.rule c.args.m c.args.t o) c.in-Some-2.is c.in_ok-premises-in-None.ensures.answer)

pub returns-in-None-2-clause-answer : goal.returns-in-None-2-clause-answer
returns-in-None-2-clause-answer c =
    message_misfits c.args.judge.now c.message_premises.new.judge (rule_use c.args.u.now) c.args.m c.args.t (ap effect_written c.in-None.is)
    (subst (λ (o : Option Premises). AnswersMessage c.args.judge.now c.message_premises.new.judge c.args.u.now.rule c.args.m c.args.t o) c.in-None-2.is c.in_ok-premises-in-None.ensures.answer)
