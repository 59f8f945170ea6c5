use Rattle.spi_term.specs.View.{message}
use Rattle.spi_term.specs.Term.{Checks}
use Rattle.spi_rules.specs.declared.rule.Rule.TheVariants.{ProcCheck, ProcCheckUn}
use Rattle.spi_audit.proofs.FormRules.{check_other}
use Rattle.spi_audit.proofs.FormUses.{prefix_arm}
use Rattle.spi_audit.proofs.forms.of_check.Goals as goal

pub returns-in-ProcCheck-clause-answer : goal.returns-in-ProcCheck-clause-answer
returns-in-ProcCheck-clause-answer c = prefix_arm c.args.judge.now c.check_typed.new.judge c.args.rule ProcCheck c.in-ProcCheck.is (Checks (message c.args.whole.now) (message c.args.nonce.now)) c.args.body c.check_typed.result c.check_typed.ensures.answer

pub returns-in-ProcCheckUn-clause-answer : goal.returns-in-ProcCheckUn-clause-answer
returns-in-ProcCheckUn-clause-answer c = prefix_arm c.args.judge.now c.check_untrusted.new.judge c.args.rule ProcCheckUn c.in-ProcCheckUn.is (Checks (message c.args.whole.now) (message c.args.nonce.now)) c.args.body c.check_untrusted.result c.check_untrusted.ensures.answer

pub returns-in_default-clause-answer : goal.returns-in_default-clause-answer
returns-in_default-clause-answer c = check_other c.args.judge.now c.args.rule (message c.args.whole.now) (message c.args.nonce.now) c.args.body c.in_default.not-ProcCheck c.in_default.not-ProcCheckUn
