use Rattle.spi_term.specs.View.{message, ty}
use Rattle.spi_term.specs.Term.{Branches}
use Rattle.spi_rules.specs.declared.rule.Rule.TheVariants.{ProcCase, ProcCaseUn}
use Rattle.spi_audit.proofs.FormRules.{branch_other}
use Rattle.spi_audit.proofs.FormUses.{fork_arm}
use Rattle.spi_audit.proofs.forms.of_branch.Goals as goal

pub returns-in-ProcCase-clause-answer : goal.returns-in-ProcCase-clause-answer
returns-in-ProcCase-clause-answer c = fork_arm c.args.judge.now c.branch_typed.new.judge c.args.rule ProcCase c.in-ProcCase.is (Branches (message c.args.whole.now) (ty c.args.left.now) (ty c.args.right.now)) c.args.on_left c.args.on_right c.branch_typed.result c.branch_typed.ensures.answer

pub returns-in-ProcCaseUn-clause-answer : goal.returns-in-ProcCaseUn-clause-answer
returns-in-ProcCaseUn-clause-answer c = fork_arm c.args.judge.now c.branch_untrusted.new.judge c.args.rule ProcCaseUn c.in-ProcCaseUn.is (Branches (message c.args.whole.now) (ty c.args.left.now) (ty c.args.right.now)) c.args.on_left c.args.on_right c.branch_untrusted.result c.branch_untrusted.ensures.answer

pub returns-in_default-clause-answer : goal.returns-in_default-clause-answer
returns-in_default-clause-answer c = branch_other c.args.judge.now c.args.rule (message c.args.whole.now) (ty c.args.left.now) (ty c.args.right.now) c.args.on_left c.args.on_right c.in_default.not-ProcCase c.in_default.not-ProcCaseUn
