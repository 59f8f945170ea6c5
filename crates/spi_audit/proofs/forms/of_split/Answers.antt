use Rattle.spi_term.specs.View.{message, ty}
use Rattle.spi_term.specs.Term.{Splits}
use Rattle.spi_rules.specs.declared.rule.Rule.TheVariants.{ProcSplit, ProcSplitUn}
use Rattle.spi_audit.proofs.FormRules.{split_other}
use Rattle.spi_audit.proofs.FormUses.{prefix_arm}
use Rattle.spi_audit.proofs.forms.of_split.Goals as goal

pub returns-in-ProcSplit-clause-answer : goal.returns-in-ProcSplit-clause-answer
returns-in-ProcSplit-clause-answer c = prefix_arm c.args.judge.now c.split_typed.new.judge c.args.rule ProcSplit c.in-ProcSplit.is (Splits (message c.args.whole.now) (ty c.args.first.now) (ty c.args.second.now)) c.args.body c.split_typed.result c.split_typed.ensures.answer

pub returns-in-ProcSplitUn-clause-answer : goal.returns-in-ProcSplitUn-clause-answer
returns-in-ProcSplitUn-clause-answer c = prefix_arm c.args.judge.now c.split_untrusted.new.judge c.args.rule ProcSplitUn c.in-ProcSplitUn.is (Splits (message c.args.whole.now) (ty c.args.first.now) (ty c.args.second.now)) c.args.body c.split_untrusted.result c.split_untrusted.ensures.answer

pub returns-in_default-clause-answer : goal.returns-in_default-clause-answer
returns-in_default-clause-answer c = split_other c.args.judge.now c.args.rule (message c.args.whole.now) (ty c.args.first.now) (ty c.args.second.now) c.args.body c.in_default.not-ProcSplit c.in_default.not-ProcSplitUn
