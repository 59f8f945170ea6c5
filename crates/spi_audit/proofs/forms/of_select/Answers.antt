use Rattle.spi_term.specs.View.{message, ty}
use Rattle.spi_term.specs.Term.{Selects}
use Rattle.spi_rules.specs.declared.rule.Rule.TheVariants.{ProcMatch, ProcMatchUn}
use Rattle.spi_audit.proofs.FormRules.{select_other}
use Rattle.spi_audit.proofs.FormUses.{prefix_arm}
use Rattle.spi_audit.proofs.forms.of_select.Goals as goal

pub returns-in-ProcMatch-clause-answer : goal.returns-in-ProcMatch-clause-answer
returns-in-ProcMatch-clause-answer c = prefix_arm c.args.judge.now c.select_typed.new.judge c.args.rule ProcMatch c.in-ProcMatch.is (Selects (message c.args.whole.now) (ty c.args.first.now) (message c.args.equal.now) (ty c.args.second.now)) c.args.body c.select_typed.result c.select_typed.ensures.answer

pub returns-in-ProcMatchUn-clause-answer : goal.returns-in-ProcMatchUn-clause-answer
returns-in-ProcMatchUn-clause-answer c = prefix_arm c.args.judge.now c.select_untrusted.new.judge c.args.rule ProcMatchUn c.in-ProcMatchUn.is (Selects (message c.args.whole.now) (ty c.args.first.now) (message c.args.equal.now) (ty c.args.second.now)) c.args.body c.select_untrusted.result c.select_untrusted.ensures.answer

pub returns-in_default-clause-answer : goal.returns-in_default-clause-answer
returns-in_default-clause-answer c = select_other c.args.judge.now c.args.rule (message c.args.whole.now) (message c.args.equal.now) (ty c.args.first.now) (ty c.args.second.now) c.args.body c.in_default.not-ProcMatch c.in_default.not-ProcMatchUn
