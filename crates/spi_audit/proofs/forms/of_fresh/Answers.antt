use Rattle.spi_term.specs.View.{ty}
use Rattle.spi_term.specs.Term.{Freshes}
use Rattle.spi_rules.specs.declared.rule.Rule.TheVariants.{ProcNew}
use Rattle.spi_audit.proofs.FormRules.{fresh_other}
use Rattle.spi_audit.proofs.FormUses.{prefix_arm}
use Rattle.spi_audit.proofs.forms.of_fresh.Goals as goal

pub returns-in-ProcNew-clause-answer : goal.returns-in-ProcNew-clause-answer
returns-in-ProcNew-clause-answer c = prefix_arm c.args.judge.now c.fresh_good.new.judge c.args.rule ProcNew c.in-ProcNew.is (Freshes (ty c.args.ty.now)) c.args.body c.fresh_good.result c.fresh_good.ensures.answer

pub returns-in_default-clause-answer : goal.returns-in_default-clause-answer
returns-in_default-clause-answer c = fresh_other c.args.judge.now c.args.rule (ty c.args.ty.now) c.args.body c.in_default.not-ProcNew
