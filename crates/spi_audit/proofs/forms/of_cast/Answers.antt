use Rattle.spi_term.specs.View.{message, ty}
use Rattle.spi_term.specs.Term.{Casts}
use Rattle.spi_rules.specs.declared.rule.Rule.TheVariants.{ProcCast}
use Rattle.spi_audit.proofs.FormRules.{cast_other}
use Rattle.spi_audit.proofs.FormUses.{prefix_arm, cast_un_answers}
use Rattle.spi_audit.proofs.forms.of_cast.Goals as goal

pub returns-in-ProcCast-clause-answer : goal.returns-in-ProcCast-clause-answer
returns-in-ProcCast-clause-answer c = prefix_arm c.args.judge.now c.cast_typed.new.judge c.args.rule ProcCast c.in-ProcCast.is (Casts (message c.args.whole.now) (ty c.args.ty.now)) c.args.body c.cast_typed.result c.cast_typed.ensures.answer

pub returns-in-ProcCastUn-clause-answer : goal.returns-in-ProcCastUn-clause-answer
returns-in-ProcCastUn-clause-answer c = cast_un_answers c.args.judge.now c.takes_untrusted.new.judge c.args.rule (message c.args.whole.now) (ty c.args.ty.now) c.args.body c.takes_untrusted.result c.in-ProcCastUn.is c.takes_untrusted.ensures.answer

pub returns-in_default-clause-answer : goal.returns-in_default-clause-answer
returns-in_default-clause-answer c = cast_other c.args.judge.now c.args.rule (message c.args.whole.now) (ty c.args.ty.now) c.args.body c.in_default.not-ProcCast c.in_default.not-ProcCastUn
