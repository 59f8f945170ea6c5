use Rattle.spi_term.specs.View.{message}
use Rattle.spi_audit.proofs.FormRules.{end_many_other}
use Rattle.spi_audit.proofs.FormUses.{many_answers}
use Rattle.spi_audit.proofs.forms.of_end_many.Goals as goal

pub returns-in-ProcEndMany-clause-answer : goal.returns-in-ProcEndMany-clause-answer
returns-in-ProcEndMany-clause-answer c = many_answers c.args.judge.now c.takes_label.new.judge c.args.rule (message c.args.label.now) c.args.body c.takes_label.result c.in-ProcEndMany.is c.takes_label.ensures.answer

pub returns-in_default-clause-answer : goal.returns-in_default-clause-answer
returns-in_default-clause-answer c = end_many_other c.args.judge.now c.args.rule (message c.args.label.now) c.args.body c.in_default.not-ProcEndMany
