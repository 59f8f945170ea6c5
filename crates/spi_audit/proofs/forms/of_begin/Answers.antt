use Rattle.spi_term.specs.View.{message}
use Rattle.spi_audit.proofs.FormRules.{begin_other}
use Rattle.spi_audit.proofs.FormUses.{begin_answers}
use Rattle.spi_audit.proofs.forms.of_begin.Goals as goal

pub returns-in-ProcBegin-clause-answer : goal.returns-in-ProcBegin-clause-answer
returns-in-ProcBegin-clause-answer c = begin_answers c.args.judge.now c.takes_label.new.judge c.args.rule (message c.args.label.now) c.args.body c.takes_label.result c.in-ProcBegin.is c.takes_label.ensures.answer

pub returns-in_default-clause-answer : goal.returns-in_default-clause-answer
returns-in_default-clause-answer c = begin_other c.args.judge.now c.args.rule (message c.args.label.now) c.args.body c.in_default.not-ProcBegin
