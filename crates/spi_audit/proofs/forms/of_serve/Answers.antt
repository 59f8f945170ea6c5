use Rattle.spi_term.specs.View.{message, ty}
use Rattle.spi_audit.proofs.FormRules.{serve_other}
use Rattle.spi_audit.proofs.FormUses.{serve_answers}
use Rattle.spi_audit.proofs.forms.of_serve.Goals as goal

pub returns-in-ProcRepeat-clause-answer : goal.returns-in-ProcRepeat-clause-answer
returns-in-ProcRepeat-clause-answer c = serve_answers c.args.judge.now c.takes_untrusted.new.judge c.args.rule (message c.args.m.now) (ty c.args.ty.now) c.args.body c.takes_untrusted.result c.in-ProcRepeat.is c.takes_untrusted.ensures.answer

pub returns-in_default-clause-answer : goal.returns-in_default-clause-answer
returns-in_default-clause-answer c = serve_other c.args.judge.now c.args.rule (message c.args.m.now) (ty c.args.ty.now) c.args.body c.in_default.not-ProcRepeat
