use Rattle.spi_term.specs.View.{message, ty}
use Rattle.spi_audit.proofs.FormRules.{recv_other}
use Rattle.spi_audit.proofs.FormUses.{recv_answers}
use Rattle.spi_audit.proofs.forms.of_recv.Goals as goal

pub returns-in-ProcIn-clause-answer : goal.returns-in-ProcIn-clause-answer
returns-in-ProcIn-clause-answer c = recv_answers c.args.judge.now c.takes_untrusted.new.judge c.args.rule (message c.args.m.now) (ty c.args.ty.now) c.args.body c.takes_untrusted.result c.in-ProcIn.is c.takes_untrusted.ensures.answer

pub returns-in_default-clause-answer : goal.returns-in_default-clause-answer
returns-in_default-clause-answer c = recv_other c.args.judge.now c.args.rule (message c.args.m.now) (ty c.args.ty.now) c.args.body c.in_default.not-ProcIn
