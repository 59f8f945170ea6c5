use Rattle.std.proofs.Common.{refl}
use Rattle.spi_term.specs.View.{message}
use Rattle.spi_audit.proofs.FormPremises.{begins_later}
use Rattle.spi_message.proofs.Tested.{kept_same}
use Rattle.spi_audit.proofs.FormUses.{is_label, is_no_label}
use Rattle.spi_audit.proofs.forms.takes_label.Goals as goal

pub returns-else-branch-clause-answer : goal.returns-else-branch-clause-answer
returns-else-branch-clause-answer c = is_no_label (message c.args.m.now) c.in_ok-is_labelled.ensures.answer c.if-branch.false

pub returns-then-branch-clause-answer : goal.returns-then-branch-clause-answer
returns-then-branch-clause-answer c = (
  c.begun-next.result,
  refl,
  begins_later c.args.judge.now c.is_labelled.new.judge c.is_labelled.new.judge c.is_labelled.new.judge c.in_ok-is_labelled.ensures.kept (kept_same c.is_labelled.new.judge).store c.begun-next.ensures,
  is_label (message c.args.m.now) c.in_ok-is_labelled.ensures.answer c.if-branch.true,
)
