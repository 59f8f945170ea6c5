use Rattle.spi_term.specs.View.{message}
use Rattle.spi_audit.proofs.MessageTaken.{is_label, is_no_label, key_taken}
use Rattle.spi_audit.proofs.noting.take_label.Goals as goal

pub returns-in_ok-keep-clause-taken : goal.returns-in_ok-keep-clause-taken
returns-in_ok-keep-clause-taken c = (
  key_taken c.args.judge.now c.message.new.self c.is_label.new.self c.in_ok-id.ensures.kept c.in_ok-is_label.ensures.kept c.args.keys.now c.keep.new.self (message c.args.m.now) c.in_ok-id.id.place c.in_ok-id.ensures.at c.in_ok-keep.ensures.small c.in_ok-keep.ensures.kept,
  is_label c.args.judge.now c.message.new.self c.in_ok-id.ensures.kept (message c.args.m.now) c.in_ok-id.id.place c.in_ok-id.ensures.at c.in_ok-is_label.field-0 c.in_ok-is_label.ensures.answer c.if-branch.true,
)

pub returns-else-branch-clause-taken : goal.returns-else-branch-clause-taken
returns-else-branch-clause-taken c = is_no_label c.args.judge.now c.message.new.self c.in_ok-id.ensures.kept (message c.args.m.now) c.in_ok-id.id.place c.in_ok-id.ensures.at c.in_ok-is_label.field-0 c.in_ok-is_label.ensures.answer c.if-branch.false
