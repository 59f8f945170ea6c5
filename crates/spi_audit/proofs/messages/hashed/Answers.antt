use Rattle.spi_rules.specs.declared.rule.Rule.TheVariants.{MsgHash}
use Rattle.spi_intern.specs.declared.messages.MsgPart.TheVariants as P
use Rattle.spi_audit.proofs.Replies.{un_not}
use Rattle.spi_audit.proofs.MessageParts.{hash_fits, hash_not}
use Rattle.spi_audit.proofs.messages.hashed.Goals as goal

pub returns-then-not-is_untrusted-clause-answer : goal.returns-then-not-is_untrusted-clause-answer
returns-then-not-is_untrusted-clause-answer c = un_not c.args.judge.now c.args.t c.is_untrusted.result c.is_untrusted.ensures MsgHash (P.Hash c.args.a) tt c.if-not-is_untrusted.true

pub returns-then-branch-clause-answer : goal.returns-then-branch-clause-answer
returns-then-branch-clause-answer c =
    hash_fits c.args.judge.now c.args.t c.is_untrusted.result c.is_untrusted.ensures c.args.a c.is_label.new.self c.in_ok-is_label.field-0 c.in_ok-is_label.ensures.answer c.if-not-is_untrusted.false c.if-branch.true

pub returns-else-branch-clause-answer : goal.returns-else-branch-clause-answer
returns-else-branch-clause-answer c =
    hash_not c.args.judge.now c.args.t c.is_untrusted.result c.is_untrusted.ensures c.args.a c.is_label.new.self c.in_ok-is_label.field-0 c.in_ok-is_label.ensures.answer c.if-branch.false
