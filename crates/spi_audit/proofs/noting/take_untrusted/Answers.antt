use Rattle.spi_term.specs.Term.{un}
use Rattle.spi_term.specs.View.{message}
use Rattle.spi_intern.proofs.Meanings.{means_keeps}
use Rattle.spi_message.proofs.Tested.{kept_more}
use Rattle.spi_audit.proofs.MessageTaken.{is_untrusted, is_not_untrusted, key_taken}
use Rattle.spi_audit.proofs.noting.take_untrusted.Goals as goal

pub has_type-requires-clause-ty : goal.has_type-requires-clause-ty
has_type-requires-clause-ty c = record { type = un; means = means_keeps c.in_ok-id.ensures.kept.store c.in_ok-un.ensures.at }

pub returns-in_ok-keep-clause-taken : goal.returns-in_ok-keep-clause-taken
returns-in_ok-keep-clause-taken c =
    let kept = kept_more c.in_ok-un.ensures.kept c.in_ok-id.ensures.kept in (
      key_taken c.args.judge.now c.message.new.self c.has_type.new.self kept c.in_ok-has_type.ensures.kept c.args.keys.now c.keep.new.self (message c.args.m.now) c.in_ok-id.id.place c.in_ok-id.ensures.at c.in_ok-keep.ensures.small c.in_ok-keep.ensures.kept,
      is_untrusted c.args.judge.now c.message.new.self kept (message c.args.m.now) c.in_ok-id.id.place c.in_ok-id.ensures.at c.in_ok-has_type.field-0 c.in_ok-un.un.place (means_keeps c.in_ok-id.ensures.kept.store c.in_ok-un.ensures.at) c.in_ok-has_type.ensures.answer c.if-branch.true,
    )

pub returns-else-branch-clause-taken : goal.returns-else-branch-clause-taken
returns-else-branch-clause-taken c =
    is_not_untrusted c.args.judge.now c.message.new.self (kept_more c.in_ok-un.ensures.kept c.in_ok-id.ensures.kept) (message c.args.m.now) c.in_ok-id.id.place c.in_ok-id.ensures.at c.in_ok-has_type.field-0 c.in_ok-un.un.place (means_keeps c.in_ok-id.ensures.kept.store c.in_ok-un.ensures.at) c.in_ok-has_type.ensures.answer c.if-branch.false
