use Rattle.std.proofs.Common.{refl, sym, ◌∙◌, subst}
use Rattle.spi_term.specs.Term.{un}
use Rattle.spi_term.specs.View.{ty}
use Rattle.spi_message.specs.Tested.{NumbersType}
use Rattle.spi_message.proofs.Deciding.{is_un_true}
use Rattle.spi_message.proofs.Tested.{kept_more, kept_same, type_kept}
use Rattle.spi_audit.proofs.FormPremises.{begins_later}
use Rattle.spi_audit.proofs.forms.takes_untrusted.Goals as goal

pub returns-else-is_un_type-clause-answer : goal.returns-else-is_un_type-clause-answer
returns-else-is_un_type-clause-answer c = sym c.is_un_type.ensures ∙ c.if-is_un_type.false

pub returns-in_ok-first-clause-answer : goal.returns-in_ok-first-clause-answer
returns-in_ok-first-clause-answer c =
    let t = ty c.args.ty.now in
    let k = c.asked_at.new.judge in
    let untrusted = sym c.is_un_type.ensures ∙ c.if-is_un_type.true in
    let kept = kept_more c.in_ok-un.ensures.kept c.in_ok-first.ensures.kept in (
      c.in_ok-first.first,
      c.begun_one_at-next.result,
      refl,
      c.in_ok-first.ensures.at un (subst (NumbersType c.ty.new.self c.in_ok-un.un) (is_un_true t untrusted) c.in_ok-un.ensures.at),
      begins_later c.args.judge.now k k k kept (kept_same k).store (c.begun_one_at-next.ensures t (type_kept c.in_ok-un.un.place t c.in_ok-first.ensures.kept c.in_ok-un.ensures.at)),
      untrusted,
    )
