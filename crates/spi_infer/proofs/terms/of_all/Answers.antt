use Rattle.spi_term.specs.Term.{un}
use Rattle.spi_term.specs.View.{message, ty}
use Rattle.spi_message.proofs.Tested.{kept_more, message_kept, type_kept}
use Rattle.spi_infer.proofs.terms.of_all.Goals as goal

pub returns-clause-each : goal.returns-clause-each
returns-clause-each c =
    record {
      un = type_kept {j = c.un.new.self} {k = c.ty-2.new.self} c.in_ok-un.un.place un (kept_more c.in_ok-message.ensures.kept (kept_more c.in_ok-other.ensures.kept (kept_more c.in_ok-ty.ensures.kept c.in_ok-second.ensures.kept))) c.in_ok-un.ensures.at;
      message = message_kept {j = c.message.new.self} {k = c.ty-2.new.self} c.in_ok-message.message.place (message c.args.m.now) (kept_more c.in_ok-other.ensures.kept (kept_more c.in_ok-ty.ensures.kept c.in_ok-second.ensures.kept)) c.in_ok-message.ensures.at;
      other = message_kept {j = c.message-2.new.self} {k = c.ty-2.new.self} c.in_ok-other.other.place (message c.args.n.now) (kept_more c.in_ok-ty.ensures.kept c.in_ok-second.ensures.kept) c.in_ok-other.ensures.at;
      ty = type_kept {j = c.ty.new.self} {k = c.ty-2.new.self} c.in_ok-ty.ty.place (ty c.args.t.now) c.in_ok-second.ensures.kept c.in_ok-ty.ensures.at;
      second = c.in_ok-second.ensures.at;
    }
