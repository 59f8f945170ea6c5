use Rattle.std.proofs.Common.{◌&&◌, ◌||◌}
use Rattle.spi_term.specs.Term.{key, un}
use Rattle.spi_term.specs.View.{ty}
use Rattle.spi_term.proofs.Choices.{if_ok}
use Rattle.spi_message.specs.Tests.{is_un, typed, good}
use Rattle.spi_message.proofs.Tested.{message_kept, type_kept}
use Rattle.spi_infer.proofs.Asked.{message_later, both_hold, one_fails}
use Rattle.spi_infer.proofs.asking.is_decrypt_ok.Goals as goal

pub is_key_ok-requires-clause-un : goal.is_key_ok-requires-clause-un
is_key_ok-requires-clause-un c = type_kept {j = c.args.judge.now} {k = c.is_typed.new.judge} c.args.terms.un.place un c.in_ok-whole.ensures.kept c.requires.un

pub is_key_ok-requires-clause-other : goal.is_key_ok-requires-clause-other
is_key_ok-requires-clause-other c = message_later {j = c.args.judge.now} {k = c.is_typed.new.judge} c.args.terms.other c.in_ok-whole.ensures.kept c.requires.other

pub is_key_ok-requires-clause-ty : goal.is_key_ok-requires-clause-ty
is_key_ok-requires-clause-ty c = type_kept {j = c.args.judge.now} {k = c.is_typed.new.judge} c.args.terms.ty.place (ty c.args.t.now) c.in_ok-whole.ensures.kept c.requires.ty

pub returns-then-whole-clause-answer : goal.returns-then-whole-clause-answer
returns-then-whole-clause-answer c =
    let k = c.in_ok-whole.ensures.kept in
    let t = ty c.args.t.now in
    if_ok c.is_key_ok.result (λ b f m n a d. both_hold {j = c.args.judge.now} {k = c.is_typed.new.judge} (λ e. typed m e un) (λ e. (typed n e (key t) && good e t) || (typed n e un && is_un t)) (c.in_ok-whole.ensures.answer m un a c.requires.un) c.if-whole.true k (f n (message_kept {j = c.args.judge.now} {k = c.is_typed.new.judge} c.args.terms.other.place n k d))) c.is_key_ok.ensures.answer

pub returns-else-whole-clause-answer : goal.returns-else-whole-clause-answer
returns-else-whole-clause-answer c m n a d =
    let t = ty c.args.t.now in
    one_fails {j = c.args.judge.now} (λ e. typed m e un) (λ e. (typed n e (key t) && good e t) || (typed n e un && is_un t)) (c.in_ok-whole.ensures.answer m un a c.requires.un) c.if-whole.false
