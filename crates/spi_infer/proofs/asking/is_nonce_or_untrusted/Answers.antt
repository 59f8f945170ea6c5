use Rattle.std.proofs.Common.{◌||◌, sym, ap, ◌∙◌}
use Rattle.spi_term.specs.Term.{un}
use Rattle.spi_term.specs.View.{message}
use Rattle.spi_term.proofs.Choices.{if_ok}
use Rattle.spi_message.specs.Tests.{typed}
use Rattle.spi_message.specs.Forms.{is_nonce}
use Rattle.spi_message.specs.Tested.{IsNoNonce}
use Rattle.spi_infer.proofs.Queues.{none_of}
use Rattle.spi_infer.proofs.asking.is_nonce_or_untrusted.Goals as goal

pub returns-in-None-clause-answer : goal.returns-in-None-clause-answer
returns-in-None-clause-answer c =
    let n = message c.args.nonce.now in
    let none = none_of c.nonce_at.result (IsNoNonce c.args.judge.now n) c.in-None.is c.nonce_at.ensures.none in
    if_ok c.is_typed.result (λ b f. record { at = λ e s. (f n un c.requires.other c.requires.un).at e s ∙ ap (λ o. is_nonce o || typed n e un) (sym (none.at e s)) }) c.is_typed.ensures.answer
