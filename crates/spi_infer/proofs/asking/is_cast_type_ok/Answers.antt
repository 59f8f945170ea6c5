use Rattle.spi_term.proofs.Choices.{if_ok}
use Rattle.spi_term.specs.View.{ty}
use Rattle.spi_infer.proofs.Asked.{nonce_cast}
use Rattle.spi_infer.proofs.asking.is_cast_type_ok.Goals as goal

pub returns-in-Nonce-clause-answer : goal.returns-in-Nonce-clause-answer
returns-in-Nonce-clause-answer c =
    if_ok c.is_good.result (λ b f. nonce_cast c.args.judge.now c.args.t.now c.in-Nonce.is (f (ty c.args.t.now) c.requires.ty)) c.is_good.ensures.answer
