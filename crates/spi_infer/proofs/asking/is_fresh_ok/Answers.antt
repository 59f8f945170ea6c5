use Rattle.spi_term.proofs.Choices.{if_ok}
use Rattle.spi_term.specs.View.{ty}
use Rattle.spi_infer.proofs.Asked.{key_fresh}
use Rattle.spi_infer.proofs.asking.is_fresh_ok.Goals as goal

pub returns-in-Key-clause-answer : goal.returns-in-Key-clause-answer
returns-in-Key-clause-answer c =
    if_ok c.is_good.result (λ b f. key_fresh c.args.judge.now c.args.t.now c.in-Key.is (f (ty c.args.t.now) c.requires.ty)) c.is_good.ensures.answer
