use Rattle.spi_term.specs.Term.{un}
use Rattle.spi_term.proofs.Choices.{if_ok}
use Rattle.spi_message.specs.Tests.{typed}
use Rattle.spi_infer.proofs.Asked.{is_type, tested_where}
use Rattle.spi_infer.proofs.asking.is_input_ok.Goals as goal

pub is_typed_where-requires-clause-ty : goal.is_typed_where-requires-clause-ty
is_typed_where-requires-clause-ty c = is_type c.args.judge.now c.requires.un

pub returns-clause-answer : goal.returns-clause-answer
returns-clause-answer c =
    if_ok c.is_typed_where.result (λ b f m a. tested_where {j = c.args.judge.now} (λ e. typed m e un) c.is_un_type-untrusted.ensures (f m un a c.requires.un)) c.is_typed_where.ensures.answer
