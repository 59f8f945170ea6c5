use Rattle.spi_term.proofs.Choices.{on_ok}
use Rattle.spi_message.proofs.Typings.{fills_none}
use Rattle.spi_message.proofs.Comparing.{no_typing, name_compared}
use Rattle.spi_message.proofs.typing.wanted_type.Goals as goal

pub returns-then-is_empty-clause-at : goal.returns-then-is_empty-clause-at
returns-then-is_empty-clause-at c = fills_none c.args.store.now c.args.values.now 0 c.args.t c.if-is_empty.ensures

pub returns-then-is_empty-clause-adds : goal.returns-then-is_empty-clause-adds
returns-then-is_empty-clause-adds c env n = no_typing

pub returns-clause-adds : goal.returns-clause-adds
returns-clause-adds c = on_ok c.filled_type.result (λ h env n. name_compared c.filled_type.ensures.kept h) c.filled_type.ensures.adds
