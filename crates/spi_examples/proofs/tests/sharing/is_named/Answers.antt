use Rattle.spi_term.specs.Term as Term
use Rattle.spi_intern.specs.Messages.{says_name}
use Rattle.spi_examples.proofs.tests.sharing.is_named.Goals as goal

pub message_over-requires : goal.message_over-requires
message_over-requires c = record { message = Term.name 0; says = says_name }
