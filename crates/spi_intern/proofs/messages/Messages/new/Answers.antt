use Rattle.std.proofs.Common.{subst, sym}
use Rattle.spi_intern.specs.Table.{told_each, IsTable}
use Rattle.spi_intern.specs.Messages.{Says, said}
use Rattle.spi_intern.proofs.MessageLaws.{no_messages}
use Rattle.spi_intern.proofs.messages.Messages.new.Goals as goal

pub invariant_of-result : goal.invariant_of-result
invariant_of-result c = let e = c.new.ensures.empty in subst (λ xs. IsTable Says xs (told_each said xs)) (sym e) no_messages
