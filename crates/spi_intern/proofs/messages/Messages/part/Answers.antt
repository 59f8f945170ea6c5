use Rattle.spi_term.specs.Term.{same_message}
use Rattle.spi_intern.specs.Messages.{Says, said}
use Rattle.spi_intern.proofs.Tables.{says_some, says_none}
use Rattle.spi_intern.proofs.MessageLaws.{part_laws, part_eq}
use Rattle.spi_intern.proofs.messages.Messages.part.Goals as goal

pub returns-in-Some : goal.returns-in-Some
returns-in-Some c n at = says_some Says said same_message part_eq part_laws _ _ c.self.view_is c.self.invariant _ _ n c.in-Some.ensures.key at

pub returns-in-None : goal.returns-in-None
returns-in-None c n at = absurd (says_none Says said same_message part_eq part_laws _ _ c.self.view_is c.self.invariant _ n c.in-None.ensures.key at)
