use Rattle.spi_message.proofs.FillsTypes.{key_ty_of}
use Rattle.spi_message.proofs.Questions.{no_key, key_for}
use Rattle.spi_message.proofs.heads.payload_of.Goals as goal

pub returns-in_default-clause-none : goal.returns-in_default-clause-none
returns-in_default-clause-none c = no_key c.ty_part.ensures c.in_default.not-Key

pub returns-in-Key-clause-some : goal.returns-in-Key-clause-some
returns-in-Key-clause-some c = key_for (key_ty_of c.in-Key.ensures c.requires)
