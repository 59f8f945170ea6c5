use Rattle.spi_intern.proofs.Sized.{name_of}
use Rattle.spi_message.proofs.Plains.{told_name}
use Rattle.spi_message.proofs.telling.told_type.Goals as goal

pub returns-in-Name : goal.returns-in-Name
returns-in-Name c = told_name c.args.m (name_of _ _ c.in-Name.ensures c.requires.asked.0) c.is_name_of.ensures
