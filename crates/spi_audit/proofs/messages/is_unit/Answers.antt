use Rattle.spi_audit.proofs.Parts.{given_there, means_there}
use Rattle.spi_audit.proofs.messages.is_unit.Goals as goal

pub is_unit_type-requires : goal.is_unit_type-requires
is_unit_type-requires c = given_there c.store.ensures c.requires

pub returns : goal.returns
returns c u m = c.is_unit_type.ensures u (means_there c.store.ensures m)
