use Rattle.spi_audit.proofs.Parts.{given_there, means_there}
use Rattle.spi_audit.proofs.messages.is_untrusted.Goals as goal

pub is_un_type-requires : goal.is_un_type-requires
is_un_type-requires c = given_there c.store.ensures c.requires

pub returns : goal.returns
returns c u m = c.is_un_type.ensures u (means_there c.store.ensures m)
