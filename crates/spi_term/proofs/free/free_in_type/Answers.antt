use Rattle.spi_term.specs.View.{ty}
use Rattle.spi_term.proofs.Freeness.{is_free_ty_told}
use Rattle.spi_term.proofs.free.free_in_type.Goals as goal

pub returns : goal.returns
returns c = is_free_ty_told c.is_name_in_type.result c.args.name (ty c.args.t.now) c.is_name_in_type.ensures
