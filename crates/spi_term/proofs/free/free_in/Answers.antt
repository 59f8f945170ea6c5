use Rattle.spi_term.specs.View.{message}
use Rattle.spi_term.proofs.Freeness.{is_free_told}
use Rattle.spi_term.proofs.free.free_in.Goals as goal

pub returns : goal.returns
returns c = is_free_told c.is_name_in.result c.args.name (message c.args.m.now) c.is_name_in.ensures
