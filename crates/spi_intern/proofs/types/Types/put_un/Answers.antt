use Rattle.spi_intern.specs.Kinds.{un}
use Rattle.spi_intern.proofs.Tables.{is_there}
use Rattle.spi_intern.proofs.TyLaws.{kind_laws}
use Rattle.spi_intern.proofs.types.Types.put_un.Goals as goal

pub returns-in-Some-clause-grows : goal.returns-in-Some-clause-grows
returns-in-Some-clause-grows c = is_there kind_laws c.args.self.now c.in-Some.id.place un c.in-Some.ensures.some
