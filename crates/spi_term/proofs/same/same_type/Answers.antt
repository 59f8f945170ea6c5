use Rattle.spi_term.specs.View.{ty}
use Rattle.spi_term.proofs.Counting.{is_same_ty}
use Rattle.spi_term.proofs.same.same_type.Goals as goal

pub returns : goal.returns
returns c = is_same_ty c.is_same_type.result (ty c.args.a.now) (ty c.args.b.now) c.is_same_type.ensures
