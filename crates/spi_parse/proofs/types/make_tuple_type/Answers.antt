use Rattle.spi_tree.proofs.Rows.{tuple_ty_made}
use Rattle.spi_parse.proofs.types.make_tuple_type.Goals as goal

pub returns : goal.returns
returns c = tuple_ty_made c.in_ok-placed.field-0 c.args.span c.args.name c.args.first c.args.more c.args.last c.in_ok-placed.ensures
