use Rattle.std.proofs.Common.{ap, sym, ◌∙◌}
use Rattle.spi_tree.specs.Views.{ty_of}
use Rattle.spi_tree.proofs.Rows.{tuple_ty_is}
use Rattle.spi_scope.specs.Points.{ty_span}
use Rattle.spi_scope.proofs.heads.type_place.Goals as goal

pub returns-in-Tuple : goal.returns-in-Tuple
returns-in-Tuple c = sym (ap (λ t. ty_span (ty_of t)) c.in-Tuple.is ∙ ap ty_span (tuple_ty_is c.in-Tuple.parts c.in-Tuple.span))
