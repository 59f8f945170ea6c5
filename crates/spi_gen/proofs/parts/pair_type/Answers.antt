use Rattle.std.proofs.Common.{rules, ◌∙◌}
use Rattle.spi_tree.proofs.Rows.{tuple_ty_made}
use Rattle.spi_gen.proofs.parts.pair_type.Goals as goal

pub returns : goal.returns
returns c =
    tuple_ty_made c.in_ok-placed.field-0 (record { from = 0; to = 0 }) _ _ _ _ c.in_ok-placed.ensures ∙ search rules
