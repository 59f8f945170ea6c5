use Rattle.std.proofs.Common.{rules, ◌∙◌}
use Rattle.spi_tree.proofs.Rows.{tuple_is}
use Rattle.spi_gen.proofs.parts.tuple.Goals as goal

pub returns : goal.returns
returns c = tuple_is c.in_ok-placed.field-0 (record { from = 0; to = 0 }) ∙ search rules
