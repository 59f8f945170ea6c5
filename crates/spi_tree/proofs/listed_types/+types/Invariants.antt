use Rattle.std.proofs.Common.{◌≡◌, ◌++◌, map, take}
use Rattle.spi_tree.specs.Views.{field_of}
use Rattle.spi_tree.specs.Listed.{joined, field_list}
use Rattle.spi_tree.proofs.listed_types.+types.Given as goal

abbrev pub invariant-put_fields-loop-field : goal.invariant-put_fields-loop-field
invariant-put_fields-loop-field l = l.out.items ≡ l.fn.out.items ++ joined field_list (map field_of (take l.field-index l.fields))
