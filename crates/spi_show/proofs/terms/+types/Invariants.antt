use Rattle.std.proofs.Common.{◌+◌, ◌*◌}
use Rattle.spi_term.specs.Spelling.{ty_nodes}
use Rattle.spi_term.specs.View.{ty as type_of}
use Rattle.spi_show.proofs.terms.+types.Given as goal

abbrev pub decreases-put_type : goal.decreases-put_type
decreases-put_type l = 2 * ty_nodes (type_of l.t.now)

abbrev pub decreases-put_tuple_type : goal.decreases-put_tuple_type
decreases-put_tuple_type l = 2 * ty_nodes (type_of l.t.now) + 1

abbrev pub decreases-put_typed : goal.decreases-put_typed
decreases-put_typed l = 2 * ty_nodes (type_of l.t.now) + 1

abbrev pub decreases-put_sum : goal.decreases-put_sum
decreases-put_sum l = 2 * (ty_nodes (type_of l.left.now) + ty_nodes (type_of l.right.now)) + 1

abbrev pub decreases-put_key : goal.decreases-put_key
decreases-put_key l = 2 * ty_nodes (type_of l.payload.now) + 1
