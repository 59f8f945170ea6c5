use Rattle.std.proofs.Common.{◌∙◌, ap}
use Rattle.spi_tree.specs.Trees.{tuple, msgs_of_list}
use Rattle.std.proofs.Common.{map}
use Rattle.spi_tree.specs.Views.{msg_of}
use Rattle.spi_tree.proofs.Rows.{tuple_is}
use Rattle.spi_parse.proofs.messages.make_tuple.Goals as goal

pub returns : goal.returns
returns c =
    tuple_is c.in_ok-placed.field-0 c.args.span
    ∙ ap (λ p. tuple c.args.span (msg_of p.first) (msg_of p.second) (msgs_of_list (map msg_of p.more.now))) c.in_ok-placed.ensures
