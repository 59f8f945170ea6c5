use Rattle.std.proofs.Common.{arith, ◌≡◌, ap, ◌∙◌, map}
use Rattle.spi_tree.specs.Trees.{msgs_of_list}
use Rattle.spi_tree.specs.Views.{msg_of}
use Rattle.spi_tree.specs.declared.tree.SMsg.TheVariants.{Tuple}
use Rattle.spi_tree.proofs.Rows.{tuple_is}
use Rattle.spi_term.specs.Spelling.{stopped}
use Rattle.spi_workbench.specs.Sizes.{msg_size, msgs_size}
use Rattle.spi_workbench.proofs.sizes.+messages.Goals as goal

pub message_nodes-returns-in-Tuple : goal.message_nodes-returns-in-Tuple
message_nodes-returns-in-Tuple t c =
    let w = c.in-Tuple in
    let e : c.args.m.now ≡ Tuple w.parts w.span = w.is in
    let a : c.message_nodes-in-Tuple.result ≡ stopped (msg_size (msg_of w.parts.now.first)) = c.message_nodes-in-Tuple.ensures in
    let b : c.message_nodes.result ≡ stopped (msg_size (msg_of w.parts.now.second)) = c.message_nodes.ensures in
    let r : c.messages_nodes.result ≡ stopped (msgs_size (msgs_of_list (map msg_of w.parts.now.more.now))) = c.messages_nodes.ensures in
    rw (ap msg_of e ∙ tuple_is w.parts w.span) (omega (arith, a, b, r, c.saturating_add-rest.ensures, c.one_over.ensures))
