use Rattle.std.proofs.Common.{rules, ◌≡◌, map, ap, ◌∙◌}
use Rattle.spi_tree.specs.Trees.{msgs_of_list}
use Rattle.spi_tree.specs.Views.{msg_of}
use Rattle.spi_tree.specs.declared.tree.SMsg.TheVariants.{Tuple}
use Rattle.spi_tree.proofs.Rows.{tuple_is}
use Rattle.spi_term.specs.View.{message}
use Rattle.spi_scope.proofs.Tuples.{message_tuple}
use Rattle.spi_scope.proofs.messages.+messages.Goals as goal

pub read_tuple-returns-in_err-rest-in-Tuple : goal.read_tuple-returns-in_err-rest-in-Tuple
read_tuple-returns-in_err-rest-in-Tuple t c =
    let w = c.in-Tuple in
    let e : c.args.m.now ≡ Tuple w.parts w.span = w.is in
    rw (ap msg_of e ∙ tuple_is w.parts w.span) (search rules)

pub read_tuple-returns : goal.read_tuple-returns
read_tuple-returns t c =
    let w = c.in-Tuple in
    let e : c.args.m.now ≡ Tuple w.parts w.span = w.is in
    let xs = c.args.scope.now.held.names in
    let k = c.args.scope.now.count in
    let f = c.in_ok-first-in-Tuple in
    let g = c.in_ok-next-in-Tuple in
    let h = c.in_ok-rest-in-Tuple in
    rw (ap msg_of e ∙ tuple_is w.parts w.span)
    (message_tuple c.args.base c.args.spent k xs w.span (msg_of w.parts.now.first) (msg_of w.parts.now.second) (msgs_of_list (map msg_of w.parts.now.more.now)) c.saturating_add.result f.total g.total h.total
    (message f.first) (message g.next) (message h.rest) (message c.in_ok-whole-in-Tuple.whole)
    f.ensures c.saturating_add.ensures g.ensures h.ensures c.in_ok-whole-in-Tuple.ensures)
