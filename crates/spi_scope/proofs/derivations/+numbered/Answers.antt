use Rattle.std.proofs.Common.{◌≡◌, map, ap, ◌∙◌}
use Rattle.spi_tree.specs.Trees.{msgs_of_list}
use Rattle.spi_tree.specs.Views.{msg_of}
use Rattle.spi_tree.specs.declared.tree.SMsg.TheVariants.{Tuple}
use Rattle.spi_tree.proofs.Rows.{tuple_is}
use Rattle.spi_term.specs.View.{message}
use Rattle.spi_scope.proofs.Numbered.{tuple_total, tuple_read}
use Rattle.spi_scope.proofs.derivations.+numbered.Goals as goal

pub read_numbered-returns-in_ok-whole-in-Tuple : goal.read_numbered-returns-in_ok-whole-in-Tuple
read_numbered-returns-in_ok-whole-in-Tuple t c =
    let w = c.in-Tuple in
    let e : c.args.m.now ≡ Tuple w.parts w.span = w.is in
    let f = c.in_ok-first-in-Tuple in
    let g = c.in_ok-second-in-Tuple in
    let h = c.in_ok-more-in-Tuple in
    record {
      counted = rw (ap msg_of e ∙ tuple_is w.parts w.span)
          (tuple_total c.args.spent c.saturating_add-in-Tuple.result f.total g.total h.total w.span (msg_of w.parts.now.first) (msg_of w.parts.now.second) (msgs_of_list (map msg_of w.parts.now.more.now)) f.ensures.counted c.saturating_add-in-Tuple.ensures g.ensures.counted h.ensures.counted);
      read = rw (ap msg_of e ∙ tuple_is w.parts w.span)
          (tuple_read c.args.spent c.saturating_add-in-Tuple.result f.total g.total h.total w.span (msg_of w.parts.now.first) (msg_of w.parts.now.second) (msgs_of_list (map msg_of w.parts.now.more.now)) f.ensures.counted c.saturating_add-in-Tuple.ensures g.ensures.counted h.ensures.counted
          (message f.first) (message g.second) (map message h.more.items) (message c.in_ok-whole-in-Tuple.whole) f.ensures.read g.ensures.read h.ensures.read c.in_ok-whole-in-Tuple.ensures);
    }
