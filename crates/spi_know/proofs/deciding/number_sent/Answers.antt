use Rattle.std.proofs.Common.{◌<◌, ap, ◌∙◌, slice_get, length, map, arith}
use Rattle.spi_term.specs.View.{message}
use Rattle.spi_know.proofs.Starting.{numbers_none, numbers_step, nodes_more, got_message}
use Rattle.spi_know.proofs.deciding.number_sent.Goals as goal

pub loop-m-init : goal.loop-m-init
loop-m-init c = record {
  numbers = numbers_none _ _ _ c.new-start.ensures.items;
  few = let l = ap length c.requires in omega (arith, l);
}

pub loop-m-preserved : goal.loop-m-preserved
loop-m-preserved c =
    let lt : c.loop-m.m-index < length c.args.sent.now = omega arith in
    let at = got_message c.args.sent.now c.loop-m.m-index c.m-item.result lt c.m-item.is in
    let more = nodes_more (map message c.args.sent.now) c.loop-m.m-index _ at in
    let few = c.loop-m.invariant.few in
    let new = c.in_ok-id.ensures.few in
    record {
      numbers = numbers_step _ _ _ _ _ _ _ _ c.in_ok-id.ensures.kept.messages c.in_ok-push.ensures.items
          (ap (slice_get c.message.new.self.messages) c.place.ensures ∙ c.in_ok-id.ensures.at) at c.loop-m.invariant.numbers;
      few = omega (arith, more, few, new);
    }
