use Rattle.std.proofs.Common.{◌≡◌, ◌+◌, ◌++◌, ◌∙◌, sym, ap, subst, length, map, take, drop, arith}
use Rattle.std.proofs.lemmas.List.{length-map}
use Rattle.spi_run.specs.View.{event}
use Rattle.spi_trace.specs.Queue.{queue}
use Rattle.spi_trace.proofs.Paying.{as_many}
use Rattle.spi_trace.proofs.Running.{Running, run_none, run_more, run_all, as_many_numbers, number_below, whole_again}
use Rattle.spi_trace.proofs.Prefixes.{length_events}
use Rattle.spi_trace.proofs.pair.pair_up.Goals as goal

pub loop-place-init : goal.loop-place-init
loop-place-init c = record {
  size = as_many c.in_ok-queues.queues.items c.in_ok-labels.labels.bound c.in_ok-queues.ensures;
  running = run_none (map event c.args.events.now) c.in_ok-labels.labels.numbers.items c.in_ok-labels.labels.bound (map queue c.in_ok-queues.queues.items) c.new-from.result.items c.in_ok-queues.ensures c.new-from.ensures.items;
}

pub index-number-requires : goal.index-number-requires
index-number-requires c =
    let h = as_many_numbers c.args.events.now c.in_ok-labels.labels.numbers.items c.in_ok-labels.labels.bound c.in_ok-labels.ensures in
    let k = c.in_ok-labels.labels.numbers.ok in
    omega (arith, h)

pub pay-requires : goal.pay-requires
pay-requires c =
    let h = number_below c.args.events.now c.in_ok-labels.labels.numbers.items c.in_ok-labels.labels.bound c.loop-place.place c.index-number.result.now c.in_ok-labels.ensures c.loop-place-test.true c.index-number.ensures in
    omega (arith, h, ap length c.deref_mut.ensures.value, c.loop-place.invariant.size)

pub loop-place-preserved : goal.loop-place-preserved
loop-place-preserved c =
    let es = map event c.args.events.now in
    let ns = c.in_ok-labels.labels.numbers.items in
    let v = c.deref_mut.ensures.value in
    let items = c.loop-place.queues.items in
    let e : take c.loop-place.queues.len (c.pay.new.queues ++ drop (length c.pay.new.queues) items) ≡ c.pay.new.queues = whole_again c.pay.new.queues items c.loop-place.queues.len c.loop-place.queues.ok.0 (c.pay.auto.queues ∙ ap length v) in
    record {
      size = ap length e ∙ c.pay.auto.queues ∙ ap length v ∙ c.loop-place.invariant.size;
      running = subst (λ l. Running es ns (c.loop-place.place + 1) (map queue l) c.push.new.self.items) (sym e)
          (run_more c.args.events.now ns c.in_ok-labels.labels.bound c.loop-place.place c.index-number.result.now c.index-events-place.result (map queue c.deref_mut.result.now) (map queue c.pay.new.queues) c.in_ok-begin.begin c.loop-place.from.items c.push.new.self.items c.in_ok-labels.ensures c.loop-place-test.true c.index-events-place.is c.index-number.ensures
          (length-map c.deref_mut.result.now queue ∙ ap length v ∙ c.loop-place.invariant.size)
          c.in_ok-begin.ensures
          c.in_ok-push.ensures.items
          (subst (λ l. Running es ns c.loop-place.place (map queue l) c.loop-place.from.items) (sym v) c.loop-place.invariant.running));
    }

pub returns : goal.returns
returns c = run_all (map event c.args.events.now) c.in_ok-labels.labels.numbers.items c.loop-place.place (map queue c.loop-place.queues.items) c.loop-place.from.items (omega (arith, length_events c.args.events.now, c.loop-place-test.false)) c.loop-place.invariant.running
