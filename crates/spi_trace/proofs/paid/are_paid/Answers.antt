use Rattle.std.proofs.Common.{refl, sym, ◌∙◌, map, arith}
use Rattle.spi_run.specs.View.{event}
use Rattle.spi_trace.specs.Next.{IsPaidAs}
use Rattle.spi_trace.proofs.Prefixes.{next_below, each_at, any_below, length_events}
use Rattle.spi_trace.proofs.paid.are_paid.Goals as goal

pub returns-then-not-is_paid : goal.returns-then-not-is_paid
returns-then-not-is_paid c = (
  (λ e. absurd (cc)),
  (λ p. sym c.if-not-is_paid.true ∙ c.is_paid.ensures.1 (each_at (IsPaidAs c.args.ends) c.args.events.now c.loop-place.place c.index-events-place.result c.loop-place-test.true c.index-events-place.is p)),
)

pub loop-place-preserved : goal.loop-place-preserved
loop-place-preserved c = next_below (IsPaidAs c.args.ends) c.args.events.now c.loop-place.place c.index-events-place.result c.loop-place-test.true c.index-events-place.is c.loop-place.invariant (c.is_paid.ensures.0 c.if-not-is_paid.false)

pub returns : goal.returns
returns c = (
  (λ e. any_below (IsPaidAs c.args.ends) (map event c.args.events.now) c.loop-place.place (omega (arith, length_events c.args.events.now, c.loop-place-test.false)) c.loop-place.invariant),
  (λ p. refl),
)
