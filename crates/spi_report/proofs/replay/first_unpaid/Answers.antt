use Rattle.std.proofs.Common.{refl, sym, ◌∙◌}
use Rattle.spi_report.proofs.Lines.{more_none, found_at}
use Rattle.spi_report.proofs.replay.first_unpaid.Goals as goal

pub returns-then-is_unpaid-clause-first : goal.returns-then-is_unpaid-clause-first
returns-then-is_unpaid-clause-first c = found_at c.loop-k.k c.args.events.now c.args.from.now c.index-events-k.result _ _ c.loop-k-test.true c.requires c.index-events-k.is refl c.loop-k.invariant (sym c.is_unpaid.ensures ∙ c.if-is_unpaid.true)

pub loop-k-preserved : goal.loop-k-preserved
loop-k-preserved c = more_none c.loop-k.k c.args.events.now c.args.from.now c.index-events-k.result _ _ c.loop-k-test.true c.requires c.index-events-k.is refl c.loop-k.invariant (sym c.is_unpaid.ensures ∙ c.if-is_unpaid.false)
