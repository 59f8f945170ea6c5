use Rattle.std.proofs.Common.{◌∙◌, refl, sym, subst}
use Rattle.spi_count.specs.Counts.{count_of}
use Rattle.spi_count.proofs.Waiting.{LeftOver, put_starts, put_first, put_all}
use Rattle.spi_count.proofs.pile.put_off.Goals as goal

pub loop-key-init : goal.loop-key-init
loop-key-init c =
    put_starts c.args.kind c.args.counts.counts c.args.late.now.items c.into_iter-key-iterator.result (c.into_iter-key-iterator.ensures.into_iter_gives ∙ c.iter-key-items.ensures.rest) c.iter-key-items.ensures.ordered

pub loop-key-preserved : goal.loop-key-preserved
loop-key-preserved c =
    subst (λ ws. LeftOver c.args.kind c.next.new.self ws c.args.late.now.items (count_of c.args.counts.counts)) (sym c.in_ok-push.ensures.items)
    (put_first c.args.kind c.in-Some.key.now c.in-Some.count.now c.next.new.self c.loop-key.late.items c.args.late.now.items (count_of c.args.counts.counts) _ refl refl refl
    (subst (λ es. LeftOver c.args.kind es c.loop-key.late.items c.args.late.now.items (count_of c.args.counts.counts)) c.in-Some.ensures.steps c.loop-key.invariant))

pub returns : goal.returns
returns c =
    put_all c.args.kind c.loop-key.key-iterator c.loop-key.late.items c.args.late.now.items (count_of c.args.counts.counts) c.in-None.ensures.steps.0 c.loop-key.invariant
