use Rattle.std.proofs.Common.{arith}
use Rattle.spi_horn.proofs.Trying.{least}
use Rattle.spi_horn.proofs.closing.close.Goals as goal

pub returns-clause-least : goal.returns-clause-least
returns-clause-least c =
    let s = c.in_ok-start_all.ensures in
    let r = c.in_ok-reach_all.ensures in
    least _ _ _ _ (λ j n e. let (t, f) = s.started j n e in (t, r.keeps.1 n t f)) (r.good c.args.start.now (s.good c.args.rules.now))

pub returns-clause-order : goal.returns-clause-order
returns-clause-order c = (c.in_ok-reach_all.ensures.good c.args.start.now (c.in_ok-start_all.ensures.good c.args.rules.now)).ordered

pub reach_all-requires-clause-begun : goal.reach_all-requires-clause-begun
reach_all-requires-clause-begun c = (c.args.start.now, c.in_ok-start_all.ensures.good c.args.rules.now)

pub returns-clause-few : goal.returns-clause-few
returns-clause-few c =
    let s = c.in_ok-start_all.ensures in
    let r = c.in_ok-reach_all.ensures in
    let g = r.good c.args.start.now (s.good c.args.rules.now) in
    let count = g.count in
    let k = r.keeps.0 in
    let l = s.count in
    let n = c.in_ok-places.ensures.len in
    omega (arith, count, k, l, n)
