use Rattle.std.proofs.Common.{◌≡◌, ℕ, subst, length, arith}
use Rattle.spi_horn.specs.Needs.{AreMarkedWritten}
use Rattle.spi_horn.proofs.Writing.{written_none}
use Rattle.spi_horn.proofs.tracing.write.Goals as goal

pub loop-t-init : goal.loop-t-init
loop-t-init c = written_none _ _ _ _ _ _ c.new-lines.ensures.items c.new-line_at.ensures.items

pub returns-clause-written : goal.returns-clause-written
returns-clause-written c =
    let e : c.loop-t.t ≡ length c.args.marks.now = omega arith in
    let P : ℕ → Type 0 = λ n. AreMarkedWritten c.args.rules.now c.args.closure.now.order.items c.args.closure.now.places.items c.args.marks.now n c.loop-t.lines.items c.loop-t.line_at.items in
    (c.loop-t.line_at.items, subst P e c.loop-t.invariant)

pub returns-clause-few : goal.returns-clause-few
returns-clause-few c = let f = c.loop-t.invariant.few in omega (arith, f)
