use Rattle.std.proofs.Common.{refl, arith}
use Rattle.spi_gen.proofs.Halves.{one_grouped, one_beside, grouped_halves, beside_halves}
use Rattle.spi_gen.proofs.beside.+beside.Goals as goal

pub returns-then-n-eq1-clause-part : goal.returns-then-n-eq1-clause-part
returns-then-n-eq1-clause-part t c = one_grouped c.args.n c.handshake.result c.args.in_part c.if-n-eq1.true c.handshake.ensures

pub returns-then-n-eq1-clause-process : goal.returns-then-n-eq1-clause-process
returns-then-n-eq1-clause-process t c = one_beside c.args.n c.handshake.result c.args.in_part c.if-n-eq1.true c.handshake.ensures

pub returns-then-in_part-clause-part : goal.returns-then-in_part-clause-part
returns-then-in_part-clause-part t c is = rw c.in_ok-parts.ensures.ok (grouped_halves c.args.n _ _ (omega (arith, c.requires.some, c.if-n-eq1.false)) (c.in_ok-first.ensures.part refl) (c.in_ok-rest.ensures.part refl))

pub returns-else-in_part-clause-process : goal.returns-else-in_part-clause-process
returns-else-in_part-clause-process t c is = rw c.in_ok-parts.ensures.ok (beside_halves c.args.n _ _ (omega (arith, c.requires.some, c.if-n-eq1.false)) (c.in_ok-first.ensures.part refl) (c.in_ok-rest.ensures.part refl))
