use Rattle.std.proofs.Common.{◌↔◌, subst, IsTrue}
use Rattle.spi_bench.specs.Parts.{Benched, IsYes}
use Rattle.spi_bench.proofs.Verdicts.{verdict_then, verdict_else}
use Rattle.spi_bench.proofs.bench.Bench.verdict.Goals as goal

pub returns-then-self : goal.returns-then-self
returns-then-self c =
    let b = c.self.inside in
    subst (λ (v : Benched). IsTrue c.is_paid.result ↔ IsYes v) c.self.view_is
    (verdict_then c.self.invariant c.is_paid.ensures c.if-self.true)

pub returns-else-self : goal.returns-else-self
returns-else-self c =
    subst (λ (v : Benched). IsTrue c.self.inside.fine ↔ IsYes v) c.self.view_is (verdict_else c.self.invariant c.if-self.false)
