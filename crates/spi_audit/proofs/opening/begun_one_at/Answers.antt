use Rattle.std.proofs.Common.{ap}
use Rattle.spi_audit.specs.declared.asked.Asked.TheVariants as A
use Rattle.spi_audit.specs.declared.asked.Binding.TheVariants.{OneName}
use Rattle.spi_audit.specs.Asked.{bound_one}
use Rattle.spi_audit.proofs.opening.begun_one_at.Goals as goal

pub returns : goal.returns
returns c = λ u w. record {
  names = OneName c.args.t;
  is = ap (λ n. A.Process c.args.body n (OneName c.args.t)) c.len.ensures;
  bound = λ e s. bound_one w;
}
