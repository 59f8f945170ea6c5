use Rattle.std.proofs.Common.{ap}
use Rattle.spi_audit.specs.declared.asked.Asked.TheVariants as A
use Rattle.spi_audit.specs.declared.asked.Binding.TheVariants.{OneName}
use Rattle.spi_audit.specs.Asked.{bound_one}
use Rattle.spi_audit.proofs.opening.begun_one.Goals as goal

pub returns-clause-begins : goal.returns-clause-begins
returns-clause-begins c = record {
  names = OneName c.in_ok-id.id;
  is = ap (λ n. A.Process c.args.body n (OneName c.in_ok-id.id)) c.len-scope.ensures;
  bound = λ e s. bound_one c.in_ok-id.ensures.at;
}
