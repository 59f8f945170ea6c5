use Rattle.std.proofs.Common.{ap}
use Rattle.spi_audit.specs.declared.asked.Asked.TheVariants as A
use Rattle.spi_audit.specs.declared.asked.Binding.TheVariants.{Nothing}
use Rattle.spi_audit.specs.Asked.{bound_none}
use Rattle.spi_audit.proofs.opening.begun.Goals as goal

pub returns : goal.returns
returns c = record {
  names = Nothing;
  is = ap (λ n. A.Process c.args.body n Nothing) c.len.ensures;
  bound = λ e s. bound_none;
}
