use Rattle.std.proofs.Common.{ap, ◌∙◌, arith}
use Rattle.spi_scope.specs.Table.{Naming}
use Rattle.spi_scope.proofs.Tables.{cut_more}
use Rattle.spi_scope.proofs.names.Names.cut.Goals as goal

pub loop-self-preserved : goal.loop-self-preserved
loop-self-preserved c = record {
  names = rw c.unbind.ensures (cut_more c.loop-self.self.names c.args.len (omega arith) ∙ c.loop-self.invariant.names);
  noted = ap (λ (s : Naming). s.noted) c.unbind.ensures ∙ c.loop-self.invariant.noted;
}
