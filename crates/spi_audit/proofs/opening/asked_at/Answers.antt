use Rattle.std.proofs.Common.{refl}
use Rattle.spi_intern.proofs.Meanings.{means_keeps}
use Rattle.spi_audit.proofs.opening.asked_at.Goals as goal

pub returns-clause-at : goal.returns-clause-at
returns-clause-at c = λ u w. record {
  id = c.in_ok-id.id;
  ty = c.args.t;
  is = refl;
  at = c.in_ok-id.ensures.at;
  means = means_keeps c.in_ok-id.ensures.kept.store w;
}
