use Rattle.std.proofs.Common.{ap}
use Rattle.spi_term.specs.View.{message}
use Rattle.spi_intern.proofs.Meanings.{means_keeps}
use Rattle.spi_audit.specs.declared.asked.Asked.TheVariants as A
use Rattle.spi_audit.specs.declared.asked.Binding.TheVariants.{OneName}
use Rattle.spi_audit.specs.Asked.{bound_one}
use Rattle.spi_audit.proofs.opening.begun_opened_at.Goals as goal

pub opened-requires-clause-ty : goal.opened-requires-clause-ty
opened-requires-clause-ty c = record { type = c.requires.type; means = means_keeps c.in_ok-m.ensures.kept.store c.requires.means }

pub returns-clause-begins : goal.returns-clause-begins
returns-clause-begins c = λ u w. record {
  names = OneName c.in_ok-filled.filled;
  is = ap (λ n. A.Process c.args.body n (OneName c.in_ok-filled.filled)) c.len-scope.ensures;
  bound = λ e s. bound_one (c.in_ok-filled.ensures.at u (message c.args.value.now) (means_keeps c.in_ok-m.ensures.kept.store w) c.in_ok-m.ensures.at);
}
