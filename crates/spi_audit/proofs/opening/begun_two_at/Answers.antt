use Rattle.std.proofs.Common.{ap, ◌∙◌, subst}
use Rattle.spi_term.specs.Term.{name}
use Rattle.spi_term.specs.Substitution.{ty_put}
use Rattle.spi_intern.specs.Meaning.{Means}
use Rattle.spi_intern.proofs.Meanings.{means_keeps}
use Rattle.spi_audit.specs.declared.asked.Asked.TheVariants as A
use Rattle.spi_audit.specs.declared.asked.Binding.TheVariants.{TwoNames}
use Rattle.spi_audit.specs.Asked.{bound_two}
use Rattle.spi_message.proofs.Standing.{stand_length}
use Rattle.spi_audit.proofs.opening.begun_two_at.Goals as goal

pub opened-requires-clause-ty : goal.opened-requires-clause-ty
opened-requires-clause-ty c = record { type = c.requires.type; means = means_keeps c.in_ok-m.ensures.kept.store c.requires.means }

pub returns-clause-begins : goal.returns-clause-begins
returns-clause-begins c = λ t u v w. record {
  names = TwoNames c.args.first c.in_ok-filled.filled;
  is = ap (λ n. A.Process c.args.body n (TwoNames c.args.first c.in_ok-filled.filled)) c.len-scope.ensures;
  bound = λ e s. bound_two (means_keeps c.in_ok-filled.ensures.kept.store (means_keeps c.in_ok-m.ensures.kept.store v))
      (subst (λ k. Means c.opened.new.self.store c.in_ok-filled.filled.place (ty_put (name k) u)) (c.len-scope.ensures ∙ stand_length s)
      (c.in_ok-filled.ensures.at u (name c.len-scope.result) (means_keeps c.in_ok-m.ensures.kept.store w) c.in_ok-m.ensures.at));
}
