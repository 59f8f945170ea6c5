use Rattle.std.proofs.Common.{refl, subst, OnOk}
use Rattle.spi_term.specs.Term as Term
use Rattle.spi_intern.specs.Meaning.{Means}
use Rattle.spi_intern.specs.Growing.{Adds, over_types}
use Rattle.spi_message.specs.Judging.{Numbered}
use Rattle.spi_message.proofs.Kept.{inside_keeps}
use Rattle.spi_message.proofs.judge.Judge.sum_over.Goals as goal

pub invariant_of-self : goal.invariant_of-self
invariant_of-self c = inside_keeps c.sum_over.ensures.kept refl c.self.invariant

pub returns-clause-adds : goal.returns-clause-adds
returns-clause-adds c =
    subst (λ (j : Numbered). OnOk c.sum_over.result ((t u : Term.Ty) → Means j.store c.args.left.place t → Means j.store c.args.right.place u → Adds j.store c.sum_over.new.self (over_types (Term.sum_ty t u)))) c.self.view_is c.sum_over.ensures.adds
