use Rattle.std.proofs.Common.{refl, subst, OnOk}
use Rattle.spi_term.specs.Term as Term
use Rattle.spi_intern.specs.Meaning.{Means}
use Rattle.spi_intern.specs.Growing.{Adds, over_types}
use Rattle.spi_message.specs.Judging.{Numbered}
use Rattle.spi_message.proofs.Kept.{inside_keeps}
use Rattle.spi_message.proofs.judge.Judge.pair_over.Goals as goal

pub invariant_of-self : goal.invariant_of-self
invariant_of-self c = inside_keeps c.pair_over.ensures.kept refl c.self.invariant

pub returns-clause-adds : goal.returns-clause-adds
returns-clause-adds c =
    subst (λ (j : Numbered). OnOk c.pair_over.result ((t u : Term.Ty) → Means j.store c.args.first.place t → Means j.store c.args.second.place u → Adds j.store c.pair_over.new.self (over_types (Term.pair_ty t u)))) c.self.view_is c.pair_over.ensures.adds
