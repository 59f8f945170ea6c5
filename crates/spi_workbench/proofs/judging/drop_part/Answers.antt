use Rattle.std.proofs.Common.{sym, ◌∙◌, subst}
use Rattle.spi_workbench.proofs.Stepping.{none_from, some_there, none_there, drop_next}
use Rattle.spi_workbench.specs.Answers.{IsEditRefused}
use Rattle.spi_workbench.specs.declared.answer.Refusal.TheVariants.{UnknownPart}
use Rattle.spi_edits.specs.Edits.{drops}
use Rattle.spi_workbench.proofs.judging.drop_part.Goals as goal

pub returns-in-Some : goal.returns-in-Some
returns-in-Some c b before s at =
    let w = c.args.work.now in
    drop_next b before w at s c.args.name.now (record { tree = w.tree; news = w.news; bench = c.drop_part.new.self; count = w.count }) (some_there _ _ _ c.drop_part.ensures.part c.in-Some.is) at.tree c.drop_part.ensures.parts (Rattle.std.proofs.Common.refl)

pub returns : goal.returns
returns c b before s at =
    let w = c.args.work.now in
    let none = sym c.drop_part.ensures.part ∙ none_from c.drop_part.result c.in_default.not-Some in
    subst (λ x. IsEditRefused b before (drops s c.args.name.now) (UnknownPart c.args.name.now.span x)) (sym (c.in_ok-word.ensures ∙ c.as_str.ensures)) (none_there b before w at s c.args.name.now none)
