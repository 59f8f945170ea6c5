use Rattle.std.proofs.Common.{sym, ◌∙◌, subst}
use Rattle.spi_narrate.specs.Views.{narration_of}
use Rattle.spi_honest.specs.Narrated.{free_of}
use Rattle.spi_narrator.specs.declared.answer.Refusal.TheVariants.{NotFree}
use Rattle.spi_narrator.specs.Answers.{RefusesNarration, not_free}
use Rattle.spi_narrator.proofs.telling.unfree.Goals as goal

pub returns-in-Some : goal.returns-in-Some
returns-in-Some c =
    subst (λ w. RefusesNarration (narration_of c.args.n.now) (NotFree c.in-Some.word.now.span w)) (sym (c.in_ok-of-in-Some.ensures ∙ c.as_str.ensures))
    (not_free (rw c.deref-2.ensures.value at (c.in-Some.ensures (free_of (narration_of c.args.n.now)) (rw c.deref.ensures.value at c.in_ok-names.ensures))))

pub returns : goal.returns
returns c = rw c.deref-2.ensures.value at (c.in-None.ensures (free_of (narration_of c.args.n.now)) (rw c.deref.ensures.value at c.in_ok-names.ensures))
