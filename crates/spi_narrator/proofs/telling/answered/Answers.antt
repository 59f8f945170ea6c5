use Rattle.std.proofs.Common.{refl, true≢false, sym, ◌∙◌, subst, IfOk}
use Rattle.spi_scope.specs.Files.{meant}
use Rattle.spi_scope.specs.StandsFor.{StandsFor}
use Rattle.spi_narrate.specs.Narrations as n
use Rattle.spi_narrate.specs.Views.{narration_of}
use Rattle.spi_weave.specs.Woven.{woven}
use Rattle.spi_honest.specs.Narrated.{free_of}
use Rattle.spi_honest.specs.Roles.{IsTellable, HaveChannels}
use Rattle.spi_narrator.specs.Answers.{IsNarrationAnswer}
use Rattle.spi_narrator.proofs.Told.{scope_fault}
use Rattle.spi_narrator.proofs.telling.answered.Goals as goal

pub scheduled-requires-clause-tellable : goal.scheduled-requires-clause-tellable
scheduled-requires-clause-tellable c = subst IsTellable (sym c.in-Ok.ensures.same) c.requires.tellable

pub scheduled-requires-clause-channels : goal.scheduled-requires-clause-channels
scheduled-requires-clause-channels c = subst (λ (x : n.Narration). HaveChannels (free_of x) x.lines) (sym c.in-Ok.ensures.same) c.requires.channels

pub scheduled-requires-clause-file : goal.scheduled-requires-clause-file
scheduled-requires-clause-file c = subst (λ (x : n.Narration). StandsFor (woven x) (meant c.in-Ok.file)) (sym c.in-Ok.ensures.same) c.in-Ok.ensures.file

pub returns-in-Ok : goal.returns-in-Ok
returns-in-Ok c = subst (λ (x : n.Narration). IfOk c.scheduled.result (IsNarrationAnswer x)) c.in-Ok.ensures.same c.scheduled.ensures

pub returns : goal.returns
returns c =
    scope_fault (narration_of c.args.n) c.in-Err.fault (woven (narration_of c.args.n)) refl c.requires.channels
    (λ m. true≢false (sym (c.is_out_of_memory.ensures.1 m) ∙ c.if-is_out_of_memory.false)) c.in-Err.ensures.fault
