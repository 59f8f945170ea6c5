-- What `replay` answers on a file.
use Rattle.std.proofs.Common.{◌≡◌, false, inl, inr, ℕ, List, map, sym, subst, Result, Ok, Err, IfOk}
use Rattle.spi_run.specs.View.{event as event_of}
use Rattle.spi_scope.specs.declared.file.File.{File}
use Rattle.spi_scope.specs.Files.{meant}
use Rattle.spi_commands.specs.declared.answer.Answer.{Answer}
use Rattle.spi_commands.specs.declared.answer.Stop.{Stop}
use Rattle.spi_commands.specs.declared.schedule.Replay.{Replay}
use Rattle.spi_commands.specs.declared.schedule.Ran.TheVariants.{Through}
use Rattle.spi_commands.specs.declared.status.Status.{Status}
use Rattle.spi_commands.specs.declared.status.Status.TheVariants.{Yes, No, Refused}
use Rattle.spi_commands.specs.Reading.{IsRead}
use Rattle.spi_commands.specs.Refusals.{IsLineOf}
use Rattle.spi_commands.specs.Replays.{RefusesReplay}
use Rattle.spi_commands.specs.Ran.{IsRan}
use Rattle.spi_commands.specs.Replaying.{ReplaysTo, AreEventsJudged, IsReplayText}

-- an answer with this status
answered : (bytes : List ℕ) (a : Answer) (status : Status) → a.status ≡ status → ReplaysTo bytes status a.output.items → ReplaysTo bytes a.status a.output.items
answered bytes a status e h = subst (λ s. ReplaysTo bytes s a.output.items) (sym e) h

-- a schedule that runs through
pub judged : (bytes : List ℕ) (f : File) (replay : Replay) (result : Result Answer Stop) → IsRead bytes f → IsRan bytes (meant f) false (Through replay)
    → IfOk result (λ a. AreEventsJudged (map event_of replay.events.items) a.status × IsReplayText (meant f) (map event_of replay.events.items) a.output.items) → IfOk result (λ a. ReplaysTo bytes a.status a.output.items)
judged bytes f replay (Ok a) (tree, is, stands, marks) ran h = by h.0
  where
    by : AreEventsJudged (map event_of replay.events.items) a.status → ReplaysTo bytes a.status a.output.items
    by (inl (s, paid)) = answered bytes a Yes s (meant f, map event_of replay.events.items, (tree, is, stands), ran.0, paid, h.1)
    by (inr (s, unpaid)) = answered bytes a No s (meant f, map event_of replay.events.items, (tree, is, stands), ran.0, unpaid, h.1)
judged bytes f replay (Err s) r ran h = tt

-- a refusal
pub refused : (bytes line output : List ℕ) (status : Status) → IsLineOf bytes (RefusesReplay bytes) line → status ≡ Refused → output ≡ line → ReplaysTo bytes status output
refused bytes line output status h e is = rw (e, is) h
