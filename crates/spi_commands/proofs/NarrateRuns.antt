-- How the file that a narration is told by runs.
use Rattle.std.proofs.Common.{◌≡◌, ℕ, ◌++◌, List, [], map, Option, Some, refl, sym, ap, ◌∙◌, subst, inl, inr}
use Rattle.spi_tree.specs.Trees as t
use Rattle.spi_term.specs.Lists.{At}
use Rattle.spi_term.specs.Spelling.{Spelling}
use Rattle.spi_term.specs.Term.{Message, stop}
use Rattle.spi_run.specs.Reduction.{Step, Event}
use Rattle.spi_run.specs.Safety.{beside}
use Rattle.spi_run.specs.View.{step, event}
use Rattle.spi_know.specs.Sent.{handed}
use Rattle.spi_replay.specs.Stepping.{Pooled, places_most}
use Rattle.spi_scope.specs.Points.{all_names, all_types}
use Rattle.spi_scope.specs.StandsFor.{Meant, over_free}
use Rattle.spi_narrate.specs.Narrations as n
use Rattle.spi_weave.specs.Woven.{last_span}
use Rattle.spi_honest.specs.Honest.{Replays as Plays, replays_none as plays_none, replays_step as plays_step, opening}
use Rattle.spi_narrator.specs.Answers.{IsTold}
use Rattle.spi_commands.specs.declared.status.Status.{Status}
use Rattle.spi_commands.specs.declared.status.Status.TheVariants.{Yes, No, Refused, ReadFault, WriteFault, NoMemory, Usage}
use Rattle.spi_commands.specs.Spelled.{SpellsFile}
use Rattle.spi_commands.specs.Beside.{replay_pool}
use Rattle.spi_commands.specs.Replays.{ReplaysWithTalks, replays_none, replays_step, RunsThrough, IsUnplayed, RefusesReplay}
use Rattle.spi_commands.specs.Replaying.{ReplaysTo, IsReplayText}
use Rattle.spi_commands.specs.Narrating.{RunsAsTold}
use Rattle.spi_commands.proofs.FileFacts.{OneFile, RefusedNone}
use Rattle.spi_commands.proofs.ScheduleFiles.{runs_once, never_unplayed, unreplayed}

-- the data of the talks of a replay
pub record ReplayTalked (p : Pooled) (ss : List Step) (es : List Event) (q : Pooled) : Type 0 where
  pub talks : List Message
  pub replays : ReplaysWithTalks p ss es talks q

pub talked : {p q : Pooled} {ss : List Step} {es : List Event} → Plays p ss es q → ReplayTalked p ss es q
talked plays_none = record { talks = []; replays = replays_none }
talked (plays_step {p = p} {s = s} t h) = let r = talked h in record { talks = handed p.configuration s ++ r.talks; replays = replays_step t r.replays }

-- the opponent is `stop`
module _ (x : n.Narration) (told : Meant) (is : IsTold x told) where
  abbrev opponent : Spelling
  opponent = over_free (all_types [] [] x.decls) (all_names [] x.decls) (t.stop (last_span (record { from = 0; to = 0 }) x.roles))

  has_opponent : told.opponent ≡ Some opponent
  has_opponent = ap (λ (f : Meant). f.opponent) is.same ∙ is.stands.opponent

  has_process : told.process ≡ is.file.process
  has_process = ap (λ (f : Meant). f.process) is.same

  abbrev steps : List Step
  steps = map step is.honest.steps.items

  abbrev events : List Event
  events = map event is.honest.events.items

  opens : opening is.file ≡ replay_pool places_most told opponent
  opens = ap (λ (p : Spelling). record { configuration = beside p.names p.process stop; most = places_most }) (sym has_process)

  pub run : (r : RunsThrough told events) × (r.last ≡ is.is.last)
  run =
      let t = talked is.is.replays in (
        record {
          opponent = opponent;
          steps = steps;
          talks = t.talks;
          last = is.is.last;
          beside = (has_opponent, tt);
          schedule = ap (λ (f : Meant). f.schedule) is.same;
          replays = subst (λ (p : Pooled). ReplaysWithTalks p steps events t.talks is.is.last) opens t.replays;
        },
        refl,
      )

  module _ (one : OneFile) (none_of : RefusedNone) (output : List ℕ) (spells : SpellsFile output told) where
    same_text : (file : Meant) (es : List Event) (text : List ℕ) → SpellsFile output file → RunsThrough file es → IsReplayText file es text → IsReplayText told events text
    same_text file es text other runs is_text =
        let same : file ≡ told = one output file told other spells in
        let all : es ≡ events = runs_once told es events (subst (λ (f : Meant). RunsThrough f es) same runs) run.0 in
        subst (λ (f : Meant). IsReplayText f events text) same (subst (λ (l : List Event). IsReplayText file l text) all is_text)

    never_refused : (number : ℕ) (offset : Option ℕ) (shown : List ℕ) → RefusesReplay output number offset shown → ⊥
    never_refused number offset shown why = elim (unreplayed output none_of number offset shown why) [
      | inl none ↦ none told spells
      | inr u ↦ never_unplayed told events run.0 (subst (λ (f : Meant). IsUnplayed f) (one output u.0 told u.1 spells) u.2)
    ]

    replayed : (status : Status) (text : List ℕ) → ReplaysTo output status text → IsReplayText told events text
    replayed Yes text (file, es, other, runs, paid, is_text) = same_text file es text other runs is_text
    replayed No text (file, es, other, runs, unpaid, is_text) = same_text file es text other runs is_text
    replayed Refused text (r, why, line) = absurd (never_refused r.number r.offset r.shown.items why)
    replayed ReadFault text h = absurd h
    replayed WriteFault text h = absurd h
    replayed NoMemory text h = absurd h
    replayed Usage text h = absurd h

    pub runs_as_told : RunsAsTold x told output
    runs_as_told = record {
      events = events;
      end = is.is.told;
      narrates = is.is.narrates;
      run = run.0;
      stops = λ i p h. is.is.stops i p (subst (λ (q : Pooled). At q.configuration.places i p) run.1 h);
      replays = replayed;
    }
