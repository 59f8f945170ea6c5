-- The steps of a play are a run.
use Rattle.std.proofs.Common.{◌≡◌, ℕ, List, [], ◌∷◌, ◌++◌, Option, ap, sym, ◌∙◌, subst, append-nil, append_assoc}
use Rattle.std.specs.Option.{option_to_list}
use Rattle.spi_run.specs.Reduction.{Step, Event, Runs, runs_none}
use Rattle.spi_replay.specs.Stepping.{Pooled}
use Rattle.spi_replay.proofs.Taken.{runs_more}
use Rattle.spi_play.specs.declared.player.Pick.{Pick}
use Rattle.spi_play.specs.declared.player.Pick.TheVariants.{Take, Leave}
use Rattle.spi_play.specs.Way.{Seen}
use Rattle.spi_play.specs.Play.{Seat, PlayState, Course, TurnOf, DoesReady, DoesTurn, Plays, start}

-- what was done between two points of a play
record RanBetween (old new : Course) : Type 0 where
  steps : List Step
  events : List Event
  runs : Runs old.pool.configuration steps events new.pool.configuration
  steps_are : new.steps ≡ old.steps ++ steps
  events_are : new.events ≡ old.events ++ events

ran_none : (old : Course) → RanBetween old old
ran_none old = record {
  steps = [];
  events = [];
  runs = runs_none;
  steps_are = sym (append-nil old.steps);
  events_are = sym (append-nil old.events);
}

ran_more : (old mid new : Course) (k : ℕ) → DoesReady old k mid → RanBetween mid new → RanBetween old new
ran_more old mid new k goes ran = record {
  steps = goes.step ∷ ran.steps;
  events = option_to_list goes.event ++ ran.events;
  runs = runs_more goes.event goes.taken.takes ran.runs;
  steps_are = ran.steps_are ∙ ap (λ x. x ++ ran.steps) goes.steps ∙ append_assoc old.steps (goes.step ∷ []) ran.steps;
  events_are = ran.events_are ∙ ap (λ x. x ++ ran.events) goes.events ∙ append_assoc old.events (option_to_list goes.event) ran.events;
}

ran_turn : (only : Option ℕ) (place : ℕ) (pick : Pick) (old mid new : Course) (seats after : List Seat) (next : Option ℕ) → DoesTurn only place pick old mid seats after next → RanBetween mid new → RanBetween old new
ran_turn only place (Take k) old mid new seats after next does ran = ran_more old mid new k does.0 ran
ran_turn only place Leave old mid new seats after next does ran = let P : Course → Type 0 = λ c. RanBetween c new in subst P does.0 ran

ran_all : (only : Option ℕ) (most : ℕ) (old : PlayState) (turns : List TurnOf) (last : PlayState) → Plays only most old turns last → RanBetween old.course last.course
ran_all only most old [] last is = let P : PlayState → Type 0 = λ s. RanBetween old.course s.course in subst P (sym is) (ran_none old.course)
ran_all only most old (turn ∷ turns) last plays =
    let t = plays.1 in
    ran_turn only t.place turn.pick old.course plays.0.course last.course t.seats plays.0.seats plays.0.next t.does (ran_all only most plays.0 turns last plays.2)

pub play_runs : (only : Option ℕ) (most : ℕ) (pool : Pooled) (players : List Seen) (turns : List TurnOf) (last : PlayState) → Plays only most (start pool players only) turns last → Runs pool.configuration last.course.steps last.course.events last.course.pool.configuration
play_runs only most pool players turns last plays =
    let r = ran_all only most (start pool players only) turns last plays in
    let P : List Step → Type 0 = λ ss. Runs pool.configuration ss r.events last.course.pool.configuration in
    let Q : List Event → Type 0 = λ es. Runs pool.configuration last.course.steps es last.course.pool.configuration in
    subst Q (sym r.events_are) (subst P (sym r.steps_are) r.runs)
