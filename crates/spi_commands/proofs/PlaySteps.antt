-- The steps of a play are few, name low places, and are a replay.
use Rattle.std.proofs.Common.{◌≡◌, ℕ, ◌+◌, ◌<◌, ◌≤◌, List, [], ◌∷◌, ◌++◌, length, length-append, Option, refl, sym, ap, ◌∙◌, subst, subst₂, arith}
use Rattle.std.proofs.lemmas.List.Elements.{All-nil, All-cons}
use Rattle.std.specs.List.{All}
use Rattle.spi_term.proofs.Lists.{at_below}
use Rattle.spi_term.specs.Term.{Message}
use Rattle.spi_know.specs.Sent.{handed}
use Rattle.spi_run.specs.Reduction.{Configuration, Step, Event, Takes, takes_act, takes_talk}
use Rattle.spi_replay.specs.Stepping.{Pooled, IsTaken}
use Rattle.spi_play.specs.declared.player.Pick.{Pick}
use Rattle.spi_play.specs.declared.player.Pick.TheVariants.{Take, Leave}
use Rattle.spi_play.specs.Way.{Seen}
use Rattle.spi_play.specs.Play.{Course, Seat, PlayState, TurnOf, DoesReady, DoesTurn, Plays, start}
use Rattle.spi_spell.specs.Joined.{HasLowPlaces}
use Rattle.spi_commands.specs.Replays.{ReplaysWithTalks, replays_none, replays_step}
use Rattle.spi_commands.proofs.ScheduleSteps.{append_step}

-- the same pool where it may have so many places
abbrev pub widened : ℕ → Pooled → Pooled
widened most p = record { configuration = p.configuration; most = most }

taken_wider : {p q : Pooled} {s : Step} {e : Option Event} (most : ℕ) → p.most ≤ most → IsTaken p s e q → IsTaken (widened most p) s e (widened most q)
taken_wider most h t = record { takes = t.takes; small = t.small; few = (let few = t.few in omega (arith, h, few)); most = refl }

replays_wider : {p q : Pooled} {ss : List Step} {es : List Event} {ms : List Message} (most : ℕ) → p.most ≤ most → ReplaysWithTalks p ss es ms q → ReplaysWithTalks (widened most p) ss es ms (widened most q)
replays_wider most h replays_none = replays_none
replays_wider most h (replays_step t r) =
    let same = t.most in
    replays_step (taken_wider most h t) (replays_wider most (omega (arith, h, same)) r)

-- a step names places that are there
low_places : {c d : Configuration} {s : Step} {e : Option Event} → Takes c s e d → length c.places ≤ 5000 → HasLowPlaces s
low_places (takes_act a x) few = let i = at_below a in omega (arith, few, i)
low_places (takes_talk a b x) few =
    let i = at_below a in
    let j = at_below b in
    (omega (arith, few, i), omega (arith, few, j))

replays_low : {p q : Pooled} {ss : List Step} {es : List Event} {ms : List Message} → length p.configuration.places ≤ p.most → p.most ≤ 5000 → ReplaysWithTalks p ss es ms q → All HasLowPlaces ss
replays_low few small replays_none = All-nil HasLowPlaces
replays_low few small (replays_step {s = s} {ss = ss} t r) =
    let here = t.few in
    let same = t.most in
    All-cons HasLowPlaces s ss (low_places t.takes (omega (arith, few, small))) (replays_low (omega (arith, here, same)) (omega (arith, small, same)) r)

-- how far a play has come from a pool
record PlayCame (most : ℕ) (first : Pooled) (done : Course) : Type 0 where
  few : length done.steps ≤ most
  talks : List Message
  replays : ReplaysWithTalks first done.steps done.events talks done.pool

went : (most k : ℕ) (first : Pooled) (old new : Course) → length old.steps < most → DoesReady old k new → PlayCame most first old → PlayCame most first new
went most k first old new less goes came =
    let long : length new.steps ≡ length old.steps + 1 = ap length goes.steps ∙ length-append old.steps (goes.step ∷ []) in
    record {
      few = omega (arith, less, long);
      talks = came.talks ++ handed old.pool.configuration goes.step;
      replays = subst₂ (λ (ss : List Step) (es : List Event). ReplaysWithTalks first ss es (came.talks ++ handed old.pool.configuration goes.step) new.pool) (sym goes.steps) (sym goes.events) (append_step came.replays goes.taken);
    }

turned : (only : Option ℕ) (most place : ℕ) (first : Pooled) (pick : Pick) (old new : Course) (before after : List Seat) (next : Option ℕ) → length old.steps < most → DoesTurn only place pick old new before after next → PlayCame most first old → PlayCame most first new
turned only most place first (Take k) old new before after next less does came = went most k first old new less does.0 came
turned only most place first Leave old new before after next less does came = subst (λ (c : Course). PlayCame most first c) (sym does.0) came

came_by : (only : Option ℕ) (most : ℕ) (first : Pooled) (turns : List TurnOf) (old new : PlayState) → Plays only most old turns new → PlayCame most first old.course → PlayCame most first new.course
came_by only most first [] old new plays came = subst (λ (s : PlayState). PlayCame most first s.course) (sym plays) came
came_by only most first (turn ∷ turns) old new (mid, turns_so, plays) came =
    let few = came.few in
    let more = turns_so.goes_on.more in
    came_by only most first turns mid new plays (turned only most turns_so.place first turn.pick old.course mid.course turns_so.seats mid.seats mid.next (omega (arith, few, more)) turns_so.does came)

-- the steps of a play replay with its events, where more places are allowed too
pub play_replays : (only : Option ℕ) (most wide : ℕ) (first : Pooled) (players : List Seen) (turns : List TurnOf) (new : PlayState) → length first.configuration.places ≤ first.most → first.most ≤ wide → wide ≤ 5000 → Plays only most (start first players only) turns new
    → (length new.course.steps ≤ most) × All HasLowPlaces new.course.steps
    × ((ms : List Message) × ReplaysWithTalks (widened wide first) new.course.steps new.course.events ms (widened wide new.course.pool))
play_replays only most wide first players turns new few small low plays =
    let came = came_by only most first turns (start first players only) new plays (record { few = omega arith; talks = []; replays = replays_none }) in
    (came.few, replays_low few (omega (arith, small, low)) came.replays, (came.talks, replays_wider wide small came.replays))
