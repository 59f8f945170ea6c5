-- What a replay is refused for, and what it leaves.
use Rattle.std.proofs.Common.{◌≡◌, ◌≢◌, ◌⊎◌, inl, inr, ℕ, Bool, true, ◌+◌, ◌<◌, ◌≤◌, List, map, length, sym, subst, ap, ◌∙◌, refl, Some, None, Result, Ok, Err, IfOk, IsSome, arith}
use Rattle.std.proofs.lemmas.List.{length-map}
use Rattle.std.specs.Prelude.{codes}
use Rattle.spi_text.specs.declared.lines.Span.{Span}
use Rattle.spi_term.specs.Spelling.{Spelling}
use Rattle.spi_term.specs.Term.{Message}
use Rattle.spi_run.specs.Reduction.{Step}
use Rattle.spi_run.specs.Opponent.{IsOpponent}
use Rattle.spi_run.specs.Safety.{beside}
use Rattle.spi_run.specs.declared.step.Step as program
use Rattle.spi_run.specs.declared.step.Event as declared
use Rattle.spi_run.specs.View.{step as step_of, event as event_of}
use Rattle.spi_replay.specs.declared.fault.StepFault.{StepFault}
use Rattle.spi_replay.specs.declared.fault.StepFault.TheVariants.{NoPlace, NotReady, RunMessageTooLarge, TooManyPlaces, NoMemory as OutOfMemory}
use Rattle.spi_report.specs.Names.{name_of}
use Rattle.spi_replay.specs.Stepping.{Pooled, places_most}
use Rattle.spi_scope.specs.declared.file.File.{File}
use Rattle.spi_scope.specs.Files.{meant, Marked, marked}
use Rattle.spi_scope.specs.Places.{place_in}
use Rattle.spi_commands.specs.declared.answer.Answer.{Answer}
use Rattle.spi_commands.specs.declared.answer.Stop.{Stop}
use Rattle.spi_commands.specs.declared.schedule.Replay.{Replay}
use Rattle.spi_commands.specs.declared.schedule.Ran.{Ran}
use Rattle.spi_commands.specs.declared.schedule.Ran.TheVariants.{Through, Refused}
use Rattle.spi_commands.specs.Ran.{AreTalks, IsRan, IsRefused}
use Rattle.spi_commands.specs.Refusals.{IsLineOf, IsCause, IsMissing}
use Rattle.spi_commands.specs.Beside.{replay_pool, HasOffence}
use Rattle.spi_commands.specs.Reading.{IsRead}
use Rattle.spi_commands.specs.Replays.{ReplaysWithTalks, IsRefusedAt, step_refused, RefusesReplay, step_number, step_shown, step_at}
use Rattle.spi_commands.proofs.FilePlaces.{step_within}
use Rattle.spi_commands.proofs.ScheduleSteps.{few_events}
use Rattle.spi_commands.proofs.AnswerLines.{line_map, one_line}

-- where the file tells that a step stands
abbrev pub scheduled : Marked → ℕ → Span
scheduled m i = place_in m.steps i

pub scheduled_within : (bytes : List ℕ) (f : File) (i : ℕ) → IsRead bytes f → (scheduled (marked f) i).from ≤ length bytes
scheduled_within bytes f i (tree, is, stands, marks) = subst (λ m. (scheduled m i).from ≤ length bytes) (sym marks) (step_within bytes tree is i)

-- a refusal, as its line
line_ran : (bytes : List ℕ) (f : File) (keeps : Bool) (a : Answer) (ran : Ran) → ran ≡ Refused a.output → IsLineOf bytes (RefusesReplay bytes) a.output.items → IsRan bytes (meant f) keeps ran
line_ran bytes f keeps a ran e line = subst (λ (r : Ran). IsRan bytes (meant f) keeps r) (sym e) line

-- a missing part
pub lacks_opponent : (bytes : List ℕ) (f : File) (keeps : Bool) (a : Answer) (ran : Ran) → IsRead bytes f → (meant f).opponent ≡ None → ran ≡ Refused a.output → IsLineOf bytes (IsMissing (codes "opponent")) a.output.items → IsRan bytes (meant f) keeps ran
lacks_opponent bytes f keeps a ran (tree, is, stands, marks) none e line =
    line_ran bytes f keeps a ran e (line_map bytes a.output.items (IsMissing (codes "opponent")) (RefusesReplay bytes) (λ n o s m. inr (inl (meant f, (tree, is, stands), none, m))) line)

pub lacks_schedule : (bytes : List ℕ) (f : File) (o : Spelling) (keeps : Bool) (a : Answer) (ran : Ran) → IsRead bytes f → (meant f).opponent ≡ Some o → (meant f).schedule ≡ None → ran ≡ Refused a.output → IsLineOf bytes (IsMissing (codes "schedule")) a.output.items → IsRan bytes (meant f) keeps ran
lacks_schedule bytes f o keeps a ran (tree, is, stands, marks) there none e line =
    line_ran bytes f keeps a ran e (line_map bytes a.output.items (IsMissing (codes "schedule")) (RefusesReplay bytes) (λ n p s m. inr (inr (inl (meant f, o, (tree, is, stands), there, none, m)))) line)

-- no opponent
pub offended : (bytes : List ℕ) (f : File) (steps : List Step) (keeps : Bool) (a : Answer) (ran : Ran) → IsRead bytes f → (meant f).schedule ≡ Some steps → ran ≡ Refused a.output → IsLineOf bytes (HasOffence bytes) a.output.items → IsRan bytes (meant f) keeps ran
offended bytes f steps keeps a ran (tree, is, stands, marks) there e line =
    line_ran bytes f keeps a ran e (line_map bytes a.output.items (HasOffence bytes) (RefusesReplay bytes) (λ n p s m. inr (inr (inr (inl (m, (meant f, steps, (tree, is, stands), there)))))) line)

-- the pool at the start
pub starts : (most : ℕ) (f : File) (o : Spelling) (p : Pooled) → p.configuration ≡ beside f.process.names f.process.process o.process → p.most ≡ most → p ≡ replay_pool most (meant f) o
starts most f o p e m =
    let one : ℕ → Pooled = λ k. record { configuration = p.configuration; most = k } in
    ap one m ∙ ap (λ c. record { configuration = c; most = most }) e

-- a step that is refused
step_line : (bytes output : List ℕ) (f : File) (o : Spelling) (steps : List Step) (i : ℕ) (fault : StepFault) → IsRead bytes f → (meant f).opponent ≡ Some o → (meant f).schedule ≡ Some steps → IsOpponent o.process
    → IsRefusedAt (replay_pool places_most (meant f) o) steps i fault → IsLineOf bytes (IsCause (step_number fault) (Some (scheduled (marked f) i).from) (step_shown fault)) output → IsLineOf bytes (RefusesReplay bytes) output
step_line bytes output f o steps i fault (tree, is, stands, marks) e g opponent refused (r, (n, p, s), line) =
    let there : r.offset ≡ Some (step_at tree i).from = p ∙ ap (λ m. Some (scheduled m i).from) marks in
    one_line bytes (step_shown fault) output (step_number fault) (Some (step_at tree i).from) r (RefusesReplay bytes)
    (inr (inr (inr (inr (tree, meant f, o, steps, is, stands, (e, opponent), g, step_refused refused))))) n there s line

abbrev pub IsScheduleStopped : List ℕ → File → ℕ → StepFault → Ran → Type 0
IsScheduleStopped bytes f i fault ran = (fault ≢ OutOfMemory) × IsRefused bytes (IsCause (step_number fault) (Some (scheduled (marked f) i).from) (step_shown fault)) ran

pub stopped_at : (bytes : List ℕ) (f : File) (o : Spelling) (steps : List Step) (p : Pooled) (i : ℕ) (fault : StepFault) (keeps : Bool) (result : Result Ran Stop) → IsRead bytes f → (meant f).opponent ≡ Some o → (meant f).schedule ≡ Some steps → IsOpponent o.process
    → p ≡ replay_pool places_most (meant f) o → (fault ≡ OutOfMemory) ⊎ IsRefusedAt p steps i fault → IfOk result (IsScheduleStopped bytes f i fault) → IfOk result (λ ran. IsRan bytes (meant f) keeps ran)
stopped_at bytes f o steps p i fault keeps (Ok (Through replay)) r e g opponent start refused h = absurd h.1
stopped_at bytes f o steps p i fault keeps (Ok (Refused line)) r e g opponent start (inl none) h = absurd (h.0 none)
stopped_at bytes f o steps p i fault keeps (Ok (Refused line)) r e g opponent start (inr refused) h =
    step_line bytes line.items f o steps i fault r e g opponent (subst (λ q. IsRefusedAt q steps i fault) start refused) h.1
stopped_at bytes f o steps p i fault keeps (Err s) r e g opponent start refused h = tt

-- a step's refusal, whose number has a name
pub step_named : (fault : StepFault) (number : ℕ) → fault ≢ OutOfMemory → number ≡ step_number fault → IsSome (name_of number)
step_named (NoPlace place) number some e = subst (λ n. IsSome (name_of n)) (sym e) refl
step_named (NotReady place) number some e = subst (λ n. IsSome (name_of n)) (sym e) refl
step_named (RunMessageTooLarge nodes) number some e = subst (λ n. IsSome (name_of n)) (sym e) refl
step_named (TooManyPlaces places) number some e = subst (λ n. IsSome (name_of n)) (sym e) refl
step_named OutOfMemory number some e = absurd (some refl)

-- a schedule that runs through
few_happened : (steps : List program.Step) (events : List declared.Event) (n : ℕ) (p q : Pooled) (ms : List Message) → n + length steps < 4294967295 → ReplaysWithTalks p (map step_of steps) (map event_of events) ms q → length events < 4294967296
few_happened steps events n p q ms few replays =
    let most = few_events replays in
    omega (arith, few, most, length-map steps step_of, length-map events event_of)

pub ran_through : (bytes : List ℕ) (f : File) (o : Spelling) (steps : List program.Step) (n : ℕ) (replay : Replay) (keeps : Bool) (p q : Pooled) → (meant f).opponent ≡ Some o → (meant f).schedule ≡ Some (map step_of steps) → IsOpponent o.process
    → p ≡ replay_pool places_most (meant f) o → n + length steps < 4294967295
    → (ms : List Message) × ReplaysWithTalks p (map step_of steps) (map event_of replay.events.items) ms q × (keeps ≡ true → AreTalks ms replay.talks) × (replay.names ≡ q.configuration.names)
    → IsRan bytes (meant f) keeps (Through replay)
ran_through bytes f o steps n replay keeps p q e g opponent start few (ms, replays, kept, names) = (
  record {
    opponent = o;
    steps = map step_of steps;
    talks = ms;
    last = q;
    beside = (e, opponent);
    schedule = g;
    replays = subst (λ first. ReplaysWithTalks first (map step_of steps) (map event_of replay.events.items) ms q) start replays;
  },
  kept,
  names,
  few_happened steps replay.events.items n p q ms few replays,
)
