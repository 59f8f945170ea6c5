-- Replays of a schedule: two of them are the same, and none goes past a step that is refused.
use Rattle.std.proofs.Common.{◌≡◌, ◌⊎◌, inl, inr, refl, sym, ap, ◌∙◌, subst, subst₂, ℕ, suc, ◌+◌, ◌*◌, ◌<◌, ◌≤◌, Bool, true, List, [], ◌∷◌, ◌++◌, append_assoc, append-nil, length, map, take, drop, get_or, Option, Some, None, arith}
use Rattle.std.proofs.Math.Seq.{drop-cons}
use Rattle.std.proofs.lemmas.List.{length-map, length-take-le, map-append, take_all, take_more, take-append-drop}
use Rattle.std.specs.Prelude.{option_to_list}
use Rattle.spi_term.specs.Term.{Message}
use Rattle.spi_know.specs.Sent.{handed, handed_in}
use Rattle.spi_run.specs.declared.step.Step as program
use Rattle.spi_run.specs.declared.step.Event as declared
use Rattle.spi_run.specs.View.{step as step_of, event as event_of}
use Rattle.spi_term.specs.View.{message}
use Rattle.spi_commands.specs.declared.schedule.Talks.{Talks}
use Rattle.spi_run.specs.Reduction.{Step, Event, Runs, runs_none, runs_silent, runs_event}
use Rattle.spi_replay.proofs.Taken.{taken_once, taken_never, takes_names}
use Rattle.spi_replay.specs.declared.fault.StepFault.{StepFault}
use Rattle.spi_replay.specs.declared.fault.StepFault.TheVariants.{NoMemory as OutOfMemory}
use Rattle.spi_replay.specs.Stepping.{Pooled, RefusesPoolStep, IsTaken}
use Rattle.spi_commands.specs.Replays.{ReplaysWithTalks, replays_none, replays_step, IsRefusedAt}
use Rattle.spi_commands.specs.Ran.{AreTalks}

-- steps are taken in one way
from_same : {p q r : Pooled} {ss : List Step} {es : List Event} {ms : List Message} → p ≡ q → ReplaysWithTalks p ss es ms r → ReplaysWithTalks q ss es ms r
from_same {r = r} {ss = ss} {es = es} {ms = ms} e h = subst (λ (p : Pooled). ReplaysWithTalks p ss es ms r) e h

pub replays_once : {p q r : Pooled} {ss : List Step} {es fs : List Event} {ms ns : List Message} → ReplaysWithTalks p ss es ms q → ReplaysWithTalks p ss fs ns r → (es ≡ fs) × (ms ≡ ns) × (q ≡ r)
replays_once replays_none replays_none = (refl, refl, refl)
replays_once {p} (replays_step {s = s} {e = e} {es = es} t h) (replays_step {e = f} {es = fs} u k) =
    let (same, next) = taken_once t u in
    let (rest, heard, last) = replays_once h (from_same (sym next) k) in (
      ap (λ (o : Option Event). option_to_list o ++ es) same ∙ ap (λ (l : List Event). option_to_list f ++ l) rest,
      ap (λ (l : List Message). handed p.configuration s ++ l) heard,
      last,
    )

-- a replay takes each of its steps
step_taken : {p q r : Pooled} {early : List Step} {es fs : List Event} {ms ns : List Message} (late : List Step) (s : Step) → ReplaysWithTalks p early fs ns q → ReplaysWithTalks p (early ++ s ∷ late) es ms r → (e : Option Event) × (next : Pooled) × IsTaken q s e next
step_taken late s replays_none (replays_step {q = next} {e = e} t h) = (e, next, t)
step_taken late s (replays_step t h) (replays_step u k) =
    let (same, next) = taken_once t u in
    step_taken late s h (from_same (sym next) k)

-- and refuses none of them
pub never_refused : {p r : Pooled} {ss : List Step} {es : List Event} {ms : List Message} {i : ℕ} {f : StepFault} → ReplaysWithTalks p ss es ms r → IsRefusedAt p ss i f → ⊥
never_refused {p} {r} {es = es} {ms = ms} h at =
    let whole : ReplaysWithTalks p (at.early ++ at.step ∷ at.late) es ms r = subst (λ (l : List Step). ReplaysWithTalks p l es ms r) at.split h in
    let (e, next, taken) = step_taken at.late at.step at.replays whole in
    taken_never taken at.refuses

-- a replay is a run, in which its data are handed over
pub runs_of : {p q : Pooled} {ss : List Step} {es : List Event} {ms : List Message} → ReplaysWithTalks p ss es ms q → Runs p.configuration ss es q.configuration
runs_of replays_none = runs_none
runs_of (replays_step {e = None} t h) = runs_silent t.takes (runs_of h)
runs_of (replays_step {e = Some event} t h) = runs_event t.takes (runs_of h)

pub handed_over : {p q : Pooled} {ss : List Step} {es : List Event} {ms : List Message} (r : ReplaysWithTalks p ss es ms q) → handed_in (runs_of r) ≡ ms
unfolding runs_of
handed_over replays_none = refl
handed_over {p} (replays_step {s = s} {e = None} t h) = ap (λ (l : List Message). handed p.configuration s ++ l) (handed_over h)
handed_over {p} (replays_step {s = s} {e = Some event} t h) = ap (λ (l : List Message). handed p.configuration s ++ l) (handed_over h)

-- and it has at most one event for each step
pub few_events : {p q : Pooled} {ss : List Step} {es : List Event} {ms : List Message} → ReplaysWithTalks p ss es ms q → length es ≤ length ss
few_events replays_none = omega arith
few_events (replays_step {e = None} t h) = let few = few_events h in omega (arith, few)
few_events (replays_step {e = Some event} t h) = let few = few_events h in omega (arith, few)

-- a step more
pub append_step : {p q r : Pooled} {ss : List Step} {es : List Event} {ms : List Message} {s : Step} {e : Option Event} → ReplaysWithTalks p ss es ms q → IsTaken q s e r
    → ReplaysWithTalks p (ss ++ s ∷ []) (es ++ option_to_list e) (ms ++ handed q.configuration s) r
append_step {p} {r = r} {s = s} {e = e} replays_none t =
    subst₂ (λ (l : List Event) (ms : List Message). ReplaysWithTalks p (s ∷ []) l ms r) (append-nil (option_to_list e)) (append-nil (handed p.configuration s)) (replays_step t replays_none)
append_step {p} {q} {r = r} {s = s} {e = e} (replays_step {s = first} {e = shown} {ss = ss} {es = es} {ms = ms} u h) t =
    subst₂ (λ (l : List Event) (ns : List Message). ReplaysWithTalks p (first ∷ (ss ++ s ∷ [])) l ns r) (sym (append_assoc (option_to_list shown) es (option_to_list e)))
    (sym (append_assoc (handed p.configuration first) ms (handed q.configuration s))) (replays_step u (append_step h t))

-- how far a replay has come
pub record ReplayCame (first : Pooled) (i : ℕ) (steps : List program.Step) (events : List declared.Event) (talks : Talks) (keeps : Bool) (now : Pooled) : Type 0 where
  pub said : List Message
  pub replays : ReplaysWithTalks first (map step_of (take i steps)) (map event_of events) said now
  pub kept : keeps ≡ true → AreTalks said talks
  pub room : talks.nodes ≤ 1000 * i
  pub names : now.configuration.names ≤ first.configuration.names + i

pub came_none : (first : Pooled) (steps : List program.Step) (events : List declared.Event) (talks : Talks) (keeps : Bool) → events ≡ [] → talks.nodes ≡ 0 → talks.data.items ≡ [] → ReplayCame first 0 steps events talks keeps first
came_none first steps events talks keeps none nothing empty = record {
  said = [];
  replays = subst (λ (es : List declared.Event). ReplaysWithTalks first [] (map event_of es) [] first) (sym none) replays_none;
  kept = λ k. (nothing, λ few. ap (map message) empty);
  room = omega (arith, nothing);
  names = omega arith;
}

pub came_on : (first now next : Pooled) (i : ℕ) (steps : List program.Step) (events more : List declared.Event) (talks later : Talks) (keeps : Bool) (s d : program.Step) → i < length steps → s ≡ get_or steps i d → ReplayCame first i steps events talks keeps now
    → (e : Option Event) × IsTaken now (step_of s) e next × (map event_of more ≡ map event_of events ++ option_to_list e)
    → ((ms : List Message) → keeps ≡ true → AreTalks ms talks → AreTalks (ms ++ handed now.configuration (step_of s)) later) → later.nodes ≤ talks.nodes + 1000
    → ReplayCame first (i + 1) steps more later keeps next
came_on first now next i steps events more talks later keeps s d h is came (e, t, shown) kept room =
    let step : map step_of (take i steps) ++ step_of s ∷ [] ≡ map step_of (take (i + 1) steps) =
    ap (λ (x : program.Step). map step_of (take i steps) ++ step_of x ∷ []) is ∙ sym (ap (λ (l : List program.Step). map step_of l) (take_more steps i d h) ∙ map-append step_of (take i steps) (get_or steps i d ∷ []))
    in
    let ms : List Message = came.said ++ handed now.configuration (step_of s) in
    let whole : ReplaysWithTalks first (map step_of (take i steps) ++ step_of s ∷ []) (map event_of events ++ option_to_list e) ms next = append_step came.replays t in
    let few = takes_names t.takes in
    let less = came.names in
    let so_far = came.room in
    record {
      said = ms;
      replays = subst₂ (λ (l : List Step) (es : List Event). ReplaysWithTalks first l es ms next) step (sym shown) whole;
      kept = λ k. kept came.said k (came.kept k);
      room = omega (arith, room, so_far);
      names = omega (arith, few, less);
    }

pub came_all : (first now : Pooled) (i : ℕ) (steps : List program.Step) (events : List declared.Event) (talks : Talks) (keeps : Bool) (names : ℕ) → length steps ≤ i → ReplayCame first i steps events talks keeps now → names ≡ now.configuration.names
    → (ms : List Message) × ReplaysWithTalks first (map step_of steps) (map event_of events) ms now × (keeps ≡ true → AreTalks ms talks) × (names ≡ now.configuration.names)
came_all first now i steps events talks keeps names h came same =
    (came.said, subst (λ (l : List Step). ReplaysWithTalks first l (map event_of events) came.said now) (ap (λ (l : List program.Step). map step_of l) (take_all i steps h)) came.replays, came.kept, same)

pub stops_at : (first now : Pooled) (i : ℕ) (steps : List program.Step) (events : List declared.Event) (talks : Talks) (keeps : Bool) (s d : program.Step) (fault : StepFault) → i < length steps → s ≡ get_or steps i d → ReplayCame first i steps events talks keeps now → (fault ≡ OutOfMemory) ⊎ RefusesPoolStep now.configuration now.most (step_of s) fault → (fault ≡ OutOfMemory) ⊎ IsRefusedAt first (map step_of steps) i fault
stops_at first now i steps events talks keeps s d fault h is came (inl none) = inl none
stops_at first now i steps events talks keeps s d fault h is came (inr refuses) = inr (record {
  early = map step_of (take i steps);
  step = step_of s;
  late = map step_of (drop (suc i) steps);
  events = map event_of events;
  talks = came.said;
  mid = now;
  split =
      ap (λ (l : List program.Step). map step_of l) (sym (take-append-drop i steps) ∙ ap (λ (l : List program.Step). take i steps ++ l) (drop-cons steps i d h))
      ∙ map-append step_of (take i steps) (get_or steps i d ∷ drop (suc i) steps)
      ∙ ap (λ (x : program.Step). map step_of (take i steps) ++ step_of x ∷ map step_of (drop (suc i) steps)) (sym is);
  at = sym (length-map (take i steps) step_of ∙ length-take-le i steps (omega arith));
  replays = came.replays;
  refuses = refuses;
})
