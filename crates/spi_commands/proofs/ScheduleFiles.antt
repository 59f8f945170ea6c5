-- What the schedule of a file runs through to.
use Rattle.std.proofs.Common.{◌≡◌, ◌⊎◌, inl, inr, ℕ, List, [], Option, None, Some, sym, ◌∙◌, subst}
use Rattle.spi_tree.specs.Trees as t
use Rattle.spi_scope.specs.StandsFor.{Meant}
use Rattle.spi_term.specs.Spelling.{Spelling, spelled}
use Rattle.spi_term.specs.Term.{Message}
use Rattle.spi_run.specs.Opponent.{IsOpponent}
use Rattle.spi_run.specs.Reduction.{Step, Event}
use Rattle.spi_opponent.specs.Allowed.{IsFirstOffence}
use Rattle.spi_opponent.proofs.Nodes.{allowed_of, get_all}
use Rattle.spi_replay.specs.Stepping.{Pooled, places_most}
use Rattle.spi_commands.specs.Spelled.{SpellsFile, SpellsNone}
use Rattle.spi_commands.specs.Replays.{ReplaysWithTalks, RunsThrough, IsUnplayed, no_opponent_part, no_schedule, no_opponent, no_step, SpellsUnplayed, RefusesReplay, IsStepRefusal, step_refused}
use Rattle.spi_commands.specs.Beside.{replay_pool, HasOpponent, IsOffence, HasOffence, offence}
use Rattle.spi_commands.proofs.FileFacts.{RefusedNone}
use Rattle.spi_commands.proofs.ScheduleSteps.{replays_once, never_refused}

-- an opponent, or a schedule, that is given twice
pub same_some : {A : Type 0} {x y : A} {o : Option A} → o ≡ Some x → o ≡ Some y → x ≡ y
same_some {x = x} {y = y} e f = let g : Some x ≡ Some y = sym e ∙ f in cc

pub never_none : {A : Type 0} {x : A} {o : Option A} → o ≡ Some x → o ≡ None → ⊥
never_none {A} {x = x} e f = absurd (let g : Some x ≡ None = sym e ∙ f in cc)

-- the same steps beside the same opponent
from_same : (file : Meant) (o u : Spelling) (ss ts : List Step) (es : List Event) (ms : List Message) (q : Pooled) → o ≡ u → ss ≡ ts → ReplaysWithTalks (replay_pool places_most file o) ss es ms q → ReplaysWithTalks (replay_pool places_most file u) ts es ms q
from_same file o u ss ts es ms q e f h =
    subst (λ (l : List Step). ReplaysWithTalks (replay_pool places_most file u) l es ms q) f (subst (λ (s : Spelling). ReplaysWithTalks (replay_pool places_most file s) ss es ms q) e h)

module _ (file : Meant) (es fs : List Event) (a : RunsThrough file es) (b : RunsThrough file fs) where
  same_run : (es ≡ fs) × (a.talks ≡ b.talks) × (a.last ≡ b.last)
  same_run = replays_once (from_same file a.opponent b.opponent a.steps b.steps es a.talks a.last (same_some a.beside.0 b.beside.0) (same_some a.schedule b.schedule) a.replays) b.replays

  pub runs_once : es ≡ fs
  runs_once = same_run.0

  pub talks_once : a.talks ≡ b.talks
  talks_once = same_run.1

  pub last_once : a.last ≡ b.last
  last_once = same_run.2

-- what runs through isn't refused
pub never_unplayed : (file : Meant) (events : List Event) → RunsThrough file events → IsUnplayed file → ⊥
never_unplayed file events a (no_opponent_part e) = never_none a.beside.0 e
never_unplayed file events a (no_schedule e) = never_none a.schedule e
never_unplayed file events a (no_opponent {o = o} e none) =
    none (subst (λ (s : Spelling). IsOpponent s.process) (same_some a.beside.0 e) a.beside.1)
never_unplayed file events a (no_step {o = o} {steps = steps} has is refused) =
    never_refused (from_same file a.opponent o a.steps steps events a.talks a.last (same_some a.beside.0 has.0) (same_some a.schedule is) a.replays) refused

-- a process with an offence is no opponent
no_first : (o : Spelling) (node : ℕ) → IsFirstOffence (spelled o.names o.process) node → ¬ IsOpponent o.process
no_first o node first opponent = first.offends (get_all (spelled o.names o.process) node first.shape first.there (allowed_of o.process [] 0 o.names opponent))

offence_none : {tree : t.File} {o : Spelling} {number : ℕ} {offset : Option ℕ} {shown : List ℕ} → IsOffence tree o number offset shown → ¬ IsOpponent o.process
offence_none {o = o} (offence {node = node} first) = no_first o node first

-- bytes with an offence spell a file whose opponent part is none
pub offends : {bytes : List ℕ} {number : ℕ} {offset : Option ℕ} {shown : List ℕ} → HasOffence bytes number offset shown → (file : Meant) × SpellsFile bytes file × ((o : Spelling) × (file.opponent ≡ Some o) × (¬ IsOpponent o.process))
offends (tree, file, o, is, stands, e, h) = (file, (tree, is, stands), (o, e, offence_none h))

-- why a file is refused
step_unplayed : {tree : t.File} {file : Meant} {o : Spelling} {steps : List Step} {number : ℕ} {offset : Option ℕ} {shown : List ℕ} → HasOpponent file o → file.schedule ≡ Some steps → IsStepRefusal tree (replay_pool places_most file o) steps number offset shown → IsUnplayed file
step_unplayed has e (step_refused refused) = no_step has e refused

pub unreplayed : (bytes : List ℕ) → RefusedNone → (number : ℕ) (offset : Option ℕ) (shown : List ℕ) → RefusesReplay bytes number offset shown → SpellsNone bytes ⊎ SpellsUnplayed bytes
unreplayed bytes none_of number offset shown (inl refuses) = inl (none_of bytes number offset shown refuses)
unreplayed bytes none_of number offset shown (inr (inl (f, spells, e, lack))) = inr (f, spells, no_opponent_part e)
unreplayed bytes none_of number offset shown (inr (inr (inl (f, o, spells, e, none, lack)))) = inr (f, spells, no_schedule none)
unreplayed bytes none_of number offset shown (inr (inr (inr (inl (h, there))))) =
    let (f, spells, (o, e, none)) = offends h in
    inr (f, spells, no_opponent e none)
unreplayed bytes none_of number offset shown (inr (inr (inr (inr (tree, f, o, steps, is, stands, has, e, h))))) =
    inr (f, (tree, is, stands), step_unplayed has e h)
