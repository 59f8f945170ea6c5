-- The forward pass: the uses so far lead from the root to what is still open.
use Rattle.std.specs.Prelude.{◌≡◌, ℕ, ◌≤◌, List, [], ◌∷◌, ◌++◌, Option, Some, None, take, reverse, length, slice_get}
use Rattle.spi_term.specs.Term.{Message, Ty, Process}
use Rattle.spi_term.specs.Spelling.{Shape}
use Rattle.spi_rules.specs.Environment.{Env}
use Rattle.spi_rules.specs.Derivations.{RuleUse}
use Rattle.spi_rules.specs.Deriv.{AreTrees}
use Rattle.spi_intern.specs.declared.store.Store.{Store}
use Rattle.spi_intern.specs.declared.messages.MsgId.{MsgId}
use Rattle.spi_intern.specs.declared.types.TyId.{TyId}
use Rattle.spi_intern.specs.Meaning.{Means}
use Rattle.spi_message.specs.Judging.{Numbered, Stands}
use Rattle.spi_audit.specs.declared.asked.Binding.{Binding}
use Rattle.spi_audit.specs.declared.asked.Asked.{Asked}
use Rattle.spi_audit.specs.declared.asked.Asked.TheVariants as A
use Rattle.spi_count.specs.declared.keys.Keys.{Keys}
use Rattle.spi_audit.specs.declared.notes.Note.{Note}
use Rattle.spi_audit.specs.Fits.{Subject, of_message, of_process, Fits}
use Rattle.spi_audit.specs.declared.notes.Note.TheVariants as N
use Rattle.spi_audit.specs.declared.walking.Fit.{Fit}
use Rattle.spi_audit.specs.declared.walking.Walk.{Walk}
use Rattle.spi_audit.specs.declared.walking.Walk.TheVariants as W
use Rattle.spi_audit.specs.Audit.{MisfitAt}
use Rattle.spi_audit.specs.Asked.{listed, Bound, Located, IsTypeAsked, AreAsked, AreOpen}
use Rattle.spi_audit.specs.Changes.{Change, change_of}
use Rattle.spi_audit.specs.Notes.{NotedAs, AreNoted, IsSmallNote, AreSmallNotes}

-- each use fits, and these are the changes that they make
pub data Trace : List Subject → List RuleUse → List Change → Type 0 where
  trace_none : Trace [] [] []
  trace_use : {u : RuleUse} {s : Subject} {ps ss : List Subject} {us : List RuleUse} {cs : List Change}
      → Fits u s ps → Trace (ps ++ ss) us cs → Trace (s ∷ ss) (u ∷ us) (change_of u s ∷ cs)

-- each use fits, and the last subjects are still open behind them
pub data Led : List Subject → List RuleUse → List Change → List Subject → Type 0 where
  led_none : {ss : List Subject} → Led ss [] [] ss
  led_use : {u : RuleUse} {s : Subject} {ps ss ts : List Subject} {us : List RuleUse} {cs : List Change}
      → Fits u s ps → Led (ps ++ ss) us cs ts → Led (s ∷ ss) (u ∷ us) (change_of u s ∷ cs) ts

-- Processes that are still open. Each has the first names of env, at most n of them and at least `base`, and some more; one that
-- comes later has no more of them.
pub data Later (s : Store) (ss : List Shape) (base : ℕ) : ℕ → Env → List Asked → List Subject → Type 0 where
  later_none : {n : ℕ} {env : Env} → Later s ss base n env [] []
  later_next : {n node scope : ℕ} {names : Binding} {env types e : Env} {p : Process} {others : List Asked}
      {ts : List Subject}
      → base ≤ scope → scope ≤ n → scope ≤ 300000 → Bound s names types → e ≡ take scope env ++ types
      → Located ss node e p → Later s ss base scope env others ts
      → Later s ss base n env (A.Process node scope names ∷ others) (of_process e p ∷ ts)

-- messages in env, and then processes
pub data Opens (s : Store) (ss : List Shape) (base : ℕ) (env : Env) : List Asked → List Subject → Type 0 where
  opens_message : {a : Asked} {m : Message} {t : Ty} {others : List Asked} {ts : List Subject}
      → IsTypeAsked s a m t → Opens s ss base env others ts
      → Opens s ss base env (a ∷ others) (of_message env m t ∷ ts)
  opens_later : {others : List Asked} {ts : List Subject} → Later s ss base (length env) env others ts
      → Opens s ss base env others ts

-- an environment that the judge stands for, and what is asked, the next at the end
pub record IsWalkState (j : Numbered) (ss : List Shape) (asked : List Asked) (ts : List Subject) : Type 0
  where
    pub env : Env
    pub stands : Stands j env
    pub enough : j.free ≤ length env
    pub opens : Opens j.store ss j.free env (reverse asked) ts

-- the first uses fit, with what is kept of them
pub record IsLed (j : Numbered) (ks : Keys) (ss : List Shape) (root : Subject) (us vs : List RuleUse)
    (asked : List Asked) (os : List Note) : Type 0 where
  pub subjects : List Subject
  pub state : IsWalkState j ss asked subjects
  pub changes : List Change
  pub led : Led (root ∷ []) us changes subjects
  pub noted : AreNoted j.store ks changes os
  pub trees : AreTrees (length subjects) vs

-- some more names are bound
pub record Settles (old new : Numbered) (names : Binding) (f : Env → Env) : Type 0 where
  pub at : (e types : Env) → Stands old e → Bound old.store names types → Stands new (f e ++ types)

-- the process of a node is asked
pub record IsPlaced (j : Numbered) (ss : List Shape) (i : ℕ) : Type 0 where
  pub env : Env
  pub process : Process
  pub stands : Stands j env
  pub located : Located ss i env process

-- a use that fits, with its premises and what is kept of it
abbrev pub UseFitsIn : Store → Keys → List Shape → Env → RuleUse → Subject → Option Fit → Type 0
UseFitsIn s ks ss e u t None = (ps : List Subject) → Fits u t ps → ⊥
UseFitsIn s ks ss e u t (Some f) = (ps : List Subject) × Fits u t ps × AreOpen s ss e (listed f.premises) ps
    × NotedAs s ks (change_of u t) f.note

abbrev pub FitsMessageIn : Store → Env → RuleUse → Message → Ty → Option Fit → Type 0
FitsMessageIn s e u m t None = (ps : List Subject) → Fits u (of_message e m t) ps → ⊥
FitsMessageIn s e u m t (Some f) = (ps : List Subject) × Fits u (of_message e m t) ps
    × AreAsked s e (listed f.premises) ps × (f.note ≡ N.Nothing)

pub record FitsMessage (old new : Numbered) (u : RuleUse) (id : MsgId) (t : TyId) (r : Option Fit) : Type 0
  where
    pub at : (e : Env) (m : Message) (v : Ty) → Stands old e → slice_get old.store.messages id.place ≡ Some m
        → Means old.store t.place v → FitsMessageIn new.store e u m v r

pub record FitsNode (old new : Numbered) (ks : Keys) (ss : List Shape) (u : RuleUse) (i : ℕ)
    (r : Option Fit) : Type 0 where
  pub at : (e : Env) (p : Process) → Stands old e → Located ss i e p
      → UseFitsIn new.store ks ss e u (of_process e p) r

-- what is asked next, in some reading of the numbers
pub record IsOpen (j : Numbered) (ss : List Shape) (next : Asked) : Type 0 where
  pub env : Env
  pub others : List Asked
  pub subjects : List Subject
  pub stands : Stands j env
  pub opens : Opens j.store ss j.free env (next ∷ others) subjects

-- a use is held against what is asked next
abbrev pub StepsTo : Numbered → Keys → List Shape → RuleUse → List Asked → List Subject → Option Fit → Type 0
StepsTo j ks ss u others [] r = ⊥
StepsTo j ks ss u others (t ∷ ts) None = (ps : List Subject) → Fits u t ps → ⊥
StepsTo j ks ss u others (t ∷ ts) (Some f) =
    (env : Env) × (ps : List Subject) × Fits u t ps × Stands j env × (j.free ≤ length env)
    × Opens j.store ss j.free env (listed f.premises ++ others) (ps ++ ts)
    × NotedAs j.store ks (change_of u t) f.note × IsSmallNote f.note

pub record FitsNext (old new : Numbered) (ks : Keys) (ss : List Shape) (u : RuleUse) (next : Asked)
    (r : Option Fit) : Type 0 where
  pub at : (e : Env) (others : List Asked) (ts : List Subject) → Stands old e → old.free ≤ length e
      → Opens old.store ss old.free e (next ∷ others) ts → StepsTo new ks ss u others ts r

abbrev pub Misfits : RuleUse → List Subject → Type 0
Misfits u [] = ⊥
Misfits u (t ∷ ts) = (ps : List Subject) → Fits u t ps → ⊥

-- a use that fits is taken
abbrev pub Steps : Numbered → Keys → List Shape → RuleUse → List Asked → List Subject → Note → Type 0
Steps j ks ss u asked [] o = ⊥
Steps j ks ss u asked (t ∷ ts) o = (ps : List Subject) × Fits u t ps × IsWalkState j ss asked (ps ++ ts)
    × NotedAs j.store ks (change_of u t) o

-- what the pass finds of all uses
abbrev pub IsWalked : Store → Keys → Subject → List RuleUse → Walk → Type 0
IsWalked s ks root us (W.Misfit i) = MisfitAt (root ∷ []) us i
IsWalked s ks root us (W.Fitting notes) = (cs : List Change) × Trace (root ∷ []) us cs
    × AreNoted s ks cs notes.items × AreSmallNotes notes.items × (length notes.items ≡ length us)
