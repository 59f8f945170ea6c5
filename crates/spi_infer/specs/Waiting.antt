-- Types that wait for the second processes of cases, by their numbers. The stack grows at its end.
use Rattle.std.specs.Prelude.{◌≡◌, ℕ, ◌-◌, ◌<◌, ◌≤◌, false, eqb, if◌then◌else◌, List, [], ◌∷◌, reverse, Some, ⊤}
use Rattle.spi_term.specs.Term.{Ty}
use Rattle.spi_term.specs.Spelling.{Shape}
use Rattle.spi_term.specs.Arena.{scope_at}
use Rattle.spi_intern.specs.Meaning.{Means}
use Rattle.spi_intern.specs.declared.store.Store.{Store}
use Rattle.spi_intern.specs.declared.types.TyId.{TyId}
use Rattle.spi_infer.specs.declared.waiting.Pending.{Pending}
use Rattle.spi_infer.specs.Passes.{Wait, wait}

-- what each type that waits stands for, the last first
pub data AreWaiting (s : Store) : List Pending → List Wait → Type 0 where
  waiting_none : AreWaiting s [] []
  waiting_next : {p : Pending} {u : Ty} {ps : List Pending} {ws : List Wait} → Means s p.ty.place u
      → AreWaiting s ps ws → AreWaiting s (p ∷ ps) (wait p.at u ∷ ws)

abbrev pub Queued : Store → List Pending → List Wait → Type 0
Queued s ps ws = AreWaiting s (reverse ps) ws

-- the last type, which waits for place i, is taken
pub record IsDue (i : ℕ) (old new : List Pending) (t : TyId) : Type 0 where
  pub last : Pending
  pub at : last.at ≡ i
  pub ty : last.ty ≡ t
  pub items : reverse old ≡ last ∷ reverse new

-- the last type doesn't wait for place i
abbrev pub IsNotDue : ℕ → List Pending → Type 0
IsNotDue i [] = ⊤
IsNotDue i (p ∷ ps) = eqb p.at i ≡ false

-- the names in scope at place i, of which there are k, begin with those up to base
abbrev pub ReachesUpTo : ℕ → ℕ → ℕ → List Wait → Type 0
ReachesUpTo base i k [] = base ≤ k
ReachesUpTo base i k (wait r u ∷ ws) = base ≤ (if eqb r i then k - 1 else k)

pub record CanReach (base i k : ℕ) (s : Store) (ps : List Pending) : Type 0 where
  pub waits : List Wait
  pub queued : Queued s ps waits
  pub reaches : ReachesUpTo base i k waits

-- each type that waits is for a place with one more name than base at least
abbrev pub AreLater : List Shape → ℕ → List Wait → Type 0
AreLater ss base [] = ⊤
AreLater ss base (wait r u ∷ ws) = ((k : ℕ) × (scope_at ss r ≡ Some k) × (base < k)) × AreLater ss base ws
