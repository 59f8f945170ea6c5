-- What a pool's fields stand for, and what holds of them.
use Rattle.std.specs.Prelude.{◌≡◌, ℕ, ◌+◌, ◌<◌, if◌then◌else◌, List, [], ◌∷◌, ◌++◌, map, length, Some, slice_get}
use Rattle.spi_term.specs.Term.{Message, Process}
use Rattle.spi_term.specs.Substitution.{replace}
use Rattle.spi_term.specs.Names.{MessageOver, OfLeaf, OfPrefix, OfFork, ProcessOver}
use Rattle.spi_term.specs.Spelling.{Shape, leaf_at, prefix_at, fork_at, Spelling, spelled}
use Rattle.spi_term.specs.Arena.{scope_of}
use Rattle.spi_intern.specs.declared.messages.MsgId.{MsgId}
use Rattle.spi_replay.specs.declared.names.Link.{Link}
use Rattle.spi_replay.specs.declared.names.Scope.{Scope}
use Rattle.spi_replay.specs.declared.places.Place.{Place}
use Rattle.spi_replay.specs.declared.waits.Wait.{Wait}
use Rattle.spi_replay.specs.Holding.{value, held_at, place_process, AllClosed, Chain}
use Rattle.spi_replay.specs.Moves.{Move, stays, move_of, Numbers, Waits}

-- a name is bound so many names before the one of a link
pub record HasLink (ls : List Link) (last steps : ℕ) : Type 0 where
  pub messages : List Message
  pub values : List Message
  pub linked : Chain messages ls last values
  pub within : steps < length values

pub record IsValueAt (ls : List Link) (last steps : ℕ) (id : MsgId) : Type 0 where
  pub at : (ms vs : List Message) (m : Message) → Chain ms ls last vs → slice_get vs steps ≡ Some m
      → Numbers ms id m

-- a message for each name of a scope
pub record InScopeOf (ms : List Message) (ls : List Link) (sc : Scope) (vs : List Message) : Type 0 where
  pub linked : Chain ms ls sc.last vs
  pub bound : length vs ≡ sc.bound

pub record HasNames (ms : List Message) (ls : List Link) (sc : Scope) : Type 0 where
  pub values : List Message
  pub stand : InScopeOf ms ls sc values

-- the number is that of a message, with the messages for its names
pub record IsInstance (old new : List Message) (ls : List Link) (sc : Scope) (m : Message) (id : MsgId) : Type
    0 where
  pub at : (vs : List Message) → InScopeOf old ls sc vs → Numbers new id (replace (value sc.free vs) m)

-- what is waited for is what f says, with the messages for the names
pub record WaitsFor (old new : List Message) (ls : List Link) (sc : Scope) (f : (ℕ → Message) → Move)
    (w : Wait) : Type 0 where
  pub at : (vs : List Message) → InScopeOf old ls sc vs → Waits new w (f (value sc.free vs))

-- each name at a node is below n
abbrev pub AreBelow : ℕ → Shape → Type 0
AreBelow n (leaf_at s l) = OfLeaf (MessageOver n) 0 l
AreBelow n (prefix_at s t i) = OfPrefix (MessageOver n) 0 t
AreBelow n (fork_at s f i j) = OfFork (MessageOver n) 0 f

-- a node of a process, with messages for the names bound above it
pub record Enters (ms : List Message) (ls : List Link) (sp : Spelling) (node last : ℕ)
    (vs : List Message) : Type 0 where
  pub over : ProcessOver sp.names sp.process
  pub linked : Chain ms ls last vs
  pub closed : AllClosed vs
  pub shape : Shape
  pub there : slice_get (spelled sp.names sp.process) node ≡ Some shape
  pub scope : scope_of shape ≡ sp.names + length vs

pub record CanEnter (ms : List Message) (ls : List Link) (sp : Spelling) (node last : ℕ) : Type 0 where
  pub values : List Message
  pub enters : Enters ms ls sp node last values

-- what holds of a place
pub record IsPlace (ms : List Message) (ls : List Link) (p : Place) : Type 0 where
  pub values : List Message
  pub enters : Enters ms ls p.source.now p.node p.last values
  pub bound : length values ≡ p.bound
  pub waits : Waits ms p.wait
      (if p.done then stays else move_of (value p.source.now.names values) enters.shape)

-- the place stands at a node
pub record StandsAt (ms : List Message) (ls : List Link) (sp : Spelling) (node : ℕ) (vs : List Message)
    (p : Place) : Type 0 where
  pub is : IsPlace ms ls p
  pub process : place_process ms ls p ≡ held_at sp.names vs (spelled sp.names sp.process) node

pub record HasEntered (old new : List Message) (ls : List Link) (sp : Spelling) (node last : ℕ)
    (p : Place) : Type 0 where
  pub at : (vs : List Message) → Enters old ls sp node last vs → StandsAt new ls sp node vs p

-- each place of a list is one
pub record ArePlaces (ms : List Message) (ls : List Link) (ps : List Place) : Type 0 where
  pub each : (i : ℕ) (p : Place) → slice_get ps i ≡ Some p → IsPlace ms ls p

abbrev pub processes : List Message → List Link → List Place → List Process
processes ms ls ps = map (place_process ms ls) ps

-- a node of a process, with more messages for the names that its form binds
pub record Binds (ms : List Message) (ls : List Link) (sp : Spelling) (node last : ℕ)
    (vs more : List Message) : Type 0 where
  pub over : ProcessOver sp.names sp.process
  pub linked : Chain ms ls last vs
  pub closed : AllClosed (more ++ vs)
  pub shape : Shape
  pub there : slice_get (spelled sp.names sp.process) node ≡ Some shape
  pub scope : scope_of shape ≡ sp.names + length (more ++ vs)

pub record CanBind (ms : List Message) (ls : List Link) (sp : Spelling) (node last : ℕ) (value : MsgId) : Type
    0 where
  pub values : List Message
  pub message : Message
  pub number : Numbers ms value message
  pub binds : Binds ms ls sp node last values (message ∷ [])

pub record HasBound (old new : List Message) (ls ls' : List Link) (sp : Spelling) (node last : ℕ)
    (value : MsgId) (p : Place) : Type 0 where
  pub at : (vs : List Message) (m : Message) → Numbers old value m → Binds old ls sp node last vs (m ∷ [])
      → StandsAt new ls' sp node (m ∷ vs) p

pub record CanBindTwo (ms : List Message) (ls : List Link) (sp : Spelling) (node last : ℕ)
    (first second : MsgId) : Type 0 where
  pub values : List Message
  pub message : Message
  pub other : Message
  pub number : Numbers ms first message
  pub other_number : Numbers ms second other
  pub binds : Binds ms ls sp node last values (other ∷ (message ∷ []))

pub record HasBoundTwo (old new : List Message) (ls ls' : List Link) (sp : Spelling) (node last : ℕ)
    (first second : MsgId) (p : Place) : Type 0 where
  pub at : (vs : List Message) (m n : Message) → Numbers old first m → Numbers old second n
      → Binds old ls sp node last vs (n ∷ (m ∷ [])) → StandsAt new ls' sp node (n ∷ (m ∷ vs)) p
