-- How the checks of a node are tried: what the inner functions say. No public clause names it.
use Rattle.std.specs.Prelude.{◌≡◌, ◌≢◌, ℕ, ◌+◌, ◌<◌, ◌≤◌, ◌^◌, List, Option, Some, None, slice_get, ⊤}
use Rattle.std.specs.Cmp.Lexicographic.{slice_cmp}
use Rattle.std.specs.Ordering.{nat_cmp}
use Rattle.std.specs.declared.cmp.Ordering.TheVariants.{Greater}
use Rattle.std.specs.Global.{Vec}
use Rattle.spi_term.specs.Lists.{In}
use Rattle.spi_term.specs.Spelling.{ty_nodes}
use Rattle.spi_term.specs.Term.{Atom, Effect, Process}
use Rattle.spi_term.specs.View.{message, ty}
use Rattle.spi_effect.specs.Effect.{IsMany}
use Rattle.spi_rules.specs.Environment.{Env}
use Rattle.spi_rules.specs.Blocking.{Child}
use Rattle.spi_show.specs.Report.{reported_atom}
use Rattle.spi_fault.specs.declared.check.Check as Declared
use Rattle.spi_fault.specs.declared.check.Check.TheVariants as D
use Rattle.spi_fault.specs.declared.least.Kind.{Kind}
use Rattle.spi_fault.specs.declared.least.Kind.TheVariants as K
use Rattle.spi_fault.specs.declared.deciding.Found.{Found}
use Rattle.spi_fault.specs.declared.fault.Fault.{Fault}
use Rattle.spi_fault.specs.Checks as C
use Rattle.spi_fault.specs.Passing.{HasBoundName, Passes}
use Rattle.spi_fault.specs.Faults.{the_atom, thing, IsLeastText, Shows, FailsFirst}

-- the check that a value of the program means
abbrev pub check : Declared.Check → C.Check
check (D.Channel m) = C.channel (message m)
check (D.Datum m) = C.datum (message m)
check (D.Untrusted t) = C.untrusted (ty t)
check (D.Good t) = C.good (ty t)
check (D.Scrutinee m s t u) = C.scrutinee (message m) (ty s) (ty t) (ty u)
check (D.Sealed m) = C.sealed (message m)
check (D.First m t) = C.first (message m) (ty t)
check (D.KeyOf m t) = C.key_of (message m) (ty t)
check (D.NonceOf m) = C.nonce_of (message m)
check (D.Label m) = C.label (message m)
check (D.Generative t) = C.generative (ty t)
check (D.Castable t) = C.castable (ty t)
check (D.Served i) = C.served i
check (D.Stays k i) = C.stays k i
check (D.Made i) = C.made i

-- an atom of this kind
abbrev pub IsOf : Kind → Atom → Type 0
IsOf K.Any a = ⊤
IsOf K.NotMany a = IsMany a → ⊥
IsOf (K.Naming n k) a = HasBoundName n k a

-- The place among all atoms and the text of one that is of this kind and whose text is at most that of each of this kind in
-- a list, and none where no atom in it is of the kind.
abbrev pub IsBest : List (List ℕ) → (Atom → Type 0) → List Atom → List Atom → Option (ℕ × Vec ℕ) → Type 0
IsBest names P all es None = (b : Atom) → In b es → P b → ⊥
IsBest names P all es (Some (j, text)) =
    (a : Atom) × (slice_get all j ≡ Some a) × P a × (text.items ≡ reported_atom names a)
    × ((b : Atom) → In b es → P b
    → slice_cmp nat_cmp (reported_atom names a) (reported_atom names b) ≢ Greater)

-- the atom is of the kind, and its text comes before that of the best so far
abbrev pub IsBetter : List (List ℕ) → (Atom → Type 0) → Option (ℕ × Vec ℕ) → Atom → Type 0
IsBetter names P None a = P a
IsBetter names P (Some (j, text)) a = P a × (slice_cmp nat_cmp text.items (reported_atom names a) ≡ Greater)

abbrev pub tried_place : Option (ℕ × Vec ℕ) → Option ℕ
tried_place None = None
tried_place (Some (j, text)) = Some j

-- the same without the text
abbrev pub IsPlaceOfLeast : List (List ℕ) → (Atom → Type 0) → List Atom → Option ℕ → Type 0
IsPlaceOfLeast names P es None = (b : Atom) → In b es → P b → ⊥
IsPlaceOfLeast names P es (Some j) = (a : Atom) × (slice_get es j ≡ Some a)
    × IsLeastText names (λ b. In b es × P b) a

-- the names of the kind are numbers of 32 bits
abbrev pub CanBe : Kind → Type 0
CanBe K.Any = ⊤
CanBe K.NotMany = ⊤
CanBe (K.Naming n k) = n + k < 2 ^ 32

-- the process that a check speaks of is there
abbrev pub IsAskedOf : Env → Process → C.Check → Type 0
IsAskedOf env p (C.channel m) = ⊤
IsAskedOf env p (C.datum m) = ⊤
IsAskedOf env p (C.untrusted t) = ⊤
IsAskedOf env p (C.good t) = ⊤
IsAskedOf env p (C.scrutinee m s t u) = ⊤
IsAskedOf env p (C.sealed m) = ⊤
IsAskedOf env p (C.first m t) = ⊤
IsAskedOf env p (C.key_of m t) = ⊤
IsAskedOf env p (C.nonce_of m) = ⊤
IsAskedOf env p (C.label m) = ⊤
IsAskedOf env p (C.generative t) = ⊤
IsAskedOf env p (C.castable t) = ⊤
IsAskedOf env p (C.served i) = (e : Env) × (q : Process) × Child env p i e q
IsAskedOf env p (C.stays k i) = (e : Env) × (q : Process) × Child env p i e q
IsAskedOf env p (C.made i) = (e : Env) × (q : Process) × Child env p i e q

-- the nodes of a type that is asked about can be counted, where n names are in scope, and so can the names that a form binds
abbrev pub CanBeCounted : ℕ → C.Check → Type 0
CanBeCounted n (C.channel m) = ⊤
CanBeCounted n (C.datum m) = ⊤
CanBeCounted n (C.untrusted t) = ⊤
CanBeCounted n (C.good t) = n + ty_nodes t < 2 ^ 32
CanBeCounted n (C.scrutinee m s t u) = ⊤
CanBeCounted n (C.sealed m) = ⊤
CanBeCounted n (C.first m t) = ⊤
CanBeCounted n (C.key_of m t) = ⊤
CanBeCounted n (C.nonce_of m) = ⊤
CanBeCounted n (C.label m) = ⊤
CanBeCounted n (C.generative t) = ⊤
CanBeCounted n (C.castable t) = ⊤
CanBeCounted n (C.served i) = ⊤
CanBeCounted n (C.stays k i) = k ≤ 2
CanBeCounted n (C.made i) = ⊤

-- the check passes, or it fails and this is shown
abbrev pub TellsFailure : (ℕ → List (List ℕ)) → ℕ → Env → Process → C.Check → Option Found → Type 0
TellsFailure spelled n env p c None = Passes env p c
TellsFailure spelled n env p c (Some f) = (Passes env p c → ⊥)
    × Shows spelled n env p c f.scope_of (thing f.shown)

-- no atom of the effect is of the kind, or this one is shown, in the scope of node s
abbrev pub TellsAtom : (ℕ → List (List ℕ)) → ℕ → (Atom → Type 0) → Effect → Option Found → Type 0
TellsAtom spelled s P es None = (a : Atom) → In a es → P a → ⊥
TellsAtom spelled s P es (Some f) =
    (f.scope_of ≡ s)
    × ((a : Atom) × (thing f.shown ≡ the_atom a) × IsLeastText (spelled s) (λ b. In b es × P b) a)

-- each check passes, or the fault is that of the first which fails
abbrev pub IsBlamed : (ℕ → List (List ℕ)) → ℕ → Env → Process → Option Fault → Type 0
IsBlamed spelled n env q None = (d : C.Check) → In d (C.checks q) → Passes env q d
IsBlamed spelled n env q (Some f) =
    (c : C.Check) × FailsFirst env q c × Shows spelled n env q c f.scope_of (thing f.shown) × (f.node ≡ n)
    × (f.reason ≡ C.reason_of c)
