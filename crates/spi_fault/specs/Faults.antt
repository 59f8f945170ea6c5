-- Why a process isn't derivable with the empty effect: the reason, the node, and what is shown.
use Rattle.std.specs.Prelude.{◌≡◌, ◌≢◌, ℕ, ◌+◌, ◌<◌, List, [], ◌∷◌, ◌++◌, Option, Some, None}
use Rattle.std.specs.Cmp.Lexicographic.{slice_cmp}
use Rattle.std.specs.Ordering.{nat_cmp}
use Rattle.std.specs.declared.cmp.Ordering.TheVariants.{Greater}
use Rattle.spi_rules.specs.Environment.{Env, untrusted}
use Rattle.spi_rules.specs.Derivations.{Derivable}
use Rattle.spi_rules.specs.Least.{Least}
use Rattle.spi_rules.specs.Blocking.{NodeOf, Blocks}
use Rattle.spi_term.specs.Lists.{In}
use Rattle.spi_term.specs.Term.{Message, Atom, Effect, Process}
use Rattle.spi_term.specs.View as View
use Rattle.spi_show.specs.Report.{reported_atom}
use Rattle.spi_fault.specs.declared.fault.Fault.{Fault}
use Rattle.spi_fault.specs.declared.fault.Shown.{Shown}
use Rattle.spi_fault.specs.declared.fault.Shown.TheVariants as S
use Rattle.spi_fault.specs.declared.fault.Reason.{Reason}
use Rattle.spi_fault.specs.declared.fault.Reason.TheVariants.{Unpaid}
use Rattle.spi_fault.specs.Checks as C
use Rattle.spi_fault.specs.Checks.{Check, checks, process_of, reason_of}
use Rattle.spi_fault.specs.Passing.{Passes, Spoils}

-- what a fault shows
pub data Thing : Type 0 where
  nothing : Thing
  the_message : Message → Thing
  the_atom : Atom → Thing

abbrev pub thing : Option Shown → Thing
thing None = nothing
thing (Some (S.Message m)) = the_message (View.message m)
thing (Some (S.Atom a)) = the_atom (View.atom a)

-- a fault, with the node in whose scope the shown term is read
pub record ToldFault : Type 0 where
  pub reason : Reason
  pub node : ℕ
  pub scope_of : ℕ
  pub shown : Thing

abbrev pub told : Fault → ToldFault
told f = record { reason = f.reason; node = f.node; scope_of = f.scope_of; shown = thing f.shown }

-- Of the atoms of this kind, one whose report form is least by its bytes, where names are spelled so.
pub record IsLeastText (spelled : List (List ℕ)) (Kind : Atom → Type 0) (a : Atom) : Type 0 where
  pub is : Kind a
  pub least : (b : Atom) → Kind b
      → slice_cmp nat_cmp (reported_atom spelled a) (reported_atom spelled b) ≢ Greater

-- what a check shows that asks about no effect: its message, and no type
abbrev pub subject_checked : Check → Thing
subject_checked (C.channel m) = the_message m
subject_checked (C.datum m) = the_message m
subject_checked (C.untrusted t) = nothing
subject_checked (C.good t) = nothing
subject_checked (C.scrutinee m s t u) = the_message m
subject_checked (C.sealed m) = the_message m
subject_checked (C.first m t) = the_message m
subject_checked (C.key_of m t) = the_message m
subject_checked (C.nonce_of m) = the_message m
subject_checked (C.label m) = the_message m
subject_checked (C.generative t) = nothing
subject_checked (C.castable t) = nothing
subject_checked (C.served i) = nothing
subject_checked (C.stays k i) = nothing
subject_checked (C.made i) = nothing

-- What is shown of a check that fails at node n, and in the scope of which node: its message in that of node n itself, or
-- an atom of an effect in that of the process that has the effect. `spelled` has the spellings of the names in scope at a
-- node.
pub data Shows (spelled : ℕ → List (List ℕ)) (n : ℕ) (env : Env) (p : Process) : Check → ℕ → Thing
    → Type 0 where
  shows_subject : {c : Check} → process_of c ≡ None → Shows spelled n env p c n (subject_checked c)
  shows_atom : {c : Check} {i : ℕ} {a : Atom}
      → process_of c ≡ Some i → IsLeastText (spelled (n + i)) (Spoils env p c) a
      → Shows spelled n env p c (n + i) (the_atom a)

-- the first of the checks that fails
pub record FailsFirst (env : Env) (p : Process) (c : Check) : Type 0 where
  pub before : List Check
  pub after : List Check
  pub all : checks p ≡ before ++ c ∷ after
  pub pass : (d : Check) → In d before → Passes env p d
  pub fails : Passes env p c → ⊥

-- the first node in preorder that blocks
pub record FirstBlocks (env : Env) (p : Process) (i : ℕ) : Type 0 where
  pub blocks : Blocks env p i
  pub first : (j : ℕ) → j < i → Blocks env p j → ⊥

-- The fault of a process over k untrusted names. Where it has a least effect, this isn't empty, and an atom of it is shown
-- at the root. Else the first of the checks of the first blocking node that fails is the reason.
pub data IsFault (spelled : ℕ → List (List ℕ)) (k : ℕ) (p : Process) : ToldFault → Type 0 where
  unpaid : {es : Effect} {a : Atom}
      → Least (untrusted k) p es → IsLeastText (spelled 0) (λ b. In b es) a
      → IsFault spelled k p (record { reason = Unpaid; node = 0; scope_of = 0; shown = the_atom a })
  fails : {n s : ℕ} {env : Env} {q : Process} {c : Check} {shown : Thing}
      → FirstBlocks (untrusted k) p n → NodeOf (untrusted k) p n env q → FailsFirst env q c
      → Shows spelled n env q c s shown
      → IsFault spelled k p (record { reason = reason_of c; node = n; scope_of = s; shown = shown })

-- the fault of an effect of the whole process that isn't empty: an atom of it is shown at the root
pub data IsUnpaid (spelled : ℕ → List (List ℕ)) (es : Effect) : ToldFault → Type 0 where
  unpaid_at_root : {a : Atom}
      → IsLeastText (spelled 0) (λ b. In b es) a
      → IsUnpaid spelled es (record { reason = Unpaid; node = 0; scope_of = 0; shown = the_atom a })

-- no fault for the empty effect, and else the fault of the effect
abbrev pub TellsUnpaid : (ℕ → List (List ℕ)) → Effect → Option Fault → Type 0
TellsUnpaid spelled es None = es ≡ []
TellsUnpaid spelled es (Some f) = IsUnpaid spelled es (told f)

-- no fault exactly for a process that is derivable with the empty effect, and else its fault
abbrev pub Explains : (ℕ → List (List ℕ)) → ℕ → Process → Option Fault → Type 0
Explains spelled k p None = Derivable (untrusted k) p []
Explains spelled k p (Some f) = IsFault spelled k p (told f)
