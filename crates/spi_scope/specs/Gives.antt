-- The points taken one after another, with the running count: what the inner functions say. No public clause names it.
use Rattle.std.specs.Prelude.{◌≡◌, ◌⊎◌, ℕ, ◌+◌, ◌≤◌, Option, Some, None, Result, Ok, Err}
use Rattle.spi_term.specs.Spelling.{stopped}
use Rattle.spi_scope.specs.declared.fault.ScopeFault.{ScopeFault}
use Rattle.spi_scope.specs.declared.fault.ScopeFault.TheVariants as faults
use Rattle.spi_scope.specs.Points.{fault_at, added, Points, none, one, ◌⨾◌}

abbrev pub Ran : Type 0
Ran = Result ℕ ScopeFault

abbrev pub after : Ran → (ℕ → Ran) → Ran
after (Ok c) go = go c
after (Err f) go = Err f

abbrev pub unless : Option ScopeFault → ℕ → Ran
unless None c = Ok c
unless (Some f) c = Err f

abbrev pub run : Points → ℕ → Ran
run none c = Ok c
run (one p) c = unless (fault_at c p) (c + added p)
run (ps ⨾ qs) c = after (run ps c) (run qs)

-- a fault is the one that was run into, and out of memory may come at any time
abbrev pub FailsWith : {X : Type 0} → ScopeFault → Result X ScopeFault → Type 0
FailsWith e ran = (e ≡ faults.NoMemory) ⊎ (ran ≡ Err e)

-- what a function returned, seen by view, is what these points lead to and what is meant
abbrev pub GivesMeant : {X Y : Type 0} → (X → Y) → Result X ScopeFault → Ran → ℕ → Y → Type 0
GivesMeant view (Ok x) ran c meant = (ran ≡ Ok c) × (view x ≡ meant)
GivesMeant view (Err e) ran c meant = FailsWith e ran

-- the same of a term with its nodes counted on: the term is left out where there are more than 1,000
abbrev pub CountsOn : {X Y : Type 0} → (X → Y) → (Y → ℕ) → Result (X × ℕ) ScopeFault → Ran → ℕ → ℕ → Y
    → Type 0
CountsOn view nodes (Ok x) ran c spent meant = (ran ≡ Ok c) × (x.1 ≡ stopped (spent + nodes meant))
    × (x.1 ≤ 1000 → view x.0 ≡ meant)
CountsOn view nodes (Err e) ran c spent meant = FailsWith e ran
