-- What it is for events to be paid, and for a process to be robustly safe.
use Rattle.std.specs.Prelude.{◌≡◌, ℕ, ◌+◌, ◌≤◌, if◌then◌else◌, List, [], ◌∷◌, ◌++◌, ⊤}
use Rattle.spi_run.specs.Opponent.{IsOpponent}
use Rattle.spi_run.specs.Reduction.{Configuration, Step, Event, begun, ended, ended_many, Runs}
use Rattle.spi_term.specs.Lists.{In}
use Rattle.spi_term.specs.Names.{ProcessOver}
use Rattle.spi_term.specs.Term.{Message, same_message, Process}

-- the begins, and the ends, of a label
abbrev pub begins_of : Message → List Event → ℕ
begins_of m [] = 0
begins_of m (begun l ∷ es) = (if same_message m l then 1 else 0) + begins_of m es
begins_of m (ended l ∷ es) = begins_of m es
begins_of m (ended_many l ∷ es) = begins_of m es

abbrev pub ends_of : Message → List Event → ℕ
ends_of m [] = 0
ends_of m (begun l ∷ es) = ends_of m es
ends_of m (ended l ∷ es) = (if same_message m l then 1 else 0) + ends_of m es
ends_of m (ended_many l ∷ es) = ends_of m es

-- every prefix has at most as many ends of a label as begins of it
abbrev pub Paid : List Event → Type 0
Paid events = (early late : List Event) (m : Message) → events ≡ early ++ late
    → ends_of m early ≤ begins_of m early

-- each endmany has an earlier begin of its label
abbrev pub PaidMany : List Event → Type 0
PaidMany events = (early late : List Event) (m : Message) → events ≡ early ++ ended_many m ∷ late
    → In (begun m) early

-- each process is over n names
abbrev pub AllOver : ℕ → List Process → Type 0
AllOver n [] = ⊤
AllOver n (p ∷ ps) = ProcessOver n p × AllOver n ps

-- the process beside an opponent, over n names
abbrev pub beside : ℕ → Process → Process → Configuration
beside n p o = record { names = n; places = p ∷ o ∷ [] }

-- beside every opponent, along every run, each end event has a begin event of its own
abbrev pub RobustlySafe : ℕ → Process → Type 0
RobustlySafe k p = (o : Process) (n : ℕ) (steps : List Step) (events : List Event) (c : Configuration)
    → IsOpponent o → k ≤ n → ProcessOver n p → ProcessOver n o → Runs (beside n p o) steps events c
    → Paid events

-- the same for endmany
abbrev pub RobustlySafeMany : ℕ → Process → Type 0
RobustlySafeMany k p = (o : Process) (n : ℕ) (steps : List Step) (events : List Event) (c : Configuration)
    → IsOpponent o → k ≤ n → ProcessOver n p → ProcessOver n o → Runs (beside n p o) steps events c
    → PaidMany events
