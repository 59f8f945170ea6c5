-- What holds of every pairing.
use Rattle.std.specs.Prelude.{◌≡◌, ◌↔◌, ℕ, ◌<◌, ◌⊎◌, List, Option, Some}
use Rattle.spi_term.specs.Lists.{At}
use Rattle.spi_term.specs.Term.{Message}
use Rattle.spi_run.specs.Reduction.{Event, begun, ended, ended_many}
use Rattle.spi_run.specs.Safety.{Paid, PaidMany}
use Rattle.spi_trace.specs.Pairing.{IsPairing, EndsPaired, ManysPaired}

-- events have one pairing
abbrev pub PairingIsOne : Type 0
PairingIsOne = (events : List Event) (is js : List (Option ℕ)) → IsPairing events is → IsPairing events js
    → is ≡ js

-- no begin pays for two ends
abbrev pub BeginsPayOnce : Type 0
BeginsPayOnce = (events : List Event) (is : List (Option ℕ)) (i j b : ℕ) (l m : Message) → IsPairing events is
    → At events i (ended l) → At events j (ended m) → At is i (Some b) → At is j (Some b) → i ≡ j

-- a begin comes before its end, or endmany, and has its label
abbrev pub BeginsComeBefore : Type 0
BeginsComeBefore = (events : List Event) (is : List (Option ℕ)) (i b : ℕ) (m : Message) → IsPairing events is
    → At events i (ended m) ⊎ At events i (ended_many m) → At is i (Some b) → (b < i) × At events b (begun m)

-- each end has a begin just where the events are paid
abbrev pub PairedIsPaid : Type 0
PairedIsPaid = (events : List Event) (is : List (Option ℕ)) → IsPairing events is
    → EndsPaired events is ↔ Paid events

abbrev pub PairedIsPaidMany : Type 0
PairedIsPaidMany = (events : List Event) (is : List (Option ℕ)) → IsPairing events is
    → ManysPaired events is ↔ PaidMany events
