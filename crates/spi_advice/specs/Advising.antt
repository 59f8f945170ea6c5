-- What an explanation is.
use Rattle.std.specs.Prelude.{◌≡◌, ℕ, List, ◌++◌, Option, Some, None}
use Rattle.spi_commands.specs.Checking.{ChecksTo}
use Rattle.spi_commands.specs.declared.status.Status.{Status}
use Rattle.spi_commands.specs.declared.status.Status.TheVariants.{Yes, No}
use Rattle.spi_fault.specs.declared.fault.Fault.{Fault}

-- the status is the one that `check` answers to the bytes, and the output begins with the line that `check` writes
abbrev pub Advises : List ℕ → Status → List ℕ → Type 0
Advises bytes status output =
    (line rest : List ℕ) × ChecksTo bytes status line × (output ≡ line ++ rest)

-- the answer to a process with this fault, or with none
abbrev pub verdict : Option Fault → Status
verdict None = Yes
verdict (Some f) = No
