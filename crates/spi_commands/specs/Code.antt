-- The status that the process ends with.
use Rattle.std.specs.Prelude.{ℕ}
use Rattle.spi_commands.specs.declared.status.Status.{Status}
use Rattle.spi_commands.specs.declared.status.Status.TheVariants.{Yes, No, Refused, ReadFault, WriteFault, NoMemory, Usage}

abbrev pub code_of : Status → ℕ
code_of Yes = 0
code_of No = 1
code_of Refused = 2
code_of ReadFault = 3
code_of WriteFault = 4
code_of NoMemory = 5
code_of Usage = 6
