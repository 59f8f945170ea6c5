-- A fault by the number of its token, among so many tokens.
use Rattle.std.specs.Prelude.{ℕ, ◌-◌}
use Rattle.spi_parse.specs.declared.fault.ParseFault.{ParseFault}
use Rattle.spi_parse.specs.declared.fault.ParseFault.TheVariants as faults
use Rattle.spi_parse.specs.declared.fault.Stop.{Stop}
use Rattle.spi_parse.specs.declared.fault.Stop.TheVariants as stops
use Rattle.spi_parse.specs.declared.fault.Fault.TheVariants as inner

abbrev pub fault_of_stop : ℕ → Stop → ParseFault
fault_of_stop n stops.NoMemory = faults.NoMemory
fault_of_stop n (stops.Fault (inner.Syntax left)) = faults.Syntax (n - left)
fault_of_stop n (stops.Fault (inner.TooDeep left)) = faults.TooDeep (n - left)
