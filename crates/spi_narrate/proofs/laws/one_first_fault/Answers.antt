use Rattle.spi_narrate.specs.Faults.{items_of}
use Rattle.spi_narrate.proofs.Testing.{fault_once, fault_never}
use Rattle.spi_narrate.proofs.laws.one_first_fault.Goals as goal

pub returns-clause-one : goal.returns-clause-one
returns-clause-one c = λ x f g a b. fault_once (items_of x) f g a b

pub returns-clause-none : goal.returns-clause-none
returns-clause-none c = λ x f a b. fault_never (items_of x) f a b
