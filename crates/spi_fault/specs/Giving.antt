-- What the calls give that make checks. No public clause names it.
use Rattle.std.specs.Prelude.{◌≡◌, List, map, Result, IfOk}
use Rattle.std.specs.Global.{Vec}
use Rattle.spi_fault.specs.declared.check.Check as Declared
use Rattle.spi_fault.specs.Checks as C
use Rattle.spi_fault.specs.Trying.{check}

-- this check, unless memory runs out
abbrev pub GivesCheck : {E : Type 0} → Result Declared.Check E → C.Check → Type 0
GivesCheck r c = IfOk r (λ x. check x ≡ c)

-- these checks, unless memory runs out
abbrev pub GivesAll : {E : Type 0} → Result (Vec Declared.Check) E → List C.Check → Type 0
GivesAll r cs = IfOk r (λ v. map check v.items ≡ cs)
