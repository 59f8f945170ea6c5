-- Where the points lead to, whatever a function returns besides.
use Rattle.std.specs.Prelude.{◌≡◌, ℕ, Result, Ok, Err}
use Rattle.spi_scope.specs.declared.fault.ScopeFault.{ScopeFault}
use Rattle.spi_scope.specs.Gives.{Ran, FailsWith}

abbrev pub LeadsTo : {X : Type 0} → Result X ScopeFault → Ran → ℕ → Type 0
LeadsTo (Ok x) ran c = ran ≡ Ok c
LeadsTo (Err e) ran c = FailsWith e ran
