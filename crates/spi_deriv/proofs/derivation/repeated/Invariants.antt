use Rattle.std.proofs.Common.{◌≡◌, replicate}
use Rattle.spi_term.specs.View.{ty as type_of}
use Rattle.spi_deriv.specs.Agenda.{types_of}
use Rattle.spi_deriv.proofs.derivation.repeated.Given as goal

abbrev pub invariant-loop-name : goal.invariant-loop-name
invariant-loop-name l = types_of l.types.items ≡ replicate l.name (type_of l.t)
