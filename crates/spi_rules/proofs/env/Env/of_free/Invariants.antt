use Rattle.std.proofs.Common.{◌≡◌, map}
use Rattle.spi_term.specs.View.{ty}
use Rattle.spi_rules.specs.Environment.{untrusted}
use Rattle.spi_rules.proofs.env.Env.of_free.Given as goal

abbrev pub invariant-loop-name : goal.invariant-loop-name
invariant-loop-name l = map ty l.types.items ≡ untrusted l.name
