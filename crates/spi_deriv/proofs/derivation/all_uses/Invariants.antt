use Rattle.std.proofs.Common.{[], map}
use Rattle.spi_term.specs.Spelling.{numbered, spelled}
use Rattle.spi_rules.specs.Environment.{untrusted}
use Rattle.spi_rules.specs.Deriv.{rule_use}
use Rattle.spi_deriv.specs.Agenda.{types_of, top_types}
use Rattle.spi_deriv.specs.Uses.{process_uses}
use Rattle.spi_deriv.proofs.Passing.{PassesNodes}
use Rattle.spi_deriv.proofs.derivation.all_uses.Given as goal

abbrev pub invariant-loop-id : goal.invariant-loop-id
invariant-loop-id l =
    PassesNodes (spelled l.process.names l.process.process) (process_uses (numbered [] l.process.names l.process.process) (untrusted l.process.names)) l.id (types_of l.types.items) (top_types l.pending.items) (map rule_use l.out.items)
