use Rattle.std.proofs.Common.{◌-◌, ◌≤◌, length, map}
use Rattle.spi_term.specs.Term.{Process}
use Rattle.spi_rules.specs.Environment.{untrusted}
use Rattle.spi_rules.specs.Blocking.{NodeOf}
use Rattle.spi_fault.specs.Trying.{check}
use Rattle.spi_fault.proofs.Blaming.{PassTo}
use Rattle.spi_fault.proofs.explaining.first_failing.Given as goal

abbrev pub invariant-loop-i : goal.invariant-loop-i
invariant-loop-i l = record {
  within : l.i ≤ length l.checks;
  passed : (q : Process) → NodeOf (untrusted l.file.process.names) l.file.process.process l.node l.env q → PassTo l.env q (map check l.checks) l.i;
}

abbrev pub decreases-loop-i : goal.decreases-loop-i
decreases-loop-i l = length l.checks - l.i
