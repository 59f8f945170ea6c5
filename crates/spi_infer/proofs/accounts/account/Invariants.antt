use Rattle.std.proofs.Common.{◌≡◌, ◌≤◌, [], drop}
use Rattle.spi_term.specs.Spelling.{spelled}
use Rattle.spi_rules.specs.Environment.{Env}
use Rattle.spi_infer.specs.Passes.{scan, run_notes, first_stuck}
use Rattle.spi_infer.specs.Accounts.{Tops, IsNoted}
use Rattle.spi_infer.proofs.accounts.account.Given as goal

abbrev pub invariant-loop-id : goal.invariant-loop-id
invariant-loop-id l = record {
  within : l.from ≤ l.id;
  stack_is : (env : Env) → IsNoted l.store l.noted l.process.names l.process.process env → Tops l.store l.noted.keys l.stack.items (run_notes (drop l.id (spelled l.process.names l.process.process)) (drop l.id (scan 0 env [] (spelled l.process.names l.process.process))));
  stuck_is : (env : Env) → IsNoted l.store l.noted l.process.names l.process.process env → l.stuck ≡ first_stuck l.id (drop l.id (spelled l.process.names l.process.process)) (drop l.id (scan 0 env [] (spelled l.process.names l.process.process)));
}
