use Rattle.std.proofs.Common.{◌≡◌, map}
use Rattle.spi_term.specs.View.{message}
use Rattle.spi_know.specs.Sent.{names_up}
use Rattle.spi_commands.proofs.knows.sent_of.Given as goal

-- the names so far
abbrev pub invariant-loop-x : goal.invariant-loop-x
invariant-loop-x l = record {
  names : map message l.sent.items ≡ names_up l.x;
}
