use Rattle.spi_know.specs.Numbered.{AreClauses}
use Rattle.spi_know.proofs.clauses.clauses_of.Given as goal

abbrev pub invariant-loop-j : goal.invariant-loop-j
invariant-loop-j l = AreClauses l.fn.store.messages l.j l.clauses.rules.items l.clauses.ways.items
