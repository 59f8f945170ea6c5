use Rattle.spi_know.specs.Spelled.{AreLines}
use Rattle.spi_know.proofs.spelling.spell.Given as goal

abbrev pub invariant-loop-line : goal.invariant-loop-line
invariant-loop-line l = AreLines l.fn.store.messages l.fn.sent l.fn.ways l.fn.lines l.line-index l.cert.items
