use Rattle.std.proofs.Common.{take}
use Rattle.spi_scope.specs.Scope.{Names}
use Rattle.spi_scope.specs.Points.{with_free}
use Rattle.spi_honest.specs.Free.{NumbersSpellings}
use Rattle.spi_honest.proofs.free.bind_all.Given as goal

abbrev pub invariant-loop-word : goal.invariant-loop-word
invariant-loop-word l = (xs : Names) → NumbersSpellings l.fn.names xs → NumbersSpellings l.names (with_free xs (take l.word-index l.words))
