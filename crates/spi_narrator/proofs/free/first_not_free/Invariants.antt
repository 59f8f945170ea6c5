use Rattle.std.proofs.Common.{take, map}
use Rattle.spi_scope.specs.Scope.{Names}
use Rattle.spi_narrate.specs.Views.{line_of}
use Rattle.spi_honest.specs.Free.{NumbersSpellings}
use Rattle.spi_honest.specs.Roles.{HaveChannels}
use Rattle.spi_narrator.proofs.free.first_not_free.Given as goal

abbrev pub invariant-loop-line : goal.invariant-loop-line
invariant-loop-line l = (free : Names) → NumbersSpellings l.names free → HaveChannels free (map line_of (take l.line-index l.lines))
