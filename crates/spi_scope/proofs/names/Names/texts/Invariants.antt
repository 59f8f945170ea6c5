use Rattle.std.proofs.Common.{◌≡◌, ◌++◌, drop}
use Rattle.spi_scope.specs.Table.{spellings}
use Rattle.spi_scope.proofs.names.Names.texts.Given as goal

abbrev pub invariant-loop-held : goal.invariant-loop-held
invariant-loop-held l = l.texts.items ++ spellings (drop l.held-index l.held-items) ≡ spellings l.held-items
