use Rattle.std.proofs.Common.{[], map, take}
use Rattle.spi_tree.specs.Views.{decl_of}
use Rattle.spi_scope.specs.Points.{all_names}
use Rattle.spi_honest.specs.Free.{NumbersSpellings}
use Rattle.spi_honest.proofs.free.FreeNames.of.Given as goal

abbrev pub invariant-loop-decl : goal.invariant-loop-decl
invariant-loop-decl l = NumbersSpellings l.names (all_names [] (map decl_of (take l.decl-index l.decls)))
