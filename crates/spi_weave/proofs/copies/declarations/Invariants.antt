use Rattle.std.proofs.Common.{◌≡◌, map, take}
use Rattle.spi_tree.specs.Views.{decl_of}
use Rattle.spi_weave.proofs.copies.declarations.Given as goal

abbrev pub invariant-loop-d : goal.invariant-loop-d
invariant-loop-d l = map decl_of l.all.items ≡ map decl_of (take l.d-index l.ds)
