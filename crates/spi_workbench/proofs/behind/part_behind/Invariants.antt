use Rattle.std.proofs.Common.{◌≡◌, ◌++◌, map, drop}
use Rattle.spi_term.specs.Spelling.{spelled}
use Rattle.spi_term.specs.View.{shape_of}
use Rattle.spi_workbench.specs.Behind.{earlier}
use Rattle.spi_workbench.proofs.behind.part_behind.Given as goal

abbrev pub invariant-loop-id : goal.invariant-loop-id
invariant-loop-id l =
    let ss = spelled l.whole.names l.whole.process in
    map shape_of l.nodes.items ++ map (earlier l.news) (drop l.id ss) ≡ map (earlier l.news) (drop l.news ss)
