use Rattle.std.proofs.Common.{◌≡◌, ◌++◌, map, take}
use Rattle.spi_tree.specs.Views.{deriv_of}
use Rattle.spi_tree.specs.Listed.{joined, deriv_list}
use Rattle.spi_tree.proofs.tokens.+derivations.Given as goal

abbrev pub invariant-put_premises-loop-premise : goal.invariant-put_premises-loop-premise
invariant-put_premises-loop-premise l = l.out.items ≡ l.fn.out.items ++ joined deriv_list (map deriv_of (take l.premise-index l.premises))
