use Rattle.std.specs.Prelude.{◌↔◌, ◌+◌, ◌*◌, ◌≤◌, drop, map}
use Rattle.spi_rules.specs.Deriv.{rule_use, AreTrees, IsTree}
use Rattle.spi_rules.proofs.deriv.is_tree.Given as goal

abbrev pub invariant-loop-u : goal.invariant-loop-u
invariant-loop-u l =
    (IsTree (map rule_use l.uses) ↔ AreTrees l.open (map rule_use (drop l.u-index l.uses))) × (l.open ≤ 1 + 3 * l.u-index)
