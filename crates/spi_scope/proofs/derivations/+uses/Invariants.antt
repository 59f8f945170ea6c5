use Rattle.std.proofs.Common.{◌≡◌, ◌++◌, drop, map}
use Rattle.spi_tree.specs.Trees.{derivs_of_list}
use Rattle.spi_tree.specs.Views.{deriv_of}
use Rattle.spi_rules.specs.Deriv.{rule_use}
use Rattle.spi_scope.specs.Parts.{all_uses_in, all_use_places}
use Rattle.spi_scope.specs.Points.{derivs_points}
use Rattle.spi_scope.specs.Gives.{run}
use Rattle.spi_scope.proofs.derivations.+uses.Given as goal

abbrev pub invariant-read_premises-loop-d : goal.invariant-read_premises-loop-d
invariant-read_premises-loop-d l =
    let rest = derivs_of_list (map deriv_of (drop l.d-index l.ds)) in
    let all = derivs_of_list (map deriv_of l.ds) in
    record {
      ran : run (derivs_points rest) l.count ≡ run (derivs_points all) l.count;
      uses : map rule_use l.uses.uses.items ++ all_uses_in rest ≡ map rule_use l.fn.uses.uses.items ++ all_uses_in all;
      placed : l.uses.places.items ++ all_use_places rest ≡ l.fn.uses.places.items ++ all_use_places all;
    }
