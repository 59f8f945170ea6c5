use Rattle.std.proofs.Common.{rules}
use Rattle.std.proofs.lemmas.List.Sorted.{IsPermutation-map}
use Rattle.spi_term.specs.View.{atom}
use Rattle.spi_term.proofs.Lookup.{sort_order}
use Rattle.spi_term.proofs.sorted.sort_atoms.Goals as goal

pub returns-clause-same : goal.returns-clause-same
returns-clause-same c = IsPermutation-map (λ r. atom r.now) _ _ c.sort_unstable_by.ensures.permutation

pub returns-clause-order : goal.returns-clause-order
returns-clause-order c = sort_order c.sort_unstable_by.new.self c.sort_unstable_by.ensures.sorted (λ a r f' k. search rules)
