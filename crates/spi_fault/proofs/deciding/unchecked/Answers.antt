use Rattle.std.proofs.Common.{reverse}
use Rattle.spi_scope.specs.Chains.{chain_at}
use Rattle.spi_fault.proofs.Telling.{node_within, none_there, told_less}
use Rattle.spi_fault.proofs.deciding.unchecked.Goals as goal

pub effect_at-requires : goal.effect_at-requires
effect_at-requires c = node_within c.requires.there.2

pub unreachable-requires : goal.unreachable-requires
unreachable-requires c = none_there _ c.len.ensures.over (rw c.in-None.is at c.in_ok-effect.ensures) c.requires.there.2 c.requires.there.3

pub returns : goal.returns
returns c = told_less (λ i. reverse (chain_at c.args.file.now.marks.scopes i)) _ _ _ _ c.in-Some.effect c.in_ok-rest-in-Some.rest c.shown_atom.result (rw c.in-Some.is at c.in_ok-effect.ensures) (rw c.in_ok-check-in-Some.ensures at c.in_ok-rest-in-Some.ensures) c.shown_atom.ensures
