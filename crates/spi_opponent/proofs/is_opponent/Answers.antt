use Rattle.std.proofs.Common.{refl, sym, ◌∙◌, arith}
use Rattle.spi_term.specs.Spelling.{spelled}
use Rattle.spi_term.proofs.Numbers.{length_spelled}
use Rattle.spi_opponent.proofs.Nodes.{allowed_of, opponent_of, all_get, get_all}
use Rattle.spi_opponent.proofs.is_opponent.Goals as goal

pub returns-then-not-is_allowed-clause-opponent : goal.returns-then-not-is_allowed-clause-opponent
returns-then-not-is_allowed-clause-opponent c =
    let k = c.args.process.now.names in
    let p = c.args.process.now.process in (
      (λ e. absurd (cc)),
      (λ o.
          let a = get_all (spelled k p) c.loop-node.node _ c.node.ensures (allowed_of p _ 0 k o) in
          sym c.if-not-is_allowed.true ∙ c.is_allowed.ensures.1 a),
    )

pub returns-clause-opponent : goal.returns-clause-opponent
returns-clause-opponent c =
    let k = c.args.process.now.names in
    let p = c.args.process.now.process in
    ((λ e. opponent_of p _ 0 k (all_get (spelled k p) (λ i x b g. c.loop-node.invariant i x (omega (arith, b, length_spelled k p, c.loop-node-test.false, c.len-node-end.ensures.nodes)) g))), (λ o. refl))
