use Rattle.std.proofs.Common.{◌≡◌, ◌+◌, ◌<◌, List, length, map, reverse, sym, ap, ◌∙◌, subst, arith}
use Rattle.std.specs.Prelude.{IfOk}
use Rattle.spi_scope.specs.Scope.{Names}
use Rattle.spi_scope.specs.Chains.{link, chains, chain_at}
use Rattle.spi_scope.proofs.Trails.{below_or, all_or}
use Rattle.spi_scope.proofs.trail.Scopes.names_at.Goals as goal

pub spellings-requires-clause-within : goal.spellings-requires-clause-within
spellings-requires-clause-within c =
    let noted = c.self.inside.noted.items in
    let lt : c.args.node < length noted = omega (arith, c.if-node-len.false, c.len.ensures, c.self.inside.noted.ok) in
    let b = below_or (length c.self.inside.links.items + 1) noted c.args.node c.index-chain.result.now c.self.invariant.1 lt in
    omega (arith, b, c.index-chain.ensures, ap length c.deref.ensures.value)

pub returns : goal.returns
returns c =
    let noted = c.self.inside.noted.items in
    let cs = chains (map link c.self.inside.links.items) in
    let lt : c.args.node < length noted = omega (arith, c.if-node-len.false, c.len.ensures, c.self.inside.noted.ok) in
    let e : chain_at (chains (map link c.deref.result.now)) c.index-chain.result.now ≡ chain_at c.args.self.now c.args.node =
    ap (λ l. chain_at (chains (map link l)) c.index-chain.result.now) c.deref.ensures.value ∙ ap (chain_at cs) c.index-chain.ensures
    ∙ sym (all_or cs noted c.args.node c.index-chain.result.now lt) ∙ ap (λ (l : List Names). chain_at l c.args.node) c.self.view_is in
    subst (λ (ys : Names). IfOk c.spellings.result (λ v. v.items ≡ reverse ys)) e c.spellings.ensures
