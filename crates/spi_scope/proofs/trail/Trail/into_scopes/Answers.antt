use Rattle.std.proofs.Common.{ℕ, ◌+◌, List, length, map, take, sym, ap, ◌∙◌, subst}
use Rattle.spi_scope.specs.Chains.{link, chains, all_at, AreNumbersBelow, Chained}
use Rattle.spi_scope.proofs.Trails.{below_take, all_take}
use Rattle.spi_scope.proofs.trail.Trail.into_scopes.Goals as goal

pub returns : goal.returns
returns c =
    let links = c.self.inside.links.items in
    ap (λ (is : List ℕ). all_at (chains (map link links)) is) c.truncate.ensures.items
    ∙ all_take (chains (map link links)) c.self.inside.noted.items c.args.count
    ∙ ap (λ (s : Chained). take c.args.count s.noted) c.self.view_is

pub invariant_of-result : goal.invariant_of-result
invariant_of-result c = (c.self.invariant.0, subst (λ is. AreNumbersBelow (length c.self.inside.links.items + 1) is) (sym c.truncate.ensures.items) (below_take (length c.self.inside.links.items + 1) c.self.inside.noted.items c.args.count c.self.invariant.1))
