use Rattle.std.proofs.Common.{ℕ, ◌+◌, List, length, sym, ap, subst, arith}
use Rattle.spi_scope.specs.Chains.{AreNumbersBelow, Chained}
use Rattle.spi_scope.proofs.Trails.{length_chains, below_push}
use Rattle.spi_scope.proofs.trail.Trail.note.Goals as goal

pub invariant_of-self-2 : goal.invariant_of-self-2
invariant_of-self-2 c =
    let i = c.self.invariant in
    let v = ap (λ (s : Chained). length s.chains) c.self.view_is in (
      i.0,
      subst (λ (l : List ℕ). AreNumbersBelow (length c.self.inside.links.items + 1) l) (sym c.in_ok-push.ensures.items) (below_push _ _ c.args.chain i.1 (omega (arith, c.requires, v, length_chains c.self.inside.links.items))),
      i.2,
    )
