use Rattle.std.proofs.Common.{ℕ, ◌+◌, ◌∷◌, ◌++◌, [], ◌<◌, length, map, sym, ap, ◌∙◌, subst, arith}
use Rattle.std.proofs.lemmas.List.{length-append}
use Rattle.spi_scope.specs.Chains.{link, chains, chain_at, all_at, AreNumbersBelow, Chained}
use Rattle.spi_scope.proofs.Trails.{length_chains, chains_push, lead_push, below_more, all_before}
use Rattle.spi_scope.proofs.trail.Trail.extend.Goals as goal

pub invariant_of-self-2 : goal.invariant_of-self-2
invariant_of-self-2 c =
    let i = c.self.invariant in
    let old = c.self.inside.links.items in
    let v = ap (λ (s : Chained). length s.chains) c.self.view_is in
    let n = c.in_ok-push.ensures.items in
    let m = ap length n in
    let k = length-append old (record { word = c.in_ok-word.word; outer = c.args.outer } ∷ []) in (
      lead_push old _ (record { word = c.in_ok-word.word; outer = c.args.outer }) n i.0 (subst (λ (x : ℕ). c.args.outer < x) (sym v) c.requires),
      below_more (length old + 1) _ _ (omega (arith, m, k)) i.1,
      omega (arith, m, k, c.if-len-ge4294967294.false),
    )

pub returns-clause-number : goal.returns-clause-number
returns-clause-number c =
    let old = c.self.inside.links.items in
    let v = ap (λ (s : Chained). length s.chains) c.self.view_is in
    let m = ap length c.in_ok-push.ensures.items in
    let k = length-append old (record { word = c.in_ok-word.word; outer = c.args.outer } ∷ []) in
    omega (arith, c.len-2.ensures, m, k, v, length_chains old)

pub returns-clause-chains : goal.returns-clause-chains
returns-clause-chains c =
    chains_push c.self.inside.links.items _ (record { word = c.in_ok-word.word; outer = c.args.outer }) c.in_ok-push.ensures.items
    ∙ ap (λ w. chains (map link c.self.inside.links.items) ++ (w ∷ chain_at (chains (map link c.self.inside.links.items)) c.args.outer) ∷ []) c.in_ok-word.ensures
    ∙ ap (λ (s : Chained). s.chains ++ (c.args.word.now ∷ chain_at s.chains c.args.outer) ∷ []) c.self.view_is

pub returns-clause-noted : goal.returns-clause-noted
returns-clause-noted c =
    let old = c.self.inside.links.items in
    let is = c.self.inside.noted.items in
    ap (λ l. all_at l is) (chains_push old _ (record { word = c.in_ok-word.word; outer = c.args.outer }) c.in_ok-push.ensures.items)
    ∙ all_before (chains (map link old)) _ is (subst (λ n. AreNumbersBelow n is) (sym (length_chains old)) c.self.invariant.1)
    ∙ ap (λ (s : Chained). s.noted) c.self.view_is
