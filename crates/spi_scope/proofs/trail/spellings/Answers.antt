use Rattle.std.proofs.Common.{◌≡◌, ◌++◌, ◌∷◌, [], ◌-◌, map, reverse, sym, ap, ◌∙◌, arith, append_assoc, append-nil}
use Rattle.spi_scope.specs.Chains.{link, chains, chain_at}
use Rattle.spi_scope.proofs.Trails.{chain_step, chain_none}
use Rattle.spi_scope.proofs.trail.spellings.Goals as goal

pub loop-at-smaller : goal.loop-at-smaller
loop-at-smaller c =
    (chain_step c.args.links.now c.loop-at.at (c.loop-at.at - 1) c.index-links-at.result (omega arith) (omega arith) c.index-links-at.is c.requires.lead_back).1

pub loop-at-preserved : goal.loop-at-preserved
loop-at-preserved c =
    let st = chain_step c.args.links.now c.loop-at.at (c.loop-at.at - 1) c.index-links-at.result (omega arith) (omega arith) c.index-links-at.is c.requires.lead_back in
    let cs = chains (map link c.args.links.now) in
    let found = c.loop-at.found.items in
    record {
      read =
          rw c.in_ok-push.ensures.items
          (append_assoc found (c.in_ok-copy.field-0 ∷ []) (chain_at cs c.index-links-at.result.outer)
          ∙ ap (λ y. found ++ y ∷ chain_at cs c.index-links-at.result.outer) c.in_ok-copy.ensures
          ∙ ap (λ l. found ++ l) (sym st.0) ∙ c.loop-at.invariant.read);
      within = omega (arith, st.1, c.loop-at.invariant.within);
    }

pub returns : goal.returns
returns c =
    let cs = chains (map link c.args.links.now) in
    let found = c.loop-at.found.items in
    let z : c.loop-at.at ≡ 0 = omega arith in
    c.reverse.ensures.items
    ∙ ap reverse (sym (append-nil found) ∙ ap (λ l. found ++ l) (sym (chain_none c.args.links.now)) ∙ ap (λ n. found ++ chain_at cs n) (sym z) ∙ c.loop-at.invariant.read)
