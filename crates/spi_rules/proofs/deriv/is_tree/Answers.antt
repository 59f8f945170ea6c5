use Rattle.std.proofs.Common.{◌≡◌, ◌+◌, ◌-◌, ◌<◌, ℕ, map, drop, subst, sym, ◌∙◌, arith, eq-eqb}
use Rattle.std.proofs.lemmas.Bool.{eqb-true}
use Rattle.spi_rules.specs.Deriv.{rule_use, AreTrees}
use Rattle.spi_rules.proofs.Trees.{use_at, trees_at, trees_end}
use Rattle.spi_rules.proofs.deriv.is_tree.Goals.{then-open-eq0-via-then-open-eq0, then-open-eq0-via-else-open-eq0+then-not-is_use}
use Rattle.spi_rules.proofs.deriv.is_tree.Goals as goal

pub returns-then-open-eq0 : goal.returns-then-open-eq0
returns-then-open-eq0 c = (
  (λ h. absurd (cc)),
  (λ t.
      let u = use_at c.args.uses.now c.loop-u.u-index c.loop-u.open c.u-item.result c.loop-u-test.true c.u-item.is (c.loop-u.invariant.0.0 t) in
      elim c.then-open-eq0.branch [
        | then-open-eq0-via-then-open-eq0 w ↦ absurd (omega (arith, u.1, w.if-open-eq0.true))
        | then-open-eq0-via-else-open-eq0+then-not-is_use w ↦ sym w.if-not-is_use.true ∙ w.is_use.ensures.1 u.0
      ]),
)

pub loop-u-preserved : goal.loop-u-preserved
loop-u-preserved c =
    let us = c.args.uses.now in
    let i = c.loop-u.u-index in
    let n = c.loop-u.open in
    let u = c.u-item.result in
    let some : 0 < n = omega (arith, c.if-open-eq0.false) in
    let is = c.is_use.ensures.0 c.if-not-is_use.false in
    let more : c.from.result ≡ Rattle.spi_rules.specs.Rule.arity u.rule = cc in (
      (
        λ t. subst (λ (k : ℕ). AreTrees (n - 1 + k) (map rule_use (drop (i + 1) us))) (sym more) (use_at us i n u c.loop-u-test.true c.u-item.is (c.loop-u.invariant.0.0 t)).2,
        λ t. c.loop-u.invariant.0.1 (trees_at us i n u c.loop-u-test.true c.u-item.is some is (subst (λ (k : ℕ). AreTrees (n - 1 + k) (map rule_use (drop (i + 1) us))) more t)),
      ),
      omega (arith, c.loop-u.invariant.1, c.arity.ensures.few, c.from.ensures),
    )

pub returns : goal.returns
returns c =
    let e = trees_end c.args.uses.now c.loop-u.u-index c.loop-u.open c.loop-u-test.false in
    ((λ h. c.loop-u.invariant.0.1 (e.1 (eqb-true _ _ h))), (λ t. eq-eqb _ _ (e.0 (c.loop-u.invariant.0.0 t))))
