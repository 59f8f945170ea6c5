use Rattle.std.proofs.Common.{◌≡◌, refl, sym, subst, ◌∙◌, Some, get_or}
use Rattle.spi_horn.specs.declared.rules.Rule.{Rule}
use Rattle.spi_horn.specs.declared.rules.Why.TheVariants.{ByRule}
use Rattle.spi_horn.specs.declared.rules.Why.{Why}
use Rattle.spi_horn.specs.declared.tracing.Ground.TheVariants as G
use Rattle.spi_horn.specs.Needs.{SaysWhy}
use Rattle.spi_horn.specs.Leading.{IsPlacedAt}
use Rattle.spi_horn.proofs.Spreading.{rule_read}
use Rattle.spi_horn.proofs.tracing.ground_of.Goals as goal

pub returns-in-ByRule : goal.returns-in-ByRule
returns-in-ByRule c =
    let (start, t, n, lt, reason) = c.requires in
    let is = c.in-ByRule.is in
    let w : c.args.why ≡ ByRule c.in-ByRule.k = cc in
    let none : Rule = record { first = 0; second = 0; gives = 0 } in
    let (f, a, b) = rule_read _ start _ t n c.in-ByRule.k _ none w reason in
    let rule = get_or c.args.rules.now c.in-ByRule.k none in
    let P : Why → Type 0 = λ v. SaysWhy c.args.rules.now c.args.closure.now.places.items c.args.line_at.now v (G.ByRule c.in-ByRule.k c.line_of-first.result c.line_of-second.result) in
    subst P (sym w) (
      c.line_of-first.result,
      c.line_of-second.result,
      refl,
      λ r s e st. let p : Some r ≡ Some rule = sym e ∙ f in let q : r ≡ rule = cc in c.line_of-first.ensures s (subst (λ x. IsPlacedAt c.args.closure.now.places.items x.first s) q st),
      λ r s e st. let p : Some r ≡ Some rule = sym e ∙ f in let q : r ≡ rule = cc in c.line_of-second.ensures s (subst (λ x. IsPlacedAt c.args.closure.now.places.items x.second s) q st),
    )
