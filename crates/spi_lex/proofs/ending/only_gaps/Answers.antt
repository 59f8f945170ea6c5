use Rattle.std.proofs.Common.{refl, sym, subst}
use Rattle.std.proofs.lemmas.Bool.{eqb-true, false≢true}
use Rattle.spi_lex.specs.declared.scan.Shape.{Shape}
use Rattle.spi_lex.specs.declared.scan.Shape.TheVariants as shapes
use Rattle.spi_lex.specs.Front.{IsFront}
use Rattle.spi_lex.proofs.Gaps.{no_gaps, none_found, gaps_over, gaps_behind_blanks, gaps_behind_gap}
use Rattle.spi_lex.proofs.ending.only_gaps.Goals as goal

pub loop-rest-init : goal.loop-rest-init
loop-rest-init c = (
  c.after_blanks-rest.utf8,
  gaps_behind_blanks c.args.text.now c.after_blanks-rest.result.now c.after_blanks-rest.utf8 c.after_blanks-rest.ensures,
)

pub loop-rest-preserved : goal.loop-rest-preserved
loop-rest-preserved c =
    let so_far = c.loop-rest.invariant.1 in
    let front : IsFront c.loop-rest.rest.now shapes.Gap c.in-Some.len =
    subst (λ (s : Shape). IsFront c.loop-rest.rest.now s c.in-Some.len) c.in-Gap.is c.in-Some.ensures.found in
    let on = gaps_behind_gap c.loop-rest.rest.now c.split_at.result.1.now c.after_blanks-rest-in-Gap.result.now c.in-Some.len c.after_blanks-rest-in-Gap.utf8 front c.split_at.ensures.back c.after_blanks-rest-in-Gap.ensures in (
      c.after_blanks-rest-in-Gap.utf8,
      (λ h. on.0 (so_far.0 h), λ h. so_far.1 (on.1 h)),
    )

pub returns-in_default : goal.returns-in_default
returns-in_default c = (
  λ t. absurd (false≢true t),
  λ h. absurd (none_found c.loop-rest.rest.now c.in_default.ensures.none (c.loop-rest.invariant.1.0 h)),
)

pub returns-in_default-shape : goal.returns-in_default-shape
returns-in_default-shape c = (
  λ t. absurd (false≢true t),
  λ h. absurd (no_gaps c.loop-rest.rest.now c.in-Some.shape c.in-Some.len c.in-Some.ensures.found c.in_default-shape.not-Gap (c.loop-rest.invariant.1.0 h)),
)

pub returns : goal.returns
returns c = (
  λ t. (c.loop-rest.invariant.1.1 (gaps_over c.loop-rest.rest.now (eqb-true _ 0 (sym c.loop-rest-test.ensures)))),
  λ h. refl,
)
