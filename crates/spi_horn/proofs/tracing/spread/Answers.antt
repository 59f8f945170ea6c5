use Rattle.std.proofs.Common.{◌≡◌, ◌≤◌, false, get_or, length, arith}
use Rattle.std.proofs.lemmas.Option.{slice_get-get_or}
use Rattle.spi_horn.specs.declared.rules.Rule.{Rule}
use Rattle.spi_horn.specs.declared.rules.Why.TheVariants.{Start, ByRule}
use Rattle.spi_horn.specs.Needs.{IsMarked}
use Rattle.spi_horn.proofs.Lookups.{get_read}
use Rattle.spi_horn.proofs.Spreading.{rule_at, before_within, marks_length, spread_not, spread_start, spread_rule}
use Rattle.spi_horn.proofs.tracing.spread.Goals as goal

-- what stands for a rule that isn't there
abbrev none : Rule
none = record { first = 0; second = 0; gives = 0 }

pub mark-requires-in-ByRule : goal.mark-requires-in-ByRule
mark-requires-in-ByRule c =
    let (start, o) = c.requires.order in
    let at = get_read c.args.closure.now.order.items c.args.t c.index.result.now (omega (arith, c.requires.within, c.requires.short)) c.index.ensures in
    let is = c.in-ByRule.is in
    let w : c.index.result.now.why ≡ ByRule c.in-ByRule.k = cc in
    let (f, a, b) = rule_at _ start _ _ c.args.t c.in-ByRule.k c.index.result.now none o at w in
    let rule = get_or c.args.rules.now c.in-ByRule.k none in
    let len = marks_length c.args.closure.now.places.items rule.first c.args.marks.now c.mark.new.marks c.mark.ensures in
    before_within c.args.closure.now.places.items c.args.t (length c.mark.new.marks) rule.second (omega (arith, c.requires.within, len)) b

pub returns-in-ByRule : goal.returns-in-ByRule
returns-in-ByRule c =
    let (start, o) = c.requires.order in
    let at = get_read c.args.closure.now.order.items c.args.t c.index.result.now (omega (arith, c.requires.within, c.requires.short)) c.index.ensures in
    let is = c.in-ByRule.is in
    let w : c.index.result.now.why ≡ ByRule c.in-ByRule.k = cc in
    let (f, a, b) = rule_at _ start _ _ c.args.t c.in-ByRule.k c.index.result.now none o at w in
    let places = c.args.closure.now.places.items in
    let rule = get_or c.args.rules.now c.in-ByRule.k none in
    let le : c.args.t ≤ length c.args.marks.now = omega (arith, c.requires.within) in
    let yes = c.if-marks-t.true in
    let e = slice_get-get_or c.args.marks.now c.args.t false c.requires.within in
    let m : IsMarked c.args.marks.now c.args.t = cc in
    spread_rule _ _ _ _ _ _ _ _ _ _ at w f m c.mark.ensures c.mark-in-ByRule.ensures
    (before_within places c.args.t (length c.args.marks.now) rule.first le a, before_within places c.args.t (length c.args.marks.now) rule.second le b)

pub returns-in-Start : goal.returns-in-Start
returns-in-Start c =
    let at = get_read c.args.closure.now.order.items c.args.t c.index.result.now (omega (arith, c.requires.within, c.requires.short)) c.index.ensures in
    let is = c.in-Start.is in
    let w : c.index.result.now.why ≡ Start c.in-Start.field-0 = cc in
    spread_start _ _ _ _ _ _ _ at w

pub returns-else-marks-t : goal.returns-else-marks-t
returns-else-marks-t c =
    let no = c.if-marks-t.false in
    let e = slice_get-get_or c.args.marks.now c.args.t false c.requires.within in
    spread_not _ _ _ _ _ (λ m. cc)
