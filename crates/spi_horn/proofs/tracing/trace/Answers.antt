use Rattle.std.proofs.Common.{◌≡◌, ap, subst, ◌∙◌, ◌+◌, ℕ, List, Bool, true, false, length, drop, replicate, arith}
use Rattle.std.specs.Prelude.{slice_set}
use Rattle.std.proofs.lemmas.List.{take_at, length-set, length-replicate}
use Rattle.spi_horn.specs.Needs.{AreMarkedWritten}
use Rattle.spi_horn.proofs.Spreading.{spread_first}
use Rattle.spi_horn.proofs.Writing.{proves}
use Rattle.spi_horn.proofs.tracing.trace.Goals as goal

pub returns-clause-proves : goal.returns-clause-proves
returns-clause-proves c = λ start target o st.
    let new = c.spread_all.new.marks in
    let items = c.in_ok-marks.marks.items in
    let old : c.deref_mut.result.now ≡ slice_set (replicate (c.args.place + 1) false) c.args.place true = c.deref_mut.ensures.value ∙ ap (λ (xs : List Bool). slice_set xs c.args.place true) (c.in_ok-marks.ensures.items_if_clones_equal (λ y h. h)) in
    let first = spread_first c.args.rules.now c.args.closure.now.order.items c.args.closure.now.places.items c.args.place (c.args.place + 1) c.deref_mut.result.now (omega arith) old in
    let count = c.spread_all.ensures.count in
    let set_length = ap length old ∙ (length-set (replicate (c.args.place + 1) false) c.args.place true ∙ length-replicate (c.args.place + 1) false) in
    let len = c.in_ok-marks.ensures.len in
    let e = take_at new (drop (length new) (slice_set items c.args.place true)) c.in_ok-marks.marks.len (omega (arith, count, set_length, len)) in
    let P : List Bool → Type 0 = λ ms. (line_at : List ℕ) × AreMarkedWritten c.args.rules.now c.args.closure.now.order.items c.args.closure.now.places.items ms (length ms) c.in_ok-lines.lines.items line_at in
    let (line_at, w) = subst P (c.deref.ensures.value ∙ e) c.in_ok-lines.ensures.written in
    proves _ start _ _ c.args.place target _ _ line_at o (c.spread_all.ensures.spread c.args.place first) (omega (arith, count, set_length)) w st

pub returns-clause-few : goal.returns-clause-few
returns-clause-few c =
    let few = c.in_ok-lines.ensures.few in
    let value = ap length c.deref.ensures.value in
    let count = c.spread_all.ensures.count in
    let old = ap length c.deref_mut.ensures.value ∙ length-set c.in_ok-marks.marks.items c.args.place true in
    omega (arith, few, value, count, old, c.in_ok-marks.ensures.len)
