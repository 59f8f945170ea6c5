use Rattle.std.proofs.Common.{◌≡◌, ap, subst, ◌∙◌, ℕ, List, [], ◌∷◌, ◌++◌, false, length, arith}
use Rattle.std.proofs.lemmas.Option.{slice_get-get_or}
use Rattle.spi_horn.specs.Needs.{IsMarked, SaysAt}
use Rattle.spi_horn.proofs.Lookups.{get_some}
use Rattle.spi_horn.proofs.Writing.{written_skip, written_more}
use Rattle.spi_horn.proofs.tracing.write_at.Goals as goal

pub returns-in_ok-push-2 : goal.returns-in_ok-push-2
returns-in_ok-push-2 c =
    let l = c.len.ensures in
    let e : c.len.result ≡ length c.args.lines.now.items = omega (arith, l) in
    let same = c.in_ok-push.ensures.items ∙ ap (λ (n : ℕ). c.args.line_at.now.items ++ n ∷ []) e in
    let within = c.requires.within in
    let short = c.requires.short in
    let (x, ox) = get_some c.args.closure.now.order.items c.args.t (omega (arith, within, short)) in
    let P : List ℕ → Type 0 = λ la. SaysAt c.args.rules.now c.args.closure.now.order.items c.args.closure.now.places.items la c.args.t c.line_for-line.result in
    let (num, says) = (subst P c.deref.ensures.value c.line_for-line.ensures) x ox in
    let yes = c.if-marks-t.true in
    let f = slice_get-get_or c.args.marks.now c.args.t false within in
    let m : IsMarked c.args.marks.now c.args.t = cc in
    written_more _ _ _ _ _ _ _ _ _ x c.line_for-line.result same c.in_ok-push-2.ensures.items m ox num says c.requires.written

pub returns-else-marks-t : goal.returns-else-marks-t
returns-else-marks-t c =
    let l = c.len.ensures in
    let e : c.len.result ≡ length c.args.lines.now.items = omega (arith, l) in
    let same = c.in_ok-push.ensures.items ∙ ap (λ (n : ℕ). c.args.line_at.now.items ++ n ∷ []) e in
    let no = c.if-marks-t.false in
    let f = slice_get-get_or c.args.marks.now c.args.t false c.requires.within in
    written_skip _ _ _ _ _ _ _ _ same (λ m. cc) c.requires.written
