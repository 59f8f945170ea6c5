use Rattle.std.proofs.Common.{◌≡◌, length, map, arith, subst, sym, IfOk, IfErr}
use Rattle.spi_edits.specs.Edits.{Bench}
use Rattle.spi_edits.specs.Views.{edit_of}
use Rattle.spi_workbench.specs.Answers.{edit_span, RefusesEdits}
use Rattle.spi_workbench.specs.Work.{WorkStarts, StoodEdits, StoppedEdits}
use Rattle.spi_workbench.specs.declared.answer.Refusal.TheVariants.{TooManyEdits}
use Rattle.spi_workbench.proofs.Answering.{too_many, all_stood, one_stopped, starts_there, stood_there, stopped_there}
use Rattle.spi_workbench.proofs.bench.judge_edits_over.Goals as goal

pub judge_all-requires : goal.judge_all-requires
judge_all-requires g c =
    (c.requires.starts.0, starts_there c.requires.starts.0 c.args.work c.args.text.edits.items c.deref_mut.result.now c.args.counted.edits.items c.deref.result.now c.requires.starts.2.starts c.deref_mut.ensures.value c.deref.ensures.value)

pub returns-then-len-gt1000 : goal.returns-then-len-gt1000
returns-then-len-gt1000 g c b end s =
    let items = c.args.text.edits.items in
    let x = c.index.result.now in
    let h : RefusesEdits b end (TooManyEdits (edit_span (edit_of x)) (length items)) = too_many b end s.heading items s.edits x (omega (arith, c.if-len-gt1000.true, c.len.ensures, c.args.text.edits.ok.0)) c.index.ensures in
    let n : length items ≡ c.len-then-len-gt1000.result = omega (arith, c.len-then-len-gt1000.ensures, c.args.text.edits.ok.0) in
    subst (λ k. RefusesEdits b end (TooManyEdits c.edit_place.result k)) n (subst (λ p. RefusesEdits b end (TooManyEdits p (length items))) (sym c.edit_place.ensures) h)

pub returns-in-Ok : goal.returns-in-Ok
returns-in-Ok g c b end s =
    let items = c.args.text.edits.items in
    let there = starts_there b c.args.work items c.deref_mut.result.now c.args.counted.edits.items c.deref.result.now s.starts c.deref_mut.ensures.value c.deref.ensures.value in
    let stood = subst (λ r. IfOk r (λ vs. (b : Bench) → WorkStarts b c.args.work c.deref_mut.result.now c.deref.result.now → StoodEdits b (map edit_of c.deref_mut.result.now) c.judge_all.new.work vs.items)) c.in-Ok.is c.in_ok-each.ensures.ok b there in
    all_stood b end s.heading items s.edits (omega (arith, c.if-len-gt1000.false, c.len.ensures, c.args.text.edits.ok.0)) c.judge_all.new.work (record { each = c.in-Ok.each; last = c.verdict-last.result })
    (stood_there b c.judge_all.new.work items c.deref_mut.result.now c.in-Ok.each.items c.deref_mut.ensures.value stood) c.verdict-last.ensures

pub returns : goal.returns
returns g c b end s =
    let items = c.args.text.edits.items in
    let there = starts_there b c.args.work items c.deref_mut.result.now c.args.counted.edits.items c.deref.result.now s.starts c.deref_mut.ensures.value c.deref.ensures.value in
    let stops = subst (λ r. IfErr r (λ e. (b : Bench) → WorkStarts b c.args.work c.deref_mut.result.now c.deref.result.now → StoppedEdits b (map edit_of c.deref_mut.result.now) e)) c.in-Err.is c.in_ok-each.ensures.err b there in
    one_stopped b end s.heading items s.edits (omega (arith, c.if-len-gt1000.false, c.len.ensures, c.args.text.edits.ok.0)) c.in-Err.refusal (stopped_there b items c.deref_mut.result.now c.in-Err.refusal c.deref_mut.ensures.value stops)
