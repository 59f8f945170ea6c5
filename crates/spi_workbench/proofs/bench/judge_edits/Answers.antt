use Rattle.std.proofs.Common.{◌≡◌, ◌≤◌, length, subst, refl, Some, slice_get, IfOk, arith, []}
use Rattle.std.proofs.lemmas.List.{length-map}
use Rattle.spi_heading.specs.Views.{shared_of}
use Rattle.spi_scope.specs.First.{IsClean}
use Rattle.spi_edits.specs.Views.{bench_of}
use Rattle.spi_workbench.specs.Reading.{heading_file}
use Rattle.spi_workbench.specs.Answers.{RefusesEdits, too_many_shared}
use Rattle.spi_workbench.specs.Work.{IsAt, StartsEdits}
use Rattle.spi_workbench.specs.declared.answer.Refusal.TheVariants.{TooManyShared}
use Rattle.spi_workbench.proofs.Answering.{answer_for, begins_so}
use Rattle.spi_workbench.proofs.Looping.{get_mapped}
use Rattle.spi_workbench.proofs.bench.judge_edits.Goals.{In-Ok}
use Rattle.spi_workbench.proofs.bench.judge_edits.Goals as goal

pub returns-then-len-gt16 : goal.returns-then-len-gt16
returns-then-len-gt16 c =
    let b = bench_of c.args.text in
    let x = c.index.result.now in
    let g : slice_get b.shared 16 ≡ Some (shared_of x) = get_mapped shared_of c.args.text.shared.items 16 x (omega (arith, c.if-len-gt16.true, c.len.ensures, c.args.text.shared.ok.0)) c.index.ensures in
    let n : length b.shared ≡ c.len-then-len-gt16.result = omega (arith, length-map c.args.text.shared.items shared_of, c.len-then-len-gt16.ensures, c.args.text.shared.ok.0) in
    subst (λ k. RefusesEdits b c.args.end (TooManyShared x.name.span k)) n (too_many_shared g)

few : (c : In-Ok) → length (bench_of c.args.text).shared ≤ 16
few c = omega (arith, length-map c.args.text.shared.items shared_of, c.if-len-gt16.false, c.len.ensures, c.args.text.shared.ok.0)

begins : (c : In-Ok) → StartsEdits (bench_of c.args.text) c.args.end c.in-Ok.work c.start.new.text c.in_ok-counted.counted
begins c =
    let b = bench_of c.args.text in
    let s = subst (λ r. IfOk r (λ w. IsAt b [] w × IsClean (heading_file b c.args.end))) c.in-Ok.is c.in_ok-work.ensures.ok in
    begins_so b c.args.end c.in-Ok.work c.args.text c.start.new.text c.in_ok-counted.counted (record { few = few c; clean = s.1 }) s.0 c.in_ok-counted.ensures.edits c.in_ok-work.ensures.edits refl

pub judge_edits_over-requires-clause-starts : goal.judge_edits_over-requires-clause-starts
judge_edits_over-requires-clause-starts c =
    (bench_of c.args.text, c.args.end, begins (goal.at.judge_edits_over-requires-clause-starts c).In-Ok)

pub returns-in-Ok : goal.returns-in-Ok
returns-in-Ok c =
    let a = (goal.at.returns-in-Ok c).In-Ok in
    answer_for (bench_of c.args.text) c.args.end c.in-Ok.work c.start.new.text c.in_ok-counted.counted c.judge_edits_over.result c.judge_edits_over.ensures (begins a)
