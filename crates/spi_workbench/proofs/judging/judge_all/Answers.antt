use Rattle.std.proofs.Common.{◌≡◌, ℕ, ◌+◌, ◌<◌, List, IfOk, map, take, length, get_or, sym, ap, ◌∙◌, subst, arith}
use Rattle.std.specs.Prelude.{Option, Some, None, Ok}
use Rattle.spi_term.specs.Spelling.{stopped}
use Rattle.spi_edits.specs.Edits.{Bench, Edit}
use Rattle.spi_edits.specs.Views.{edit_of}
use Rattle.spi_workbench.specs.Counting.{edit_nodes}
use Rattle.spi_workbench.specs.Work.{IsAt, Comes, WorkStarts, StoodEdits}
use Rattle.spi_workbench.specs.declared.answer.Refusal.{Refusal}
use Rattle.spi_edits.specs.declared.text.Edit as declared
use Rattle.spi_workbench.proofs.Stepping.{none_from}
use Rattle.spi_workbench.proofs.Looping.{same_item, rest_next, nodes_at, stood_next, stopped_here, stood_all}
use Rattle.spi_workbench.proofs.judging.judge_all.Given.{Over}
use Rattle.spi_workbench.proofs.judging.judge_all.Goals.{After-index-edits-i, After-branch-refusal}
use Rattle.spi_workbench.proofs.judging.judge_all.Goals as goal

within : (g : Over) (c : After-index-edits-i g) → c.loop-i.i < length c.args.edits.now
within g c = omega (arith, c.loop-i-test.true, c.loop-i.auto.edits)

item : (g : Over) (c : After-index-edits-i g) → c.index-edits-i.result ≡ get_or c.args.edits.now c.loop-i.i c.index-edits-i.result
item g c = c.index-edits-i.is ∙ same_item c.loop-i.i c.loop-i.edits c.args.edits.now c.index-edits-i.result c.loop-i.invariant.rest

-- the nodes that are handed over with the edit
nodes : (g : Over) (c : After-index-edits-i g) (b : Bench) → WorkStarts b c.args.work.now c.args.edits.now c.args.nodes.now → get_or c.args.nodes.now c.loop-i.i 0 ≡ stopped (edit_nodes b (edit_of (get_or c.loop-i.edits c.loop-i.i c.index-edits-i.result)))
nodes g c b s =
    let f : declared.Edit → ℕ = λ e. stopped (edit_nodes b (edit_of e)) in
    nodes_at f c.args.nodes.now c.args.edits.now c.loop-i.i c.index-edits-i.result s.1 (within g c) (item g c) ∙ ap f c.index-edits-i.is

-- what the edit came to
came : (g : Over) (c : After-branch-refusal g) (b : Bench) → WorkStarts b c.args.work.now c.args.edits.now c.args.nodes.now → get_or c.args.nodes.now c.loop-i.i 0 ≡ stopped (edit_nodes b (edit_of (get_or c.loop-i.edits c.loop-i.i c.index-edits-i.result))) → (r : Option Refusal) → c.judge_edit.result ≡ Ok r → Comes b (map edit_of (take c.loop-i.i c.args.edits.now)) (edit_of c.index-edits-i.result) c.judge_edit.new.work r
came g c b s n r e =
    let h = subst (λ q. IfOk q (λ r. (b : Bench) (before : List Edit) → IsAt b before c.loop-i.work → get_or c.args.nodes.now c.loop-i.i 0 ≡ stopped (edit_nodes b (edit_of (get_or c.loop-i.edits c.loop-i.i c.index-edits-i.result))) → Comes b before (edit_of (get_or c.loop-i.edits c.loop-i.i c.index-edits-i.result)) c.judge_edit.new.work r)) e c.judge_edit.ensures in
    subst (λ (x : declared.Edit). Comes b (map edit_of (take c.loop-i.i c.args.edits.now)) (edit_of x) c.judge_edit.new.work r) (sym c.index-edits-i.is) (h b (map edit_of (take c.loop-i.i c.args.edits.now)) (c.loop-i.invariant.stood b s).at n)

pub judge_edit-requires : goal.judge_edit-requires
judge_edit-requires g c =
    let b = c.requires.0 in
    let s = c.requires.1 in
    (b, map edit_of (take c.loop-i.i c.args.edits.now), (c.loop-i.invariant.stood b s).at, nodes g (goal.at.judge_edit-requires g c).After-index-edits-i b s)

pub returns-in-Some-clause-err : goal.returns-in-Some-clause-err
returns-in-Some-clause-err g c b s =
    let a = (goal.at.returns-in-Some-clause-err g c).After-branch-refusal in
    let i = (goal.at.returns-in-Some-clause-err g c).After-index-edits-i in
    stopped_here b c.args.edits.now c.loop-i.i c.index-edits-i.result (within g i) (item g i) c.loop-i.work c.loop-i.verdicts.items c.in-Some.refusal (c.loop-i.invariant.stood b s)
    (came g a b s (nodes g i b s) (Some c.in-Some.refusal) (c.in_ok-refusal.was ∙ ap (λ o. Ok o) c.in-Some.is))

pub loop-i-preserved : goal.loop-i-preserved
loop-i-preserved g c =
    let a = (goal.at.loop-i-preserved g c).After-branch-refusal in
    let i = (goal.at.loop-i-preserved g c).After-index-edits-i in
    let none = none_from c.in_ok-refusal.field-0 c.in_default.not-Some in
    record {
      rest = rest_next c.loop-i.i c.loop-i.edits c.args.edits.now c.judge_edit.new.edit c.loop-i.invariant.rest;
      stood = λ b s.
          subst (λ vs. StoodEdits b (map edit_of (take (c.loop-i.i + 1) c.args.edits.now)) c.judge_edit.new.work vs) (sym c.in_ok-push.ensures.items)
          (stood_next b c.args.edits.now c.loop-i.i c.index-edits-i.result (within g i) (item g i) c.loop-i.work c.judge_edit.new.work c.loop-i.verdicts.items c.verdict.result (c.loop-i.invariant.stood b s)
          (came g a b s (nodes g i b s) None (c.in_ok-refusal.was ∙ ap (λ o. Ok o) none)) c.verdict.ensures);
    }

pub returns-clause-ok : goal.returns-clause-ok
returns-clause-ok g c b s = stood_all b c.args.edits.now c.loop-i.i c.loop-i.work c.loop-i.verdicts.items (omega (arith, c.loop-i-test.false, c.loop-i.auto.edits)) (c.loop-i.invariant.stood b s)
