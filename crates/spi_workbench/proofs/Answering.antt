-- What a bench answers, from its edits.
use Rattle.std.proofs.Common.{◌≡◌, ℕ, ◌<◌, ◌≤◌, ◌↔◌, List, [], length, map, Bool, get_or, sym, ap, ◌∙◌, subst, IsTrue, Result, Ok, Err, IfOk, arith}
use Rattle.std.specs.Prelude.{Some, slice_get}
use Rattle.std.proofs.lemmas.List.{length-map}
use Rattle.spi_bench.specs.Parts.{Benched, IsYes}
use Rattle.spi_edits.specs.Edits.{Edit, Bench}
use Rattle.spi_edits.specs.declared.text.BenchText.{BenchText}
use Rattle.spi_edits.specs.declared.text.Edit as declared
use Rattle.spi_edits.specs.Views.{edit_of}
use Rattle.spi_term.specs.Spelling.{stopped}
use Rattle.spi_workbench.specs.Reading.{bench_after}
use Rattle.spi_workbench.specs.Counting.{edit_nodes}
use Rattle.spi_workbench.specs.Answers.{edit_span, HeadingStands, EditsStand, RefusesEdits, too_many_edits, wrong_edit, AreVerdicts, IsJudged, IsBenchAnswer}
use Rattle.spi_workbench.specs.declared.answer.Refusal.{Refusal}
use Rattle.spi_workbench.specs.declared.answer.Refusal.TheVariants.{TooManyEdits}
use Rattle.spi_workbench.specs.declared.answer.Verdicts.{Verdicts}
use Rattle.spi_workbench.specs.declared.answer.Answer.{Answer}
use Rattle.spi_workbench.specs.declared.counting.Counted.{Counted}
use Rattle.spi_workbench.specs.declared.judging.Work.{Work}
use Rattle.spi_workbench.specs.Work.{IsAt, WorkStarts, StartsEdits, StoodEdits, StoppedEdits}
use Rattle.spi_workbench.proofs.Looping.{get_mapped}

module _ (b : Bench) (end : ℕ) (heading : HeadingStands b end) (es : List declared.Edit) (are : map edit_of es ≡ b.edits) where
  many : length b.edits ≡ length es
  many = ap (λ (l : List Edit). length l) (sym are) ∙ length-map es edit_of

  pub too_many : (x : declared.Edit) → 1000 < length es → x ≡ get_or es 1000 x → RefusesEdits b end (TooManyEdits (edit_span (edit_of x)) (length es))
  too_many x more is =
      let there : slice_get b.edits 1000 ≡ Some (edit_of x) = subst (λ (l : List Edit). slice_get l 1000 ≡ Some (edit_of x)) are (get_mapped edit_of es 1000 x more is) in
      subst (λ (n : ℕ). RefusesEdits b end (TooManyEdits (edit_span (edit_of x)) n)) many (too_many_edits heading there)

  module _ (few : length es ≤ 1000) where
    pub all_stood : (w : Work) (v : Verdicts) → StoodEdits b (map edit_of es) w v.each.items → (IsTrue v.last ↔ IsYes w.bench) → IsJudged b end v
    all_stood w v stood last = record {
      stands = record {
        heading = heading;
        few = omega (arith, many, few);
        edits = subst (λ (l : List Edit). EditsStand b [] l) are stood.edits;
      };
      each = subst (λ (l : List Edit). AreVerdicts b [] l v.each.items) are stood.each;
      last = subst (λ (q : Benched). IsTrue v.last ↔ IsYes q) (stood.at.bench ∙ ap (bench_after b) are) last;
    }

    pub one_stopped : (r : Refusal) → StoppedEdits b (map edit_of es) r → RefusesEdits b end r
    one_stopped r h = wrong_edit h.before h.after heading (omega (arith, many, few)) (sym are ∙ h.cut) h.stand h.refused

-- what holds of an answer for each bench that starts so
pub answer_for : {E : Type 0} (b : Bench) (end : ℕ) (w : Work) (text : BenchText) (counted : Counted) (r : Result Answer E)
    → IfOk r (λ a. (b : Bench) (end : ℕ) → StartsEdits b end w text counted → IsBenchAnswer b end a) → StartsEdits b end w text counted → IfOk r (IsBenchAnswer b end)
answer_for b end w text counted (Ok a) h s = h b end s
answer_for b end w text counted (Err e) h s = tt

-- the edits and their nodes, where they lie
pub starts_there : (b : Bench) (w : Work) (es fs : List declared.Edit) (ns ms : List ℕ) → WorkStarts b w es ns → fs ≡ es → ms ≡ ns → WorkStarts b w fs ms
starts_there b w es fs ns ms s e f = rw (e, f) s

pub stood_there : (b : Bench) (w : Work) (es fs : List declared.Edit) (vs : List Bool) → fs ≡ es → StoodEdits b (map edit_of fs) w vs → StoodEdits b (map edit_of es) w vs
stood_there b w es fs vs e h = subst (λ (l : List declared.Edit). StoodEdits b (map edit_of l) w vs) e h

pub stopped_there : (b : Bench) (es fs : List declared.Edit) (r : Refusal) → fs ≡ es → StoppedEdits b (map edit_of fs) r → StoppedEdits b (map edit_of es) r
stopped_there b es fs r e h = subst (λ (l : List declared.Edit). StoppedEdits b (map edit_of l) r) e h

-- the work before any edit of a bench whose heading was moved out
pub begins_so : (b : Bench) (end : ℕ) (w : Work) (old new : BenchText) (counted : Counted) → HeadingStands b end → IsAt b [] w → counted.edits.items ≡ map (λ e. stopped (edit_nodes b (edit_of e))) old.edits.items → new.edits ≡ old.edits
    → map edit_of old.edits.items ≡ b.edits → StartsEdits b end w new counted
begins_so b end w old new counted heading at nodes same edits = record {
  heading = heading;
  starts = (at, rw same nodes);
  edits = rw same edits;
}
