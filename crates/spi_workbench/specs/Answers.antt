-- What a bench answers: the first refusal, or a verdict for each edit.
use Rattle.std.specs.Prelude.{◌≡◌, ◌↔◌, ℕ, ◌<◌, ◌≤◌, Some, None, IsSome, Bool, IsTrue, ⊤, List, [], ◌∷◌, ◌++◌, length, slice_get}
use Rattle.spi_text.specs.declared.lines.Span.{Span}
use Rattle.spi_tree.specs.declared.tree.SWord.{SWord}
use Rattle.spi_tree.specs.Trees as t
use Rattle.spi_heading.specs.Headings.{Shared}
use Rattle.spi_scope.specs.First.{IsClean, HasFirst}
use Rattle.spi_scope.specs.declared.fault.ScopeFault.{ScopeFault}
use Rattle.spi_bench.specs.Parts.{part_named, IsYes}
use Rattle.spi_edits.specs.Edits.{Edit, puts, drops, Bench}
use Rattle.spi_workbench.specs.Reading.{file_with, heading_file, parts_after, bench_after}
use Rattle.spi_workbench.specs.Counting.{bench_nodes}
use Rattle.spi_workbench.specs.declared.answer.Refusal.{Refusal}
use Rattle.spi_workbench.specs.declared.answer.Refusal.TheVariants.{TooManyShared, Scope, TooManyEdits, UnknownPart, BenchTooLarge}
use Rattle.spi_workbench.specs.declared.answer.Verdicts.{Verdicts}
use Rattle.spi_workbench.specs.declared.answer.Answer.{Answer}
use Rattle.spi_workbench.specs.declared.answer.Answer.TheVariants.{Judged, Refused}

abbrev pub edit_span : Edit → Span
edit_span (puts s w p) = s
edit_span (drops s w) = s

-- at most 16 shared names, and nothing is wrong with the declarations and their types
pub record HeadingStands (b : Bench) (end : ℕ) : Type 0 where
  pub few : length b.shared ≤ 16
  pub clean : IsClean (heading_file b end)

-- the edit stands behind these: a put, where nothing is wrong with the part and there is room for its nodes, and
-- a drop of a part that is there
abbrev pub EditStands : Bench → List Edit → Edit → Type 0
EditStands b before (puts s w p) =
    IsClean (file_with b p) × (bench_nodes b (before ++ puts s w p ∷ []) ≤ 100000)
EditStands b before (drops s w) = IsSome (part_named w.word (parts_after b [] before))

-- each of the edits stands behind those before it
abbrev pub EditsStand : Bench → List Edit → List Edit → Type 0
EditsStand b before [] = ⊤
EditsStand b before (e ∷ es) = EditStands b before e × EditsStand b (before ++ e ∷ []) es

-- the edit behind these is refused so
pub data IsEditRefused (b : Bench) (before : List Edit) : Edit → Refusal → Type 0 where
  wrong_part : {s : Span} {w : SWord} {p : t.Proc} {f : ScopeFault} → HasFirst (file_with b p) f
      → IsEditRefused b before (puts s w p) (Scope f)
  too_large : {s : Span} {w : SWord} {p : t.Proc} → IsClean (file_with b p)
      → 100000 < bench_nodes b (before ++ puts s w p ∷ [])
      → IsEditRefused b before (puts s w p) (BenchTooLarge w.span (bench_nodes b (before ++ puts s w p ∷ [])))
  unknown : {s : Span} {w : SWord} → part_named w.word (parts_after b [] before) ≡ None
      → IsEditRefused b before (drops s w) (UnknownPart w.span w.word)

-- the first refusal, in this order
pub data RefusesEdits (b : Bench) (end : ℕ) : Refusal → Type 0 where
  too_many_shared : {s : Shared} → slice_get b.shared 16 ≡ Some s
      → RefusesEdits b end (TooManyShared s.name.span (length b.shared))
  wrong_heading : {f : ScopeFault} → length b.shared ≤ 16 → HasFirst (heading_file b end) f
      → RefusesEdits b end (Scope f)
  too_many_edits : {e : Edit} → HeadingStands b end → slice_get b.edits 1000 ≡ Some e
      → RefusesEdits b end (TooManyEdits (edit_span e) (length b.edits))
  wrong_edit : (before after : List Edit) {e : Edit} {r : Refusal} → HeadingStands b end
      → length b.edits ≤ 1000 → b.edits ≡ before ++ e ∷ after → EditsStand b [] before
      → IsEditRefused b before e r → RefusesEdits b end r

-- the verdicts after each of these edits, behind those before them
abbrev pub AreVerdicts : Bench → List Edit → List Edit → List Bool → Type 0
AreVerdicts b before [] [] = ⊤
AreVerdicts b before [] (v ∷ vs) = ⊥
AreVerdicts b before (e ∷ es) [] = ⊥
AreVerdicts b before (e ∷ es) (v ∷ vs) =
    (IsTrue v ↔ IsYes (bench_after b (before ++ e ∷ []))) × AreVerdicts b (before ++ e ∷ []) es vs

-- nothing of the bench, of so many bytes, is refused
pub record BenchStands (b : Bench) (end : ℕ) : Type 0 where
  pub heading : HeadingStands b end
  pub few : length b.edits ≤ 1000
  pub edits : EditsStand b [] b.edits

-- nothing is refused, and these are the verdicts: after each edit, and after all of them
pub record IsJudged (b : Bench) (end : ℕ) (v : Verdicts) : Type 0 where
  pub stands : BenchStands b end
  pub each : AreVerdicts b [] b.edits v.each.items
  pub last : IsTrue v.last ↔ IsYes (bench_after b b.edits)

-- what the bench, of so many bytes, answers
abbrev pub IsBenchAnswer : Bench → ℕ → Answer → Type 0
IsBenchAnswer b end (Judged v) = IsJudged b end v
IsBenchAnswer b end (Refused r) = RefusesEdits b end r
