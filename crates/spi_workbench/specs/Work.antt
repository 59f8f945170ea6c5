-- What is kept from one edit to the next. No public clause names it.
use Rattle.std.specs.Prelude.{◌≡◌, ◌≤◌, ℕ, List, [], ◌∷◌, ◌++◌, length, map, Bool, Option, Some, None}
use Rattle.spi_tree.specs.Trees as t
use Rattle.spi_tree.specs.Views.{file_of}
use Rattle.spi_bench.specs.Parts.{nodes_in_parts}
use Rattle.spi_edits.specs.Edits.{Edit, Bench}
use Rattle.spi_edits.specs.declared.text.BenchText.{BenchText}
use Rattle.spi_edits.specs.declared.text.Edit as declared
use Rattle.spi_edits.specs.Views.{edit_of}
use Rattle.spi_term.specs.Spelling.{stopped}
use Rattle.spi_workbench.specs.Reading.{file_with, bench_after}
use Rattle.spi_workbench.specs.Counting.{bench_nodes, nodes_put, edit_nodes}
use Rattle.spi_workbench.specs.Answers.{HeadingStands, EditStands, EditsStand, IsEditRefused, AreVerdicts}
use Rattle.spi_workbench.specs.declared.answer.Refusal.{Refusal}
use Rattle.spi_workbench.specs.declared.counting.Counted.{Counted}
use Rattle.spi_workbench.specs.declared.judging.Work.{Work}

-- the tree is that of the heading and some process
abbrev pub IsHeaded : Bench → ℕ → t.File → Type 0
IsHeaded b news f = (length b.shared ≡ news) × ((p : t.Proc) × (f ≡ file_with b p))

-- the work stands behind these edits
pub record IsAt (b : Bench) (before : List Edit) (w : Work) : Type 0 where
  pub tree : IsHeaded b w.news (file_of w.tree)
  pub bench : w.bench ≡ bench_after b before
  pub count : w.count ≡ bench_nodes b before
  pub few : w.count ≤ 100000
  pub held : nodes_in_parts w.bench.parts ≤ nodes_put b before

-- what an edit comes to: it stands, or it is refused
abbrev pub Comes : Bench → List Edit → Edit → Work → Option Refusal → Type 0
Comes b before e w None = EditStands b before e × IsAt b (before ++ e ∷ []) w
Comes b before e w (Some r) = IsEditRefused b before e r

-- nothing was put yet, and so many nodes will be
abbrev pub WorkStarts : Bench → Work → List declared.Edit → List ℕ → Type 0
WorkStarts b w es ns = IsAt b [] w × (ns ≡ map (λ e. stopped (edit_nodes b (edit_of e))) es)

-- nothing was put yet, behind a heading that stands, and these are the edits and the nodes that they will put
pub record StartsEdits (b : Bench) (end : ℕ) (w : Work) (text : BenchText) (counted : Counted)
    : Type 0 where
  pub heading : HeadingStands b end
  pub starts : WorkStarts b w text.edits.items counted.edits.items
  pub edits : map edit_of text.edits.items ≡ b.edits

-- all these edits stand, and these are the verdicts
pub record StoodEdits (b : Bench) (es : List Edit) (w : Work) (vs : List Bool) : Type 0 where
  pub at : IsAt b es w
  pub edits : EditsStand b [] es
  pub each : AreVerdicts b [] es vs

-- one of the edits is the first that is refused, and so
pub record StoppedEdits (b : Bench) (es : List Edit) (r : Refusal) : Type 0 where
  pub before : List Edit
  pub at : Edit
  pub after : List Edit
  pub cut : es ≡ before ++ at ∷ after
  pub stand : EditsStand b [] before
  pub refused : IsEditRefused b before at r
