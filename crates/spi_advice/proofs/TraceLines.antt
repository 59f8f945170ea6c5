-- A trace tells the course of its file, or has the line of a refusal.
use Rattle.std.proofs.Common.{◌≡◌, ◌∙◌, ℕ, ◌+◌, ◌-◌, ◌^◌, ◌<◌, List, [], Option, Some, None, Result, Ok, Err, IfOk, length, map, refl, sym, ap, subst, inl, inr, arith}
use Rattle.std.proofs.lemmas.List.{length-map}
use Rattle.std.specs.Global.{Vec}
use Rattle.std.specs.Prelude.{codes}
use Rattle.spi_run.specs.Reduction.{Step}
use Rattle.spi_run.specs.View.{step, event}
use Rattle.spi_run.specs.declared.step.Step as program
use Rattle.spi_scope.specs.Files.{meant, marked, steps_in}
use Rattle.spi_scope.specs.declared.file.File.{File}
use Rattle.spi_course.specs.Fit.{IsFit, IsCourseOf, IsUntold}
use Rattle.spi_course.specs.declared.answer.Account.{Account}
use Rattle.spi_course.specs.declared.answer.Untold.TheVariants.{NoOpponent, NoSchedule, NotOpponent}
use Rattle.spi_course.specs.declared.course.Course.{Course}
use Rattle.spi_report.specs.declared.refusal.Refusal.{Refusal}
use Rattle.spi_report.specs.Refused.{refused_text}
use Rattle.spi_commands.specs.Beside.{HasOffence, offence, opponent_at}
use Rattle.spi_commands.specs.Reading.{IsRead}
use Rattle.spi_commands.specs.Refusals.{IsLineOf, IsMissing, IsUnlexed, missing}
use Rattle.spi_commands.specs.declared.status.Status.TheVariants.{Refused}
use Rattle.spi_commands.proofs.AnswerLines.{line_map, one_line}
use Rattle.spi_commands.proofs.AnswerOffence.{node_of}
use Rattle.spi_commands.proofs.FileParts.{few_used, same_names}
use Rattle.spi_advice.specs.Tracing.{EndsWith, RefusesSchedule, Traces}
use Rattle.spi_advice.specs.declared.tracing.Trace.{Trace}

-- a file that is read can be told
few_steps : (bytes : List ℕ) (f : File) (steps : List Step) (v : Option (Vec program.Step)) → IsRead bytes f → f.schedule ≡ v → steps_in v ≡ Some steps → f.process.names + length steps < 2 ^ 32 - 1
few_steps bytes f steps None read e h = absurd (cc)
few_steps bytes f steps (Some v) read e h =
    let same : map step v.items ≡ steps = (let g : Some (map step v.items) ≡ Some steps = h in cc) in
    let few = few_used bytes f v.items read (ap steps_in e) in
    let each : length (map step v.items) ≡ length v.items = length-map v.items step in
    let count : length (map step v.items) ≡ length steps = ap (λ (l : List Step). length l) same in
    omega (arith, few, each, count)

pub is_fit : (bytes : List ℕ) (f : File) → IsRead bytes f → IsFit (meant f)
is_fit bytes f read = record {
  names = λ o e. same_names bytes f o read e;
  few = λ steps e. few_steps bytes f steps f.schedule read refl e;
}

-- what is told of a file is the trace of its bytes
pub told_trace : {E : Type 0} (bytes : List ℕ) (f : File) (account : Account) (result : Result Trace E) → IsRead bytes f → IsCourseOf (meant f) account.course → IfOk result (λ t. t.course ≡ Some account.course) → IfOk result (λ t. EndsWith account.course.refused (map event account.course.events.items) t.status)
    → IfOk result (λ t. Traces bytes t.course t.status t.output.items)
told_trace bytes f account (Ok t) (tree, is, stands, marks) taken same ends =
    subst (λ (o : Option Course). Traces bytes o t.status t.output.items) (sym same) (record { file = meant f; spells = (tree, is, stands); taken = taken; ends = ends })
told_trace bytes f account (Err e) read taken same ends = tt

-- a refusal, by its line
pub refused_trace : (bytes line : List ℕ) (t : Trace) → t.status ≡ Refused → t.course ≡ None → t.output.items ≡ line → IsLineOf bytes (RefusesSchedule bytes) line → Traces bytes t.course t.status t.output.items
refused_trace bytes line t e none same is =
    subst (λ (o : Option Course). Traces bytes o t.status t.output.items) (sym none) (e, subst (λ (l : List ℕ). IsLineOf bytes (RefusesSchedule bytes) l) (sym same) is)

-- and that of more bytes than a file may have
pub long_trace : (line : List ℕ) (t : Trace) → t.status ≡ Refused → t.course ≡ None → t.output.items ≡ line → ((bytes : List ℕ) → 16777216 < length bytes → IsLineOf bytes (IsUnlexed bytes) line) → (bytes : List ℕ) → 16777216 < length bytes → Traces bytes t.course t.status t.output.items
long_trace line t e none same is bytes l =
    let h = is bytes l in
    refused_trace bytes line t e none same (h.0, inl (inl h.1), h.2)

pub refused_by : {E : Type 0} (bytes : List ℕ) (causes : ℕ → Option ℕ → List ℕ → Type 0) (result : Result Trace E) → ((n : ℕ) (o : Option ℕ) (s : List ℕ) → causes n o s → RefusesSchedule bytes n o s) → IfOk result (λ t. (t.status ≡ Refused) × (t.course ≡ None)) → IfOk result (λ t. IsLineOf bytes causes t.output.items)
    → IfOk result (λ t. Traces bytes t.course t.status t.output.items)
refused_by bytes causes (Ok t) f (e, none) line = refused_trace bytes t.output.items t e none refl (line_map bytes t.output.items causes (RefusesSchedule bytes) f line)
refused_by bytes causes (Err x) f e line = tt

-- the line of a part that is missing
pub missing_line : (part output lines : List ℕ) (r : Refusal) → r.number ≡ 38 → r.offset ≡ None → r.shown.items ≡ part → output ≡ refused_text lines r → IsLineOf lines (IsMissing part) output
missing_line part output lines r n o s line = one_line lines part output 38 None r (IsMissing part) missing n o s line

pub lacks_opponent : {E : Type 0} (bytes lines : List ℕ) (f : File) (result : Result Trace E) → IsRead bytes f → lines ≡ bytes → IsUntold (meant f) NoOpponent → IfOk result (λ t. (t.status ≡ Refused) × (t.course ≡ None)) → IfOk result (λ t. IsLineOf lines (IsMissing (codes "opponent")) t.output.items)
    → IfOk result (λ t. Traces bytes t.course t.status t.output.items)
lacks_opponent bytes lines f result (tree, is, stands, marks) same none e line =
    refused_by bytes (IsMissing (codes "opponent")) result (λ n o s m. inr (inl (meant f, (tree, is, stands), none, m))) e (subst (λ (b : List ℕ). IfOk result (λ t. IsLineOf b (IsMissing (codes "opponent")) t.output.items)) same line)

pub lacks_schedule : {E : Type 0} (bytes lines : List ℕ) (f : File) (result : Result Trace E) → IsRead bytes f → lines ≡ bytes → IsUntold (meant f) NoSchedule → IfOk result (λ t. (t.status ≡ Refused) × (t.course ≡ None)) → IfOk result (λ t. IsLineOf lines (IsMissing (codes "schedule")) t.output.items)
    → IfOk result (λ t. Traces bytes t.course t.status t.output.items)
lacks_schedule bytes lines f result (tree, is, stands, marks) same (o, there, none) e line =
    refused_by bytes (IsMissing (codes "schedule")) result (λ n p s m. inr (inr (inl (meant f, o, (tree, is, stands), there, none, m)))) e (subst (λ (b : List ℕ). IfOk result (λ t. IsLineOf b (IsMissing (codes "schedule")) t.output.items)) same line)

-- the line of an opponent part that is none
pub offence_line : (bytes output : List ℕ) (f : File) (node : ℕ) (r : Refusal) → IsRead bytes f → IsUntold (meant f) (NotOpponent node) → r.number ≡ 39 → r.offset ≡ Some (node_of (marked f) node).from → r.shown.items ≡ [] → output ≡ refused_text bytes r → IsLineOf bytes (HasOffence bytes) output
offence_line bytes output f node r (tree, is, stands, marks) (o, steps, e, g, first) n p s line =
    let there : r.offset ≡ Some (opponent_at tree node).from = p ∙ ap (λ m. Some (node_of m node).from) marks in
    one_line bytes [] output 39 (Some (opponent_at tree node).from) r (HasOffence bytes) (tree, meant f, o, is, stands, e, offence first) n there s line

pub offended : {E : Type 0} (bytes : List ℕ) (f : File) (node : ℕ) (result : Result Trace E) → IsRead bytes f → IsUntold (meant f) (NotOpponent node) → IfOk result (λ t. (t.status ≡ Refused) × (t.course ≡ None)) → IfOk result (λ t. IsLineOf bytes (HasOffence bytes) t.output.items)
    → IfOk result (λ t. Traces bytes t.course t.status t.output.items)
offended bytes f node result (tree, is, stands, marks) (o, steps, there, g, first) e line =
    refused_by bytes (HasOffence bytes) result (λ n p s m. inr (inr (inr (m, (meant f, steps, (tree, is, stands), g))))) e line
