-- What `bench` answers on a text.
use Rattle.std.proofs.Common.{inr, ℕ, List, Result, Ok, Err, IfOk, length}
use Rattle.spi_edits.specs.Edits.{Bench}
use Rattle.spi_workbench.specs.Answers.{IsJudged, RefusesEdits}
use Rattle.spi_workbench.specs.declared.answer.Refusal.{Refusal}
use Rattle.spi_workbench.specs.declared.answer.Verdicts.{Verdicts}
use Rattle.spi_commands.specs.declared.answer.Answer.{Answer}
use Rattle.spi_commands.specs.declared.answer.Stop.{Stop}
use Rattle.spi_commands.specs.declared.reading.Unread.{Unread}
use Rattle.spi_commands.specs.declared.reading.Unread.TheVariants as unread
use Rattle.spi_commands.specs.declared.status.Status.{Status}
use Rattle.spi_commands.specs.declared.status.Status.TheVariants.{Yes, No, Refused, ReadFault, WriteFault, NoMemory, Usage}
use Rattle.spi_commands.specs.Reading.{IsUnreadBy, TellsRefusal}
use Rattle.spi_commands.specs.Benching.{IsBenchOf, AreVerdictsTold, IsUnjudged, unjudged, RefusesBench, BenchesTo, bench_number, bench_place, bench_shown}
use Rattle.spi_commands.proofs.FileRefusals.{unread_as}

-- ---- refusals

-- what is told of a refusal is one of the bench
pub tells_unjudged : (b : Bench) (end : ℕ) (r : Refusal) (u : Unread) → RefusesEdits b end r → TellsRefusal (bench_number r) (bench_place r) (bench_shown r) u → IsUnreadBy (IsUnjudged b end) u
tells_unjudged b end r u h t = unread_as (IsUnjudged b end) (bench_number r) (bench_place r) (bench_shown r) u (unjudged h) t

-- and of the bytes that spell it
pub unjudged_refuses : (bytes : List ℕ) (b : Bench) (u : Unread) → IsBenchOf bytes b → IsUnreadBy (IsUnjudged b (length bytes)) u → IsUnreadBy (RefusesBench bytes) u
unjudged_refuses bytes b (unread.Refused r) is h = inr (inr (b, is, h))
unjudged_refuses bytes b unread.NoMemory is h = tt

-- ---- verdicts

told_one : (bytes : List ℕ) (b : Bench) (v : Verdicts) → IsBenchOf bytes b → IsJudged b (length bytes) v → (status : Status) (output : List ℕ) → AreVerdictsTold v status output → BenchesTo bytes status output
told_one bytes b v is judged Yes output (h, text) = (b, (is, judged.stands), judged.last.0 h, (v.each.items, judged.each, text))
told_one bytes b v is judged No output (h, text) = (b, (is, judged.stands), λ y. h (judged.last.1 y), (v.each.items, judged.each, text))
told_one bytes b v is judged Refused output h = absurd h
told_one bytes b v is judged ReadFault output h = absurd h
told_one bytes b v is judged WriteFault output h = absurd h
told_one bytes b v is judged NoMemory output h = absurd h
told_one bytes b v is judged Usage output h = absurd h

pub told_to : (bytes : List ℕ) (v : Verdicts) → (b : Bench) × IsBenchOf bytes b × IsJudged b (length bytes) v → (result : Result Answer Stop) → IfOk result (λ a. AreVerdictsTold v a.status a.output.items) → IfOk result (λ a. BenchesTo bytes a.status a.output.items)
told_to bytes v (b, is, judged) (Ok a) h = told_one bytes b v is judged a.status a.output.items h
told_to bytes v b (Err s) h = tt
