-- What `bench` answers and promises.
use Rattle.std.specs.Prelude.{◌≡◌, ◌↔◌, ℕ, suc, Bool, if◌then◌else◌, IsTrue, Some, List, [], ◌∷◌, ◌++◌, length, map, codes}
use Rattle.std.specs.Fmt.{decimal}
use Rattle.std.specs.declared.option.Option.{Option}
use Rattle.std.specs.Io.KnownBytes.{Appends}
use Rattle.spi_scope.specs.StandsFor.{Meant}
use Rattle.spi_scope.specs.FaultPlaces.{span_from}
use Rattle.spi_bench.specs.Parts.{Benched, IsYes}
use Rattle.spi_bench.specs.Whole.{whole_process_of}
use Rattle.spi_edits.specs.Edits.{Edit, Bench}
use Rattle.spi_edits.specs.Grammar.{whole_bench, IsBench}
use Rattle.spi_edits.specs.Reads.{IsBenchSpelled}
use Rattle.spi_workbench.specs.Reading.{bench_after}
use Rattle.spi_workbench.specs.Answers.{BenchStands, RefusesEdits, AreVerdicts}
use Rattle.spi_workbench.specs.declared.answer.Refusal.{Refusal}
use Rattle.spi_workbench.specs.declared.answer.Refusal.TheVariants.{TooManyShared, Scope, TooManyEdits, UnknownPart, BenchTooLarge}
use Rattle.spi_workbench.specs.declared.answer.Verdicts.{Verdicts}
use Rattle.spi_commands.specs.declared.status.Status.{Status}
use Rattle.spi_commands.specs.declared.status.Status.TheVariants.{Yes, No, Refused}
use Rattle.spi_commands.specs.Spelled.{AreBytesOf, SpellsFile, SpellsDerivable, SpellsUnderivable}
use Rattle.spi_commands.specs.Answers.{Answers, never}
use Rattle.spi_commands.specs.Refusals.{layered, IsLineOf, IsUnlexed, IsUnparsed, scope_number, scope_shown}

-- ---- the bench that bytes spell

-- The bytes are those of a formed bench: its tokens, each node and word with its place, and no node above a
-- nesting limit.
abbrev pub IsBenchOf : List ℕ → Bench → Type 0
IsBenchOf = AreBytesOf IsBenchSpelled

-- and nothing of it is refused
abbrev pub SpellsBench : List ℕ → Bench → Type 0
SpellsBench bytes b = IsBenchOf bytes b × BenchStands b (length bytes)

-- ---- refusals

-- the number of a refusal, where it stands, and what it shows
abbrev pub bench_number : Refusal → ℕ
bench_number (TooManyShared s n) = 122
bench_number (Scope f) = scope_number f
bench_number (TooManyEdits s n) = 121
bench_number (UnknownPart s w) = 120
bench_number (BenchTooLarge s n) = 123

abbrev pub bench_place : Refusal → ℕ
bench_place (TooManyShared s n) = s.from
bench_place (Scope f) = span_from f
bench_place (TooManyEdits s n) = s.from
bench_place (UnknownPart s w) = s.from
bench_place (BenchTooLarge s n) = s.from

abbrev pub bench_shown : Refusal → List ℕ
bench_shown (TooManyShared s n) = decimal n
bench_shown (Scope f) = scope_shown f
bench_shown (TooManyEdits s n) = decimal n
bench_shown (UnknownPart s w) = w
bench_shown (BenchTooLarge s n) = decimal n

-- the bench, of so many bytes, has this first refusal
pub data IsUnjudged (b : Bench) (end : ℕ) : ℕ → Option ℕ → List ℕ → Type 0 where
  unjudged : {r : Refusal} → RefusesEdits b end r
      → IsUnjudged b end (bench_number r) (Some (bench_place r)) (bench_shown r)

abbrev pub HasUnjudged : List ℕ → ℕ → Option ℕ → List ℕ → Type 0
HasUnjudged bytes number offset shown =
    (b : Bench) × IsBenchOf bytes b × IsUnjudged b (length bytes) number offset shown

abbrev pub RefusesBench : List ℕ → ℕ → Option ℕ → List ℕ → Type 0
RefusesBench bytes =
    layered (IsUnlexed bytes) (layered (IsUnparsed whole_bench IsBench bytes) (HasUnjudged bytes))

-- ---- answers

-- the line of a verdict, by the number of its edit, which is counted from 0
abbrev pub verdict_text : ℕ → Bool → List ℕ
verdict_text k v = decimal (suc k) ++ (if v then codes " yes\n" else codes " no\n")

-- a line for each, from number k on
abbrev pub verdicts_text : ℕ → List Bool → List ℕ
verdicts_text k [] = []
verdicts_text k (v ∷ vs) = verdict_text k v ++ verdicts_text (suc k) vs

-- the text has the verdict after each edit
abbrev pub HasVerdicts : Bench → List ℕ → Type 0
HasVerdicts b output = (vs : List Bool) × AreVerdicts b [] b.edits vs × (output ≡ verdicts_text 0 vs)

-- the whole of the parts that are there in the end is derivable with no effect, or isn't
abbrev pub EndsWithYes : Bench → Type 0
EndsWithYes b = IsYes (bench_after b b.edits)

-- yes or no by the verdict in the end, or a refusal
abbrev pub BenchesTo : List ℕ → Status → List ℕ → Type 0
BenchesTo bytes =
    Answers
    (λ output. (b : Bench) × SpellsBench bytes b × EndsWithYes b × HasVerdicts b output)
    (λ output. (b : Bench) × SpellsBench bytes b × (¬ EndsWithYes b) × HasVerdicts b output)
    (IsLineOf bytes (RefusesBench bytes))

-- what is told of verdicts: a line for each, and the last as the status
abbrev pub AreVerdictsTold : Verdicts → Status → List ℕ → Type 0
AreVerdictsTold v =
    Answers
    (λ output. IsTrue v.last × (output ≡ verdicts_text 0 v.each.items))
    (λ output. (¬ IsTrue v.last) × (output ≡ verdicts_text 0 v.each.items)) never

-- ---- the promise

abbrev pub SpellsYes : List ℕ → Type 0
SpellsYes bytes = (b : Bench) × SpellsBench bytes b × EndsWithYes b

abbrev pub SpellsNo : List ℕ → Type 0
SpellsNo bytes = (b : Bench) × SpellsBench bytes b × (¬ EndsWithYes b)

-- the bytes spell no bench of which nothing is refused
abbrev pub SpellsNoBench : List ℕ → Type 0
SpellsNoBench bytes = (b : Bench) → ¬ SpellsBench bytes b

-- the file's process is the whole of these parts, over as many free names
abbrev pub IsWholeOf : Benched → Meant → Type 0
IsWholeOf q file =
    (file.process.names ≡ q.free)
    × (file.process.process ≡ whole_process_of q.free q.shared (map (λ part. part.part.process) q.parts))

-- `check` says the same of a file with this process
pub record IsChecked (q : Benched) (bytes : List ℕ) : Type 0 where
  pub yes : IsYes q ↔ SpellsDerivable bytes
  pub no : (¬ IsYes q) ↔ SpellsUnderivable bytes

-- `bench` answers yes exactly where the bytes spell a bench of which nothing is refused, and the whole of
-- its parts in the end is derivable with no effect; no exactly where that whole isn't; and refused exactly
-- where they spell no such bench. What is appended has a line for each edit, with the verdict of the whole of
-- the parts after it. And where some bytes spell a file with the whole of the parts after some edits, this
-- verdict is what `check` answers on them.
pub record IsBenchedOn (bytes : List ℕ) (old new : Option (List ℕ)) (status : Status) : Type 0 where
  pub yes : (status ≡ Yes) ↔ SpellsYes bytes
  pub no : (status ≡ No) ↔ SpellsNo bytes
  pub refused : (status ≡ Refused) ↔ SpellsNoBench bytes
  pub written : (b : Bench) → SpellsBench bytes b
      → (output : List ℕ) × HasVerdicts b output × Appends old new output
  pub checked : (b : Bench) → SpellsBench bytes b → (before after : List Edit) → b.edits ≡ before ++ after
      → (others : List ℕ) (file : Meant) → SpellsFile others file → IsWholeOf (bench_after b before) file
      → IsChecked (bench_after b before) others
