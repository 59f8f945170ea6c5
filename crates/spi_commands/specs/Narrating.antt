-- What `narrate` answers and promises.
use Rattle.std.specs.Prelude.{◌≡◌, ◌↔◌, ◌⊎◌, ℕ, List, [], Some}
use Rattle.std.specs.declared.option.Option.{Option}
use Rattle.std.specs.Fmt.{decimal}
use Rattle.std.specs.Io.KnownBytes.{Appends}
use Rattle.spi_text.specs.declared.lines.Span.{Span}
use Rattle.spi_term.specs.Lists.{At}
use Rattle.spi_term.specs.Term.{Process, stop}
use Rattle.spi_run.specs.Reduction.{Event}
use Rattle.spi_scope.specs.FaultPlaces.{span_from}
use Rattle.spi_scope.specs.StandsFor.{Meant}
use Rattle.spi_narrate.specs.Narrations.{Narration}
use Rattle.spi_narrate.specs.Grammar.{whole_narration, IsNarration}
use Rattle.spi_narrate.specs.Faults.{items_of, IsFirstFault, IsFaultless}
use Rattle.spi_narrate.specs.Reads.{IsNarrationSpelled}
use Rattle.spi_narrate.specs.declared.fault.NarrateFault.TheVariants as faults
use Rattle.spi_honest.specs.Narrated.{Told, NarratesSmall, free_of, narrated_begin}
use Rattle.spi_narrator.specs.declared.answer.Refusal.{Refusal}
use Rattle.spi_narrator.specs.declared.answer.Refusal.TheVariants.{NotFree, Scope, NotReady, TooLarge}
use Rattle.spi_narrator.specs.Answers.{IsTold, RefusesNarration as RefusesTelling}
use Rattle.spi_commands.specs.declared.status.Status.{Status}
use Rattle.spi_commands.specs.declared.status.Status.TheVariants.{Yes, Refused}
use Rattle.spi_commands.specs.Spelled.{AreBytesOf, SpellsFile}
use Rattle.spi_commands.specs.Answers.{Answers, never}
use Rattle.spi_commands.specs.Refusals.{layered, IsLineOf, IsUnlexed, IsUnparsed, scope_number, scope_shown}
use Rattle.spi_commands.specs.Canonical.{IsPrint, IsLong, HasLongPrint}
use Rattle.spi_commands.specs.Replays.{RunsThrough}
use Rattle.spi_commands.specs.Replaying.{ReplaysTo, IsReplayText}

-- The bytes are those of a formed narration: its tokens, each node and word with its place, and no node above a
-- nesting limit.
abbrev pub IsNarrationOf : List ℕ → Narration → Type 0
IsNarrationOf = AreBytesOf IsNarrationSpelled

-- and nothing is wrong in it behind the grammar
abbrev pub SpellsNarration : List ℕ → Narration → Type 0
SpellsNarration bytes x = IsNarrationOf bytes x × IsFaultless (items_of x)

-- ---- refusals

-- a role that isn't declared, a role that is declared again, or an item past its limit, of which the first in reading
-- order
pub data IsFaulty (x : Narration) : ℕ → Option ℕ → List ℕ → Type 0 where
  unknown_role : (s : Span) {w : List ℕ} → IsFirstFault (items_of x) (faults.UnknownRole s w)
      → IsFaulty x 100 (Some s.from) w
  role_twice : (s : Span) {w : List ℕ} → IsFirstFault (items_of x) (faults.RoleTwice s w)
      → IsFaulty x 101 (Some s.from) w
  narration_too_large : (s : Span) (count : ℕ) → IsFirstFault (items_of x) (faults.NarrationTooLarge s count)
      → IsFaulty x 103 (Some s.from) (decimal count)

abbrev pub HasFaulty : List ℕ → ℕ → Option ℕ → List ℕ → Type 0
HasFaulty bytes number offset shown = (x : Narration) × IsNarrationOf bytes x × IsFaulty x number offset shown

-- the number of a refusal to tell a narration, where it stands, and what it shows
abbrev pub telling_number : Refusal → ℕ
telling_number (NotFree s w) = 30
telling_number (Scope f) = scope_number f
telling_number (NotReady s) = 102
telling_number (TooLarge s n) = 104

abbrev pub telling_from : Refusal → ℕ
telling_from (NotFree s w) = s.from
telling_from (Scope f) = span_from f
telling_from (NotReady s) = s.from
telling_from (TooLarge s n) = s.from

abbrev pub telling_shown : Refusal → List ℕ
telling_shown (NotFree s w) = w
telling_shown (Scope f) = scope_shown f
telling_shown (NotReady s) = []
telling_shown (TooLarge s n) = decimal n

-- a word after `on` is no free name, the woven tree stands for no file, or a line isn't ready or has too large a
-- message
pub data IsNarrationUntold (x : Narration) : ℕ → Option ℕ → List ℕ → Type 0 where
  untold : {r : Refusal} → RefusesTelling x r
      → IsNarrationUntold x (telling_number r) (Some (telling_from r)) (telling_shown r)

abbrev pub HasUntold : List ℕ → ℕ → Option ℕ → List ℕ → Type 0
HasUntold bytes number offset shown =
    (x : Narration) × SpellsNarration bytes x × IsNarrationUntold x number offset shown

-- the text of the file that the narration is told by would be too long
abbrev pub HasLongTelling : List ℕ → ℕ → Option ℕ → List ℕ → Type 0
HasLongTelling bytes number offset shown =
    (x : Narration) × (told : Meant) × SpellsNarration bytes x × IsTold x told
    × HasLongPrint told number offset shown

abbrev pub RefusesNarrate : List ℕ → ℕ → Option ℕ → List ℕ → Type 0
RefusesNarrate bytes =
    layered (IsUnlexed bytes) (layered (IsUnparsed whole_narration IsNarration bytes)
    (layered (HasFaulty bytes) (layered (HasUntold bytes) (HasLongTelling bytes))))

-- ---- answers

-- the bytes spell a narration that is told by a file, and the text is the canonical one of that file
abbrev pub SpellsTelling : List ℕ → List ℕ → Type 0
SpellsTelling bytes output =
    (x : Narration) × (told : Meant) × SpellsNarration bytes x × IsTold x told × IsPrint told output

-- that text, or a refusal
abbrev pub NarratesTo : List ℕ → Status → List ℕ → Type 0
NarratesTo bytes = Answers (SpellsTelling bytes) never (IsLineOf bytes (RefusesNarrate bytes))

-- ---- the promise

-- no narration that the bytes spell is told
abbrev pub SpellsUntold : List ℕ → Type 0
SpellsUntold bytes = (x : Narration) (told : Meant) → SpellsNarration bytes x → IsTold x told → ⊥

abbrev pub SpellsLongTelling : List ℕ → Type 0
SpellsLongTelling bytes =
    (x : Narration) × (told : Meant) × SpellsNarration bytes x × IsTold x told × IsLong told

-- The schedule of the file runs through with exactly the events that the narration has, line by line, and ends with
-- `stop` at every place; and what `replay` answers on the text is these events.
pub record RunsAsTold (x : Narration) (told : Meant) (output : List ℕ) : Type 0 where
  pub events : List Event
  pub end : Told
  pub narrates : NarratesSmall (free_of x) (narrated_begin x) x.lines events end
  pub run : RunsThrough told events
  pub stops : (i : ℕ) (p : Process) → At run.last.configuration.places i p → p ≡ stop
  pub replays : (status : Status) (text : List ℕ) → ReplaysTo output status text
      → IsReplayText told events text

-- `narrate` answers yes exactly where the bytes spell a narration that is told by a file whose canonical text is no
-- longer than a file may be, and refused where it is longer or no such narration is told. After a yes what was
-- appended is that text, it spells that file, and the file's schedule runs as the narration tells.
pub record IsNarrated (bytes : List ℕ) (old new : Option (List ℕ)) (status : Status) : Type 0 where
  pub yes : (status ≡ Yes) ↔ ((output : List ℕ) × SpellsTelling bytes output)
  pub refused : (status ≡ Refused) ↔ (SpellsUntold bytes ⊎ SpellsLongTelling bytes)
  pub told : status ≡ Yes → (x : Narration) → SpellsNarration bytes x
      → (told : Meant) × (output : List ℕ) × Appends old new output × IsTold x told × IsPrint told output
      × SpellsFile output told × RunsAsTold x told output
