-- What is answered on a file.
use Rattle.std.proofs.Common.{◌≡◌, ◌↔◌, ℕ, List, sym, subst, length, reverse, Option, Some, None, Result, Ok, Err, IfOk, IsNone, IsSome, ◌≤◌}
use Rattle.spi_text.specs.declared.lines.Span.{Span}
use Rattle.spi_scope.specs.declared.file.File.{File}
use Rattle.spi_scope.specs.Files.{meant, Marked, marked}
use Rattle.spi_scope.specs.Places.{place_in}
use Rattle.spi_scope.specs.Chains.{chain_at}
use Rattle.spi_fault.specs.Faults.{ToldFault, IsFault}
use Rattle.spi_report.specs.Fault.{fault_text}
use Rattle.spi_commands.specs.declared.answer.Answer.{Answer}
use Rattle.spi_commands.specs.declared.answer.Stop.{Stop}
use Rattle.spi_commands.specs.declared.status.Status.{Status}
use Rattle.spi_commands.specs.declared.status.Status.TheVariants.{Yes, No, Refused, ReadFault, WriteFault, NoMemory, Usage}
use Rattle.spi_commands.specs.Spelled.{IsDerivable}
use Rattle.spi_commands.specs.NoLine.{IsNo, IsVerdict}
use Rattle.spi_commands.specs.Checking.{ChecksTo}
use Rattle.spi_commands.specs.Reading.{IsRead}
use Rattle.spi_commands.proofs.FilePlaces.{place_within}

-- what the file tells of places and names is what its tree has
abbrev pub place_told : Marked → ℕ → Span
place_told m i = place_in m.process i

abbrev pub names_told : Marked → ℕ → List (List ℕ)
names_told m i = reverse (chain_at m.scopes i)

pub stands_within : (bytes : List ℕ) (f : File) (i : ℕ) → IsRead bytes f → (place_told (marked f) i).from ≤ length bytes
stands_within bytes f i (tree, is, stands, marks) = subst (λ m. (place_told m i).from ≤ length bytes) (sym marks) (place_within bytes tree is i)

pub no_line : (bytes output : List ℕ) (f : File) (fault : ToldFault) → IsRead bytes f → IsFault (names_told (marked f)) f.process.names f.process.process fault → output ≡ fault_text bytes (place_told (marked f)) (names_told (marked f)) fault → IsNo bytes output
no_line bytes output f fault (tree, is, stands, marks) h e = (
  tree,
  meant f,
  fault,
  is,
  stands,
  subst (λ m. IsFault (names_told m) f.process.names f.process.process fault) marks h,
  subst (λ m. output ≡ fault_text bytes (place_told m) (names_told m) fault) marks e,
)

pub rejects : (bytes : List ℕ) (f : File) (fault : ToldFault) (result : Result Answer Stop) → IsRead bytes f → IsFault (names_told (marked f)) f.process.names f.process.process fault
    → IfOk result (λ a. (a.status ≡ No) × (a.output.items ≡ fault_text bytes (place_told (marked f)) (names_told (marked f)) fault)) → IfOk result (λ a. (a.status ≡ No) × IsNo bytes a.output.items)
rejects bytes f fault (Ok a) r is h = (h.0, no_line bytes a.output.items f fault r is h.1)
rejects bytes f fault (Err e) r is h = tt

-- a no
pub rejected_verdict : (bytes : List ℕ) (f : File) (result : Result Answer Stop) → (IsDerivable (meant f) → ⊥) → IfOk result (λ a. (a.status ≡ No) × IsNo bytes a.output.items) → IfOk result (λ a. IsVerdict bytes (meant f) a.status a.output.items)
rejected_verdict bytes f (Ok a) none h =
    let wanted : IsVerdict bytes (meant f) No a.output.items = (none, h.1) in
    subst (λ s. IsVerdict bytes (meant f) s a.output.items) (sym h.0) wanted
rejected_verdict bytes f (Err e) none h = tt

-- a verdict is what `check` answers
checks : (bytes output : List ℕ) (f : File) (status : Status) → IsRead bytes f → IsVerdict bytes (meant f) status output → ChecksTo bytes status output
checks bytes output f Yes (tree, is, stands, marks) h = ((meant f, (tree, is, stands), h.0), h.1)
checks bytes output f No (tree, is, stands, marks) h = ((meant f, (tree, is, stands), h.0), h.1)
checks bytes output f Refused r h = elim h [ ]
checks bytes output f ReadFault r h = elim h [ ]
checks bytes output f WriteFault r h = elim h [ ]
checks bytes output f NoMemory r h = elim h [ ]
checks bytes output f Usage r h = elim h [ ]

pub checked : (bytes : List ℕ) (f : File) (result : Result Answer Stop) → IsRead bytes f → IfOk result (λ a. IsVerdict bytes (meant f) a.status a.output.items) → IfOk result (λ a. ChecksTo bytes a.status a.output.items)
checked bytes f (Ok a) r h = checks bytes a.output.items f a.status r h
checked bytes f (Err e) r h = tt

pub none_derivable : {A : Type 0} (o : Option A) (x : A) (D : Type 0) → o ≡ Some x → IsNone o ↔ D → D → ⊥
none_derivable o x D e h d = absurd (let n : IsNone (Some x) = subst IsNone e (h.1 d) in cc n)

-- and where no derivation is given, there is none
pub none_derived : {A : Type 0} (o : Option A) (D : Type 0) → o ≡ None → IsSome o ↔ D → D → ⊥
none_derived {A} o D e h d = absurd (let n : IsSome {T = A} None = subst (λ (o : Option A). IsSome o) e (h.1 d) in cc n)
