-- The verdict on a process, and the line of one that isn't derivable with the empty effect.
use Rattle.std.specs.Prelude.{◌≡◌, ℕ, List, [], reverse, codes}
use Rattle.spi_text.specs.declared.lines.Span.{Span}
use Rattle.spi_tree.specs.Trees.{File}
use Rattle.spi_scope.specs.StandsFor.{Meant, StandsFor}
use Rattle.spi_scope.specs.Points.{all_names}
use Rattle.spi_scope.specs.Marks.{places, scopes}
use Rattle.spi_scope.specs.Places.{place_in}
use Rattle.spi_scope.specs.Chains.{chain_at}
use Rattle.spi_fault.specs.Faults.{ToldFault, IsFault}
use Rattle.spi_report.specs.Fault.{fault_text}
use Rattle.spi_commands.specs.declared.status.Status.{Status}
use Rattle.spi_commands.specs.Spelled.{IsTreeOf, IsDerivable}
use Rattle.spi_commands.specs.Answers.{Answers, never}

-- where the nodes of a tree's process stand, and how the names in scope there are spelled
abbrev pub place_at : File → ℕ → Span
place_at tree i = place_in (places tree.process) i

abbrev pub spelled_at : File → ℕ → List (List ℕ)
spelled_at tree i = reverse (chain_at (scopes (all_names [] tree.decls) tree.process) i)

-- the text is the line of the fault of the process that the bytes spell
abbrev pub IsNo : List ℕ → List ℕ → Type 0
IsNo bytes output =
    (tree : File) × (file : Meant) × (fault : ToldFault) × IsTreeOf bytes tree × StandsFor tree file
    × IsFault (spelled_at tree) file.process.names file.process.process fault
    × (output ≡ fault_text bytes (place_at tree) (spelled_at tree) fault)

-- yes where the file's process is derivable with the empty effect, and else the no with its line
abbrev pub IsVerdict : List ℕ → Meant → Status → List ℕ → Type 0
IsVerdict bytes file =
    Answers (λ output. IsDerivable file × (output ≡ codes "yes\n"))
    (λ output. (¬ IsDerivable file) × IsNo bytes output) never
