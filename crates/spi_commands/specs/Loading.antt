-- What `load` answers and promises.
use Rattle.std.specs.Prelude.{◌≡◌, ℕ, ◌+◌, ◌-◌, ◌*◌, List, length}
use Rattle.std.specs.declared.option.Option.{Option}
use Rattle.std.specs.Io.KnownBytes.{Appends}
use Rattle.spi_tree.specs.Trees.{File}
use Rattle.spi_gen.specs.Sessions.{IsSessions}
use Rattle.spi_rules.specs.Derivations.{RuleUse}
use Rattle.spi_scope.specs.Points.{in_order, file_points}
use Rattle.spi_scope.specs.First.{count_points}
use Rattle.spi_scope.specs.StandsFor.{Meant, StandsFor}
use Rattle.spi_deriv.specs.Canonical.{Canonical}
use Rattle.spi_report.specs.Loaded.{loaded_text}
use Rattle.spi_commands.specs.declared.status.Status.{Status}
use Rattle.spi_commands.specs.declared.status.Status.TheVariants.{Yes}
use Rattle.spi_commands.specs.Answers.{Answers, never}

-- The text has the count of the file of so many sessions, and the number of rules of its process's canonical derivation.
-- These are 81 nodes and 31 rules a session, and 11 nodes more and one rule less.
abbrev pub IsLoaded : ℕ → List ℕ → Type 0
IsLoaded k output =
    (tree : File) × (file : Meant) × (d : List RuleUse) × IsSessions k tree × StandsFor tree file
    × Canonical d file.process.names file.process.process
    × (output ≡ loaded_text k (count_points (in_order (file_points tree))) (length d))
    × (output ≡ loaded_text k (81 * k + 11) (31 * k - 1))

-- always yes
abbrev pub LoadsTo : ℕ → Status → List ℕ → Type 0
LoadsTo k = Answers (IsLoaded k) never never

-- `load` answers yes, and what is appended is that text.
pub record IsLoadedOn (k : ℕ) (old new : Option (List ℕ)) (status : Status) : Type 0 where
  pub yes : status ≡ Yes
  pub written : (output : List ℕ) × IsLoaded k output × Appends old new output
