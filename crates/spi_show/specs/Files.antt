-- The canonical text of a file.
use Rattle.std.specs.Prelude.{◌≡◌, ℕ, ◌==◌, if◌then◌else◌, List, [], ◌∷◌, ◌++◌, codes, Option, Some, None}
use Rattle.spi_term.specs.Spelling.{Spelling}
use Rattle.spi_run.specs.Reduction.{Step}
use Rattle.spi_rules.specs.Derivations.{RuleUse}
use Rattle.spi_scope.specs.StandsFor.{Meant}
use Rattle.spi_show.specs.Spelled.{name_text, IsShift}
use Rattle.spi_show.specs.Processes.{alone, process_text}
use Rattle.spi_show.specs.Steps.{schedule_text}
use Rattle.spi_show.specs.Derivations.{derivation_text}

abbrev pub version_text : ℕ → List ℕ
version_text v = if v == 2 then codes "version 2;\n" else []

-- further words, each behind a comma
abbrev pub words_text : List (List ℕ) → List ℕ
words_text [] = []
words_text (w ∷ ws) = codes ", " ++ (w ++ words_text ws)

abbrev pub free_text : List (List ℕ) → List ℕ
free_text [] = []
free_text (w ∷ ws) = codes "free " ++ (w ++ (words_text ws ++ codes ";\n"))

-- a process on one line
abbrev pub spelling_line : (ℕ → List ℕ) → Spelling → List ℕ
spelling_line spell p = process_text spell alone p.names p.process ++ codes "\n"

abbrev pub opponent_text : (ℕ → List ℕ) → Option Spelling → List ℕ
opponent_text spell None = []
opponent_text spell (Some p) = codes "opponent " ++ spelling_line spell p

abbrev pub schedule_part : Option (List Step) → List ℕ
schedule_part None = []
schedule_part (Some steps) = schedule_text steps

abbrev pub derivation_part : Option (List RuleUse) → List ℕ
derivation_part None = []
derivation_part (Some uses) = derivation_text uses

-- the file, where the numbers of bound names are moved up by s
abbrev pub file_text : ℕ → Meant → List ℕ
file_text s f =
    version_text f.version
    ++ (free_text f.names ++ (codes "process " ++ (spelling_line (name_text s f.names) f.process
    ++ (opponent_text (name_text s f.names) f.opponent
    ++ (schedule_part f.schedule ++ derivation_part f.derivation)))))

-- the text is the canonical one of the file
abbrev pub IsCanonicalText : Meant → List ℕ → Type 0
IsCanonicalText f text = (s : ℕ) × IsShift f.names s × (text ≡ file_text s f)
