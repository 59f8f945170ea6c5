-- A file with a part more.
use Rattle.std.specs.Prelude.{ℕ, ◌<◌, ◌^◌, List, ◌++◌, codes, Some}
use Rattle.spi_rules.specs.Derivations.{RuleUse}
use Rattle.spi_run.specs.Reduction.{Step, act, talk}
use Rattle.spi_scope.specs.StandsFor.{Meant}
pub use Rattle.spi_show.specs.Steps.{step_text, steps_text, schedule_text}

abbrev pub with_derivation : Meant → List RuleUse → Meant
with_derivation f d = record f { derivation = Some d }

abbrev pub with_schedule : Meant → List Step → Meant
with_schedule f steps = record f { schedule = Some steps }

-- bytes, and behind one line feed a text
abbrev pub joined_texts : List ℕ → List ℕ → List ℕ
joined_texts bytes text = bytes ++ (codes "\n" ++ text)

-- the places of a step are below 2 ^ 32, as those of every step that is read are
abbrev pub HasLowPlaces : Step → Type 0
HasLowPlaces (act i) = i < 2 ^ 32
HasLowPlaces (talk i j) = (i < 2 ^ 32) × (j < 2 ^ 32)
