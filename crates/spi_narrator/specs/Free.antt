-- Lines whose word after `on` is no free name. No public clause names it.
use Rattle.std.specs.Prelude.{◌≡◌, ℕ, Some}
use Rattle.spi_tree.specs.declared.tree.SWord.{SWord}
use Rattle.spi_scope.specs.Scope.{Names, number_of}
use Rattle.spi_narrate.specs.Narrations as n

-- the word after `on` of a line is no free name
abbrev pub IsStrange : Names → n.Line → SWord → Type 0
IsStrange free (n.local s r f) w = ⊥
IsStrange free (n.pass s from to c m x) w = (c ≡ w) × ((i : ℕ) → number_of free w.word ≡ Some i → ⊥)
