-- The file that a tree stands for.
use Rattle.std.specs.Prelude.{◌≡◌, ℕ, List, [], length, reverse, map, Option, Some, None}
use Rattle.spi_tree.specs.Trees as t
use Rattle.spi_term.specs.Spelling.{Spelling}
use Rattle.spi_run.specs.Reduction.{Step}
use Rattle.spi_rules.specs.Derivations.{RuleUse}
use Rattle.spi_scope.specs.Scope.{Word, Names, Abbreviations}
use Rattle.spi_scope.specs.Meaning.{process_over}
use Rattle.spi_scope.specs.Parts.{step_in, uses_in}
use Rattle.spi_scope.specs.Points.{all_names, all_types}
use Rattle.spi_scope.specs.First.{IsClean}

-- What a file means. A process comes with how many free names it is over, and a derivation is its rule uses in preorder.
pub record Meant : Type 0 where
  pub version : ℕ
  pub names : List Word
  pub process : Spelling
  pub opponent : Option Spelling
  pub schedule : Option (List Step)
  pub derivation : Option (List RuleUse)

-- a process over the free names
abbrev pub over_free : Abbreviations → Names → t.Proc → Spelling
over_free ts xs p = record { names = length xs; process = process_over (length xs) ts xs p }

abbrev pub opponent_over : Abbreviations → Names → Option t.Proc → Option Spelling
opponent_over ts xs None = None
opponent_over ts xs (Some p) = Some (over_free ts xs p)

abbrev pub schedule_in : Option (List t.Step) → Option (List Step)
schedule_in None = None
schedule_in (Some xs) = Some (map step_in xs)

abbrev pub derivation_in : Option t.Deriv → Option (List RuleUse)
derivation_in None = None
derivation_in (Some d) = Some (uses_in d)

-- The tree stands for the file: nothing is wrong with it, the free names come in the order of their declaration, and
-- process and opponent see them and the abbreviations.
pub record StandsFor (tree : t.File) (file : Meant) : Type 0 where
  pub clean : IsClean tree
  pub version : file.version ≡ tree.version
  pub names : file.names ≡ reverse (all_names [] tree.decls)
  pub process : file.process ≡ over_free (all_types [] [] tree.decls) (all_names [] tree.decls) tree.process
  pub opponent : file.opponent
      ≡ opponent_over (all_types [] [] tree.decls) (all_names [] tree.decls) tree.opponent
  pub schedule : file.schedule ≡ schedule_in tree.schedule
  pub derivation : file.derivation ≡ derivation_in tree.derivation
