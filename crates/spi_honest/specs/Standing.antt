-- Roles that stand at places, each with what is left of its process. No public clause names it.
use Rattle.std.specs.Prelude.{◌≡◌, ℕ, List, [], length, Some, slice_get}
use Rattle.spi_tree.specs.declared.tree.SWord.{SWord}
use Rattle.spi_tree.specs.Trees as t
use Rattle.spi_term.specs.Lists.{At, In}
use Rattle.spi_term.specs.Term.{Process, stop}
use Rattle.spi_narrate.specs.Narrations as n
use Rattle.spi_scope.specs.Scope.{Word}
use Rattle.spi_weave.specs.Woven.{role_process}
use Rattle.spi_honest.specs.Reading.{Map, word_in}
use Rattle.spi_honest.specs.Holds.{Holds, AreClosed}

-- roles with one word are one
pub record AreApart (roles : List SWord) : Type 0 where
  pub once : (r q : SWord) → In r roles → In q roles → r.word ≡ q.word → r ≡ q

-- what is left of a role's process, at its place
pub record StoodRole (place : Word → ℕ) (tree : SWord → t.Proc) (has : Word → Map) (ps : List Process)
    (r : SWord) : Type 0 where
  pub process : Process
  pub there : At ps (place r.word) process
  pub holds : Holds (tree r) [] (word_in (has r.word)) process

pub record StandRoles (roles : List SWord) (place : Word → ℕ) (tree : SWord → t.Proc) (has : Word → Map)
    (Idle : ℕ → Process → Type 0) (ps : List Process) : Type 0 where
  pub closed : (w : Word) → AreClosed (word_in (has w))
  pub there : (r : SWord) → In r roles → StoodRole place tree has ps r
  pub apart : (r q : SWord) → In r roles → In q roles → place r.word ≡ place q.word → r ≡ q
  pub others : (i : ℕ) (p : Process) → At ps i p → ((r : SWord) → In r roles → place r.word ≡ i → ⊥)
      → Idle i p

-- every place without a role is `stop`, and every one but this
abbrev pub StoppedRoles : ℕ → Process → Type 0
StoppedRoles i p = p ≡ stop

abbrev pub StoppedBut : ℕ → ℕ → Process → Type 0
StoppedBut k i p = (k ≡ i → ⊥) → p ≡ stop

-- what is left of each role's lines
abbrev pub left : List n.Line → SWord → t.Proc
left ls r = role_process r ls

-- the place of each role by its number
pub record Locates (roles : List SWord) (place : Word → ℕ) (is : List ℕ) : Type 0 where
  pub many : length is ≡ length roles
  pub each : (j : ℕ) (r : SWord) → slice_get roles j ≡ Some r → slice_get is j ≡ Some (place r.word)
