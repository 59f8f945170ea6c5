-- How far a narration was told. No public clause names it.
use Rattle.std.specs.Prelude.{◌≡◌, ℕ, zero, suc, ◌+◌, ◌≤◌, List, [], ◌∷◌, ◌++◌, length, Some, slice_get, ◌<◌}
use Rattle.spi_tree.specs.declared.tree.SWord.{SWord}
use Rattle.spi_heading.specs.Headings.{Shared, with_shared}
use Rattle.spi_narrate.specs.Narrations as n
use Rattle.spi_term.specs.Term.{Process, stop}
use Rattle.spi_weave.specs.Woven.{role_process, roles_beside, roles_together, sharing}
use Rattle.spi_run.specs.Reduction.{Step, Event}
use Rattle.spi_replay.specs.Stepping.{Pooled}
use Rattle.spi_scope.specs.Scope.{Word}
use Rattle.spi_scope.specs.StandsFor.{Meant}
use Rattle.spi_honest.specs.Narrated.{Told, NarratesSmall, free_of, narrated_begin}
use Rattle.spi_honest.specs.Schedule.{line_steps, shared_steps, role_steps, places_of, others, honest_steps}
use Rattle.spi_honest.specs.Honest.{Replays, opening}
use Rattle.spi_honest.specs.Reading.{word_in, names_numbered}
use Rattle.spi_honest.specs.Holds.{Holds}
use Rattle.spi_honest.specs.Standing.{StandRoles, StoppedRoles, Locates, left}

-- these lines were told, and the rest is left
pub record Progress (x : n.Narration) (file : Meant) (before rest : List n.Line) (pool : Pooled)
    (steps : List Step) (events : List Event) (is : List ℕ) : Type 0 where
  pub cut : x.lines ≡ before ++ rest
  pub told : Told
  pub place : Word → ℕ
  pub narrates : NarratesSmall (free_of x) (narrated_begin x) before events told
  pub replays : Replays (opening file) steps events pool
  pub names : pool.configuration.names ≡ told.names
  pub stands : StandRoles x.roles place (left rest) told.has StoppedRoles pool.configuration.places
  pub located : Locates x.roles place is
  pub order : honest_steps x ≡ steps ++ line_steps place (length pool.configuration.places) rest
  pub few : length pool.configuration.places ≤ 9 + length before
  pub few_names : pool.configuration.names ≤ 100016 + length before
  pub most : pool.most ≡ 5000

-- the processes of places 0, 2, 3 and so on, as the opponent is at place 1
abbrev pub place_number : ℕ → ℕ
place_number zero = 0
place_number (suc j) = suc (suc j)

abbrev pub beside_stop : List Process → List Process
beside_stop [] = stop ∷ []
beside_stop (p ∷ ps) = p ∷ stop ∷ ps

-- what comes behind the steps of the shared names
abbrev pub steps_behind : n.Narration → List Step
steps_behind x = line_steps (places_of x.roles) (2 + length (others x.roles)) x.lines

-- these shared names were made, and the rest is left
pub record Shares (x : n.Narration) (file : Meant) (before rest : List Shared) (pool : Pooled)
    (steps : List Step) : Type 0 where
  pub cut : x.shared ≡ before ++ rest
  pub process : Process
  pub places : pool.configuration.places ≡ beside_stop (process ∷ [])
  pub names : pool.configuration.names ≡ length (with_shared (free_of x) before)
  pub holds : Holds (sharing rest (roles_together x.lines x.roles)) []
      (word_in (names_numbered (with_shared (free_of x) before))) process
  pub replays : Replays (opening file) steps [] pool
  pub order : honest_steps x ≡ steps
      ++ (shared_steps rest ++ role_steps 0 2 (others x.roles) ++ steps_behind x)
  pub few_names : pool.configuration.names ≤ 100000 + length before
  pub most : pool.most ≡ 5000

-- each role's process, where all of its lines are left
pub data EachRole (x : n.Narration) : List SWord → List Process → Type 0 where
  each_none : EachRole x [] []
  each_role : {r : SWord} {rs : List SWord} {p : Process} {ps : List Process}
      → Holds (role_process r x.lines) [] (word_in ((narrated_begin x).has r.word)) p → EachRole x rs ps
      → EachRole x (r ∷ rs) (p ∷ ps)

-- these roles were taken apart, and the last place has this one with the rest
pub record SpreadsRoles (x : n.Narration) (file : Meant) (before : List SWord) (role : SWord)
    (rest : List SWord)
    (pool : Pooled) (steps : List Step) : Type 0 where
  pub cut : x.roles ≡ before ++ role ∷ rest
  pub apart : List Process
  pub last : Process
  pub each : EachRole x before apart
  pub holds : Holds (roles_beside x.lines role rest) [] (word_in ((narrated_begin x).has role.word)) last
  pub places : pool.configuration.places ≡ beside_stop (apart ++ last ∷ [])
  pub names : pool.configuration.names ≡ (narrated_begin x).names
  pub replays : Replays (opening file) steps [] pool
  pub order : honest_steps x ≡ steps
      ++ (role_steps (place_number (length before)) (2 + length before) rest ++ steps_behind x)
  pub few_names : pool.configuration.names ≤ 100016
  pub most : pool.most ≡ 5000

-- the places of the roles by their numbers
pub record AreRolePlaces (count : ℕ) (is : List ℕ) : Type 0 where
  pub many : length is ≡ count
  pub each : (j : ℕ) → j < count → slice_get is j ≡ Some (place_number j)
