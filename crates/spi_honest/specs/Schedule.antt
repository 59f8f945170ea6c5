-- The order of an honest schedule's steps.
use Rattle.std.specs.Prelude.{ℕ, suc, ◌+◌, List, [], ◌∷◌, ◌++◌, length, if◌then◌else◌}
use Rattle.std.specs.Str.{bytes_eq}
use Rattle.spi_tree.specs.declared.tree.SWord.{SWord}
use Rattle.spi_heading.specs.Headings.{Shared}
use Rattle.spi_narrate.specs.Narrations as n
use Rattle.spi_run.specs.Reduction.{Step, act, talk}
use Rattle.spi_scope.specs.Scope.{Word}

-- the place of each role, with one that is elsewhere
abbrev pub moved : Word → ℕ → (Word → ℕ) → Word → ℕ
moved r i place q = if bytes_eq r q then i else place q

-- A role's line is an act at its place. A message from one role to another is an act at the sender's place, which takes
-- the output and the sender's further process apart, and then the talk. The further process is appended
abbrev pub line_steps : (Word → ℕ) → ℕ → List n.Line → List Step
line_steps place k [] = []
line_steps place k (n.local s r f ∷ ls) = act (place r.word) ∷ line_steps place k ls
line_steps place k (n.pass s from to c m x ∷ ls) =
    act (place from.word) ∷ talk (place from.word) (moved from.word k place to.word)
    ∷ line_steps (moved from.word k place) (suc k) ls

-- one act for each shared name
abbrev pub shared_steps : List Shared → List Step
shared_steps [] = []
shared_steps (x ∷ xs) = act 0 ∷ shared_steps xs

-- one act for each parallel composition of roles: the first is at place 0, and what it appends is at place 2, as the
-- opponent is at place 1
abbrev pub role_steps : ℕ → ℕ → List SWord → List Step
role_steps i k [] = []
role_steps i k (r ∷ rs) = act i ∷ role_steps k (suc k) rs

-- the places of the roles then: the first is at place 0, and the others from place 2 on
abbrev pub places_from : ℕ → List SWord → Word → ℕ
places_from k [] w = 0
places_from k (r ∷ rs) w = if bytes_eq r.word w then k else places_from (suc k) rs w

abbrev pub places_of : List SWord → Word → ℕ
places_of [] w = 0
places_of (r ∷ rs) w = if bytes_eq r.word w then 0 else places_from 2 rs w

abbrev pub others : List SWord → List SWord
others [] = []
others (r ∷ rs) = rs

-- the steps in their order
abbrev pub honest_steps : n.Narration → List Step
honest_steps x =
    shared_steps x.shared ++ role_steps 0 2 (others x.roles)
    ++ line_steps (places_of x.roles) (2 + length (others x.roles)) x.lines
