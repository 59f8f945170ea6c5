-- The parts of a bench by name, and the verdict of their whole.
use Rattle.std.specs.Prelude.{ℕ, ◌+◌, List, [], ◌∷◌, map, Option, Some, None, if◌then◌else◌}
use Rattle.std.specs.Str.{bytes_eq}
use Rattle.spi_term.specs.Spelling.{Spelling}
use Rattle.spi_term.specs.Term.{Ty, process_size}
use Rattle.spi_rules.specs.Derivations.{Derivable}
use Rattle.spi_rules.specs.Environment.{untrusted}
use Rattle.spi_bench.specs.Whole.{whole_process_of}

-- a part with its name
pub record Part : Type 0 where
  pub name : List ℕ
  pub part : Spelling

-- how many names are free, the types of the shared names, and the parts that are there, in the order in which
-- their names were first put and not dropped since
pub record Benched : Type 0 where
  pub free : ℕ
  pub shared : List Ty
  pub parts : List Part

-- the part of that name
abbrev pub part_named : List ℕ → List Part → Option Spelling
part_named n [] = None
part_named n (q ∷ qs) = if bytes_eq n q.name then Some q.part else part_named n qs

-- the parts after a put: a name that is there keeps its place, and another one comes last
abbrev pub with_part : List ℕ → Spelling → List Part → List Part
with_part n p [] = record { name = n; part = p } ∷ []
with_part n p (q ∷ qs) =
    if bytes_eq n q.name then record { name = n; part = p } ∷ qs else q ∷ with_part n p qs

-- the parts after a drop
abbrev pub without : List ℕ → List Part → List Part
without n [] = []
without n (q ∷ qs) = if bytes_eq n q.name then qs else q ∷ without n qs

-- the nodes of all parts
abbrev pub nodes_in_parts : List Part → ℕ
nodes_in_parts [] = 0
nodes_in_parts (q ∷ qs) = process_size q.part.process + nodes_in_parts qs

-- the verdict: the whole is derivable with no effect over the free names at type Un
abbrev pub IsYes : Benched → Type 0
IsYes b =
    Derivable (untrusted b.free) (whole_process_of b.free b.shared (map (λ q. q.part.process) b.parts)) []
