-- The nodes of a bench, as those of a file are counted.
use Rattle.std.specs.Prelude.{ℕ, ◌+◌, List, [], ◌∷◌}
use Rattle.spi_tree.specs.Trees as t
use Rattle.spi_heading.specs.Headings.{Shared}
use Rattle.spi_scope.specs.Scope.{Names, Abbreviations}
use Rattle.spi_scope.specs.Points.{added, Points, none, one, ◌⨾◌, new_head, process_points, decls_points}
use Rattle.spi_edits.specs.Edits.{Edit, puts, drops, Bench}
use Rattle.spi_workbench.specs.Reading.{free_names, abbreviations_of, part_names}

-- what all these points add to the running count of a file
abbrev pub all_added : Points → ℕ
all_added none = 0
all_added (one p) = added p
all_added (ps ⨾ qs) = all_added ps + all_added qs

-- the points of shared names, each read as a `new`
abbrev pub shared_points : Abbreviations → Names → List Shared → Points
shared_points ts xs [] = none
shared_points ts xs (s ∷ ss) = new_head ts xs s.span s.ty ⨾ shared_points ts (s.name.word ∷ xs) ss

-- one for each free name, the types of the abbreviations, and one for each shared name with its type
abbrev pub heading_nodes : Bench → ℕ
heading_nodes b =
    all_added (decls_points [] [] b.decls)
    + all_added (shared_points (abbreviations_of b) (free_names b) b.shared)

abbrev pub part_nodes : Bench → t.Proc → ℕ
part_nodes b p = all_added (process_points (abbreviations_of b) (part_names b) p)

-- what an edit puts
abbrev pub edit_nodes : Bench → Edit → ℕ
edit_nodes b (puts s w p) = part_nodes b p
edit_nodes b (drops s w) = 0

-- the nodes of all parts that were put, those that were replaced or dropped among them
abbrev pub nodes_put : Bench → List Edit → ℕ
nodes_put b [] = 0
nodes_put b (e ∷ es) = edit_nodes b e + nodes_put b es

-- the count of a bench with these edits
abbrev pub bench_nodes : Bench → List Edit → ℕ
bench_nodes b es = heading_nodes b + nodes_put b es
