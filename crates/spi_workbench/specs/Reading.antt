-- What the heading and the parts of a bench are read as, and what they mean.
use Rattle.std.specs.Prelude.{ℕ, List, [], ◌∷◌, length, None}
use Rattle.spi_tree.specs.Trees as t
use Rattle.spi_term.specs.Term.{Ty}
use Rattle.spi_term.specs.Spelling.{Spelling}
use Rattle.spi_heading.specs.Headings.{Shared, with_shared}
use Rattle.spi_scope.specs.Scope.{Names, Abbreviations}
use Rattle.spi_scope.specs.Meaning.{type_in}
use Rattle.spi_scope.specs.Points.{all_names, all_types}
use Rattle.spi_scope.specs.StandsFor.{over_free}
use Rattle.spi_bench.specs.Parts.{Part, Benched, with_part, without}
use Rattle.spi_edits.specs.Edits.{Edit, puts, drops, Bench}

-- `new (x1: T1);` up to `new (xm: Tm);`, each placed at its word `shared`, and then the process
abbrev pub behind_shared : List Shared → t.Proc → t.Proc
behind_shared [] p = p
behind_shared (s ∷ ss) p = t.new s.span s.name s.ty (behind_shared ss p)

-- the declarations, the shared names and a process, read as one file
abbrev pub file_with : Bench → t.Proc → t.File
file_with b p = record {
  span = b.span;
  version = b.version;
  decls = b.decls;
  process = behind_shared b.shared p;
  opponent = None;
  schedule = None;
  derivation = None;
}

-- the heading alone: its process is a `stop` at the end of the bytes
abbrev pub heading_file : Bench → ℕ → t.File
heading_file b end = file_with b (t.stop (record { from = end; to = end }))

-- the free names and the abbreviations
abbrev pub free_names : Bench → Names
free_names b = all_names [] b.decls

abbrev pub abbreviations_of : Bench → Abbreviations
abbreviations_of b = all_types [] [] b.decls

-- the names in scope in a part
abbrev pub part_names : Bench → Names
part_names b = with_shared (free_names b) b.shared

-- what the types of shared names mean, each over the names before it
abbrev pub types_in : Abbreviations → Names → List Shared → List Ty
types_in ts xs [] = []
types_in ts xs (s ∷ ss) = type_in (length xs) ts xs s.ty ∷ types_in ts (s.name.word ∷ xs) ss

abbrev pub shared_types : Bench → List Ty
shared_types b = types_in (abbreviations_of b) (free_names b) b.shared

-- what a part means: a process over the free and the shared names
abbrev pub part_meant : Bench → t.Proc → Spelling
part_meant b p = over_free (abbreviations_of b) (part_names b) p

-- the parts after an edit
abbrev pub edited : Bench → List Part → Edit → List Part
edited b ps (puts s w p) = with_part w.word (part_meant b p) ps
edited b ps (drops s w) = without w.word ps

-- the parts after edits, from these parts on
abbrev pub parts_after : Bench → List Part → List Edit → List Part
parts_after b ps [] = ps
parts_after b ps (e ∷ es) = parts_after b (edited b ps e) es

-- the bench after edits
abbrev pub bench_after : Bench → List Edit → Benched
bench_after b es =
    record { free = length (free_names b); shared = shared_types b; parts = parts_after b [] es }
