-- What the program's own values say of the scope, of rows of terms, and of a file.
use Rattle.std.specs.Prelude.{ℕ, suc, ◌+◌, List, [], ◌∷◌, map}
use Rattle.indexmap.specs.IndexMap.{IndexMap}
use denote.Ref.{Bor}
use Rattle.spi_term.specs.Term.{Message, message_size, Ty}
use Rattle.spi_term.specs.Spelling.{ty_nodes}
use Rattle.spi_term.specs.View.{ty}
use Rattle.spi_scope.specs.declared.scope.Abbr.{Abbr}
use Rattle.spi_scope.specs.Scope.{Abbreviation, Abbreviations}

abbrev pub abbreviation : Bor (List ℕ) × Abbr → Abbreviation
abbreviation e = record { word = e.0.now; stands_for = ty e.1.ty }

abbrev pub abbreviations : {S : Type 0} → IndexMap (Bor (List ℕ)) Abbr S → Abbreviations
abbreviations m = map abbreviation m.entries

-- the nodes of the components of a tuple but the first, with those of the pairs
abbrev pub row_nodes : List Message → ℕ
row_nodes [] = 0
row_nodes (m ∷ ms) = suc (message_size m) + row_nodes ms

-- the nodes of the components of a pair type but the last, with those of the pairs
abbrev pub type_row_nodes : List Ty → ℕ
type_row_nodes [] = 0
type_row_nodes (a ∷ bs) = suc (ty_nodes a) + type_row_nodes bs
