-- Where the nodes and words of a text start.
use Rattle.std.specs.Prelude.{ℕ, ◌≤◌, List, [], ◌∷◌, ⊤}
use Rattle.spi_tree.specs.Pieces.{Piece, opens, cell, closes}

-- each node and word starts at this offset or before
abbrev pub StartBy : ℕ → List Piece → Type 0
StartBy end [] = ⊤
StartBy end (opens from ∷ ps) = (from ≤ end) × StartBy end ps
StartBy end (cell k deep ∷ ps) = StartBy end ps
StartBy end (closes to ∷ ps) = StartBy end ps
