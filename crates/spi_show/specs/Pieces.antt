-- What is still to be written on the way through the nodes of a process.
use Rattle.std.specs.Prelude.{◌≡◌, ℕ, ◌+◌, Bool, true, false, if◌then◌else◌, List, [], ◌∷◌, ◌++◌, codes, map, reverse, Option, Some, None, slice_get}
use Rattle.spi_term.specs.Term.{Sends, Stops, Branches, Pars}
use Rattle.spi_term.specs.Spelling.{Shape, leaf_at, prefix_at, fork_at}
use Rattle.spi_show.specs.Terms.{message_text, type_text}
use Rattle.spi_show.specs.Processes.{leaf_text, prefix_text, left_text, right_text, Standing, alone, sequel}
use Rattle.spi_show.specs.declared.pieces.Place.{Place}
use Rattle.spi_show.specs.declared.pieces.Place.TheVariants.{Alone, Sequel}
use Rattle.spi_show.specs.declared.pieces.Piece as D
use Rattle.spi_show.specs.declared.pieces.Piece.TheVariants as P

-- words, or a process
pub data ShownPiece : Type 0 where
  words : List ℕ → ShownPiece
  process : Standing → ShownPiece

abbrev pub standing : Place → Standing
standing Alone = alone
standing Sequel = sequel

abbrev pub piece : D.Piece → ShownPiece
piece P.Bar = words (codes " | ")
piece P.Semicolon = words (codes "; ")
piece P.Close = words (codes ")")
piece (P.Words v) = words v.items
piece (P.Process at) = process (standing at)

-- the stack grows at its end, and is read from there
abbrev pub tops : List D.Piece → List ShownPiece
tops ps = reverse (map piece ps)

-- an output stands at a node
abbrev pub is_output_at : Shape → Bool
is_output_at (leaf_at k (Sends a b)) = true
is_output_at (leaf_at k Stops) = false
is_output_at (prefix_at k s b) = false
is_output_at (fork_at k f a r) = false

abbrev pub output_in : Option Shape → Bool
output_in None = false
output_in (Some x) = is_output_at x

-- what a parallel composition begins with, where its first process is an output or isn't
abbrev pub open_text : Standing → Bool → List ℕ
open_text alone output = []
open_text sequel output = if output then [] else codes "("

-- the text of a node up to the first process in it
abbrev pub head_text : (ℕ → List ℕ) → Standing → Bool → Shape → List ℕ
head_text spell at output (leaf_at n l) = leaf_text spell n l
head_text spell at output (prefix_at n s b) = prefix_text spell n s
head_text spell at output (fork_at n (Branches m t u) a r) =
    left_text spell n (message_text spell n m) (type_text spell n t)
head_text spell at output (fork_at n Pars a r) = open_text at output

-- the pieces of a parallel composition behind that
abbrev pub parts_shown : Standing → Bool → List ShownPiece
parts_shown alone output = process sequel ∷ (words (codes " | ") ∷ (process alone ∷ []))
parts_shown sequel output =
    if output then process sequel ∷ (words (codes "; ") ∷ (process sequel ∷ []))
    else (process sequel ∷ (words (codes " | ") ∷ (process alone ∷ (words (codes ")") ∷ []))))

-- the pieces of a node behind that
abbrev pub pieces_at : (ℕ → List ℕ) → Standing → Bool → Shape → List ShownPiece
pieces_at spell at output (leaf_at n l) = []
pieces_at spell at output (prefix_at n s b) = process sequel ∷ []
pieces_at spell at output (fork_at n (Branches m t u) a r) =
    process sequel ∷ (words (right_text spell n (type_text spell n u)) ∷ (process sequel ∷ []))
pieces_at spell at output (fork_at n Pars a r) = parts_shown at output

-- the same where a node is the next one, or none is left
abbrev pub first_text : (ℕ → List ℕ) → Standing → Bool → Option Shape → List ℕ
first_text spell at output None = []
first_text spell at output (Some x) = head_text spell at output x

abbrev pub first_pieces : (ℕ → List ℕ) → Standing → Bool → Option Shape → List ShownPiece
first_pieces spell at output None = []
first_pieces spell at output (Some x) = pieces_at spell at output x

abbrev pub node_after : ℕ → Option Shape → ℕ
node_after i None = i
node_after i (Some x) = i + 1

-- what is written of a piece, where the nodes from place i on are to come, which pieces come in its stead, and which
-- node is the next then
abbrev pub piece_text : (ℕ → List ℕ) → List Shape → ℕ → ShownPiece → List ℕ
piece_text spell ss i (words w) = w
piece_text spell ss i (process at) = first_text spell at (output_in (slice_get ss (i + 1))) (slice_get ss i)

abbrev pub piece_parts : (ℕ → List ℕ) → List Shape → ℕ → ShownPiece → List ShownPiece
piece_parts spell ss i (words w) = []
piece_parts spell ss i (process at) =
    first_pieces spell at (output_in (slice_get ss (i + 1))) (slice_get ss i)

abbrev pub piece_after : List Shape → ℕ → ShownPiece → ℕ
piece_after ss i (words w) = i
piece_after ss i (process at) = node_after i (slice_get ss i)

-- A piece is written, and i and j are the next nodes before and after.
pub record IsPut (spell : ℕ → List ℕ) (ss : List Shape) (i j : ℕ) (x : ShownPiece) (old new : List ℕ)
    (rest after : List ShownPiece) : Type 0 where
  pub node : j ≡ piece_after ss i x
  pub text : new ≡ old ++ piece_text spell ss i x
  pub left : after ≡ piece_parts spell ss i x ++ rest
