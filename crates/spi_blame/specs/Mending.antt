-- A message with another part in the place of one of its own.
use Rattle.std.specs.Prelude.{ℕ, zero, suc, List, [], ◌∷◌}
use Rattle.spi_blame.specs.Blaming.{Question, typed, labelled}
use Rattle.spi_blame.specs.Paths.{ChildAt}
use Rattle.spi_term.specs.Term.{Message, bound, name, unit, pair, in_left, in_right, enc, hash}

-- the same asked of another message
abbrev pub asked_of : Question → Message → Question
asked_of (typed m t) n = typed n t
asked_of (labelled m) n = labelled n

-- c in the place of part number i
abbrev pub put_child : Message → ℕ → Message → Message
put_child (bound x) i c = bound x
put_child (name x) i c = name x
put_child unit i c = unit
put_child (pair a b) zero c = pair c b
put_child (pair a b) (suc i) c = pair a c
put_child (in_left a) i c = in_left c
put_child (in_right a) i c = in_right c
put_child (enc a b) zero c = enc a c
put_child (enc a b) (suc i) c = enc c b
put_child (hash a) i c = hash c

-- Swapped m path n m': m' is m with n in the place of the part at the end of the path
pub data Swapped : Message → List ℕ → Message → Message → Type 0 where
  swap_whole : {m n : Message} → Swapped m [] n n
  swap_inside : {m n c d : Message} {i : ℕ} {path : List ℕ}
      → ChildAt m i c → Swapped c path n d → Swapped m (i ∷ path) n (put_child m i d)
