-- A total order of messages and of atoms, by which code sorts and looks up. Which order it is doesn't matter to any rule of the calculus.
use Rattle.std.specs.Prelude.{ℕ}
use Rattle.std.specs.declared.cmp.Ordering.{Ordering}
use Rattle.std.specs.declared.cmp.Ordering.TheVariants.{Equal}
use Rattle.std.specs.Ordering.{nat_cmp, ordering_then}
use Rattle.spi_term.specs.Term.{Message, bound, name, unit, pair, in_left, in_right, enc, hash, Atom, ends, checks, many}

-- messages of different forms go by form
abbrev pub message_rank : Message → ℕ
message_rank (bound i) = 0
message_rank (name x) = 1
message_rank unit = 2
message_rank (pair a b) = 3
message_rank (in_left a) = 4
message_rank (in_right a) = 5
message_rank (enc a b) = 6
message_rank (hash a) = 7

-- and those of one form by their parts, from the first on
abbrev pub message_cmp : Message → Message → Ordering
message_cmp (bound i) (bound j) = nat_cmp i j
message_cmp (name x) (name y) = nat_cmp x y
message_cmp unit unit = Equal
message_cmp (pair a b) (pair c d) = ordering_then (message_cmp a c) (message_cmp b d)
message_cmp (in_left a) (in_left b) = message_cmp a b
message_cmp (in_right a) (in_right b) = message_cmp a b
message_cmp (enc a b) (enc c d) = ordering_then (message_cmp a c) (message_cmp b d)
message_cmp (hash a) (hash b) = message_cmp a b
message_cmp m n = nat_cmp (message_rank m) (message_rank n)

abbrev pub atom_rank : Atom → ℕ
atom_rank (ends m) = 0
atom_rank (checks m) = 1
atom_rank (many m) = 2

abbrev pub atom_cmp : Atom → Atom → Ordering
atom_cmp (ends m) (ends n) = message_cmp m n
atom_cmp (checks m) (checks n) = message_cmp m n
atom_cmp (many m) (many n) = message_cmp m n
atom_cmp a b = nat_cmp (atom_rank a) (atom_rank b)
