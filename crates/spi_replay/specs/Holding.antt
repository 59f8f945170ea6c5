-- The process that a place holds: a node's, with messages for the names bound above it.
use Rattle.std.specs.Prelude.{ℕ, zero, suc, ◌+◌, ◌==◌, ◌≡◌, if◌then◌else◌, List, [], ◌∷◌, length, drop, Option, Some, None, slice_get, ⊤}
use Rattle.spi_term.specs.Term.{Message, bound, name, unit, pair, in_left, in_right, enc, hash, Process, leaf, prefix, fork, binds, fork_binds, stop}
use Rattle.spi_term.specs.Substitution.{leaf_map, prefix_map, fork_map, replace}
use Rattle.spi_term.specs.Spelling.{Shape, built, first_of_all, index_message, spelled}
use Rattle.spi_replay.specs.declared.names.Link.{Link}
use Rattle.spi_replay.specs.declared.places.Place.{Place}

-- the messages of the names from k on, that of the last name first, and every other name for itself
abbrev pub value : ℕ → List Message → ℕ → Message
value k [] x = name x
value k (m ∷ ms) x = if x == k + length ms then m else value k ms x

-- f x for each name x below k, and each other name as the index of its binder, where s names are in scope and d more are bound in a type
abbrev pub held_message : (ℕ → Message) → ℕ → ℕ → ℕ → Message → Message
held_message f k s d m = replace f (index_message k s d m)

abbrev pub held : (ℕ → Message) → ℕ → ℕ → Process → Process
held f k s (leaf l) = leaf (leaf_map (held_message f k s) 0 l)
held f k s (prefix t p) = prefix (prefix_map (held_message f k s) 0 t) (held f k (s + binds t) p)
held f k s (fork b p q) =
    fork (fork_map (held_message f k s) 0 b) (held f k (s + fork_binds b) p) (held f k (s + fork_binds b) q)

-- the process that stands at a node, with numbers for bound names
abbrev pub subtree : List Shape → ℕ → Process
subtree ss i = first_of_all (built (drop i ss))

-- the process at a node below the names of k and of the messages
abbrev pub held_at : ℕ → List Message → List Shape → ℕ → Process
held_at k ms ss i = held (value k ms) (k + length ms) (k + length ms) (subtree ss i)

abbrev pub message_with : Option Message → List Message → List Message
message_with None ms = []
message_with (Some m) ms = m ∷ ms

abbrev pub linked : List Message → (ℕ → List Message) → Option Link → List Message
linked ms f None = []
linked ms f (Some l) = message_with (slice_get ms l.value.place) (f l.before)

-- the messages of n names from a link on, in a store with these messages
abbrev pub chain : List Message → List Link → ℕ → ℕ → List Message
chain ms ls zero i = []
chain ms ls (suc n) i = linked ms (chain ms ls n) (slice_get ls i)

-- the process of a place
abbrev pub place_process : List Message → List Link → Place → Process
place_process ms ls p =
    if p.done then stop else held_at p.source.now.names (chain ms ls p.bound p.last)
    (spelled p.source.now.names p.source.now.process) p.node

-- no index is loose
abbrev pub IsClosed : Message → Type 0
IsClosed (bound i) = ⊥
IsClosed (name x) = ⊤
IsClosed unit = ⊤
IsClosed (pair a b) = IsClosed a × IsClosed b
IsClosed (in_left a) = IsClosed a
IsClosed (in_right a) = IsClosed a
IsClosed (enc a b) = IsClosed a × IsClosed b
IsClosed (hash a) = IsClosed a

abbrev pub AllClosed : List Message → Type 0
AllClosed [] = ⊤
AllClosed (m ∷ ms) = IsClosed m × AllClosed ms

-- the messages of names from a link on
pub data Chain (ms : List Message) (ls : List Link) : ℕ → List Message → Type 0 where
  no_link : {i : ℕ} → Chain ms ls i []
  a_link : {i : ℕ} {l : Link} {m : Message} {vs : List Message} → slice_get ls i ≡ Some l
      → slice_get ms l.value.place ≡ Some m → Chain ms ls l.before vs → Chain ms ls i (m ∷ vs)
