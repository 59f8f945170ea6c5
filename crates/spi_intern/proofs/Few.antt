-- A message adds at most as many numbers as it has nodes.
use Rattle.std.proofs.Common.{◌≡◌, ap, ◌+◌, ◌≤◌, Bool, true, false, List, [], ◌∷◌, ◌++◌, length, arith, Result, Ok, Err, OnOk}
use Rattle.std.specs.Prelude.{if◌then◌else◌}
use Rattle.std.specs.List.{list_any}
use Rattle.std.proofs.lemmas.List.{length_push}
use Rattle.spi_term.specs.Term.{Message, bound, name, unit, pair, in_left, in_right, enc, hash, same_message, message_size}
use Rattle.spi_intern.specs.Messages.{message_added, interned}

few_added : (ms : List Message) (m : Message) → length (message_added ms m) ≤ length ms + 1
few_added ms m = by (list_any (same_message m) ms)
  where
    by : (b : Bool) → length (if b then ms else ms ++ m ∷ []) ≤ length ms + 1
    by true = omega arith
    by false = let e = length_push ms m in omega (arith, e)

few_two : (ms ns os : List Message) (m a b : Message) → length ns ≤ length ms + message_size a → length os ≤ length ns + message_size b → length (message_added os m) ≤ length ms + (1 + (message_size a + message_size b))
few_two ms ns os m a b f g = let h = few_added os m in omega (arith, f, g, h)

few_one : (ms ns : List Message) (m a : Message) → length ns ≤ length ms + message_size a → length (message_added ns m) ≤ length ms + (1 + message_size a)
few_one ms ns m a f = let h = few_added ns m in omega (arith, f, h)

few_interned : (m : Message) (ms : List Message) → length (interned ms m) ≤ length ms + message_size m
few_interned (bound i) ms = few_added ms (bound i)
few_interned (name x) ms = few_added ms (name x)
few_interned unit ms = few_added ms unit
few_interned (pair a b) ms = few_two ms (interned ms a) (interned (interned ms a) b) (pair a b) a b (few_interned a ms) (few_interned b (interned ms a))
few_interned (in_left a) ms = few_one ms (interned ms a) (in_left a) a (few_interned a ms)
few_interned (in_right a) ms = few_one ms (interned ms a) (in_right a) a (few_interned a ms)
few_interned (enc a b) ms = few_two ms (interned ms a) (interned (interned ms a) b) (enc a b) a b (few_interned a ms) (few_interned b (interned ms a))
few_interned (hash a) ms = few_one ms (interned ms a) (hash a) a (few_interned a ms)

pub few_new : {T E : Type 0} (old new : List Message) (m : Message) (r : Result T E) → OnOk r (new ≡ interned old m) → OnOk r (length new ≤ length old + message_size m)
few_new old new m (Ok x) e = let f = few_interned m old in let g : length new ≡ length (interned old m) = ap length e in omega (arith, f, g)
few_new old new m (Err x) e = tt
