-- Messages in place of names: one traversal for each sort, and what it puts where.
use Rattle.std.specs.Prelude.{ℕ, suc, ◌+◌, ◌-◌, map, if◌then◌else◌, ◌==◌, nat_lt, List, Option, Some, None, slice_get}
use Rattle.spi_term.specs.Term.{Message, bound, name, unit, pair, in_left, in_right, enc, hash, Atom, ends, checks, many, Effect, Ty, un, unit_ty, pair_ty, sum_ty, key, nonce, Leaf, Sends, Stops, Prefix, Recvs, Serves, Splits, Selects, Decrypts, Checks, Begins, Ends, EndManys, Casts, Freshes, Fork, Branches, Pars, Process, leaf, prefix, fork, binds, fork_binds}

-- f on the message of an atom, and of each atom
abbrev pub atom_map : (Message → Message) → Atom → Atom
atom_map f (ends m) = ends (f m)
atom_map f (checks m) = checks (f m)
atom_map f (many m) = many (f m)

abbrev pub effect_map : (Message → Message) → Effect → Effect
effect_map f es = map (atom_map f) es

-- f d on each message of a type, where d is k and the number of binders passed
abbrev pub ty_map : (ℕ → Message → Message) → ℕ → Ty → Ty
ty_map f k un = un
ty_map f k unit_ty = unit_ty
ty_map f k (pair_ty t u) = pair_ty (ty_map f k t) (ty_map f (suc k) u)
ty_map f k (sum_ty t u) = sum_ty (ty_map f k t) (ty_map f k u)
ty_map f k (key t) = key (ty_map f k t)
ty_map f k (nonce es) = nonce (effect_map (f k) es)

-- the same for a form and a process
abbrev pub leaf_map : (ℕ → Message → Message) → ℕ → Leaf → Leaf
leaf_map f k (Sends m n) = Sends (f k m) (f k n)
leaf_map f k Stops = Stops

abbrev pub prefix_map : (ℕ → Message → Message) → ℕ → Prefix → Prefix
prefix_map f k (Recvs m t) = Recvs (f k m) (ty_map f k t)
prefix_map f k (Serves m t) = Serves (f k m) (ty_map f k t)
prefix_map f k (Splits m t u) = Splits (f k m) (ty_map f k t) (ty_map f (suc k) u)
prefix_map f k (Selects m t n u) = Selects (f k m) (ty_map f k t) (f k n) (ty_map f (suc k) u)
prefix_map f k (Decrypts m t n) = Decrypts (f k m) (ty_map f k t) (f k n)
prefix_map f k (Checks m n) = Checks (f k m) (f k n)
prefix_map f k (Begins m) = Begins (f k m)
prefix_map f k (Ends m) = Ends (f k m)
prefix_map f k (EndManys m) = EndManys (f k m)
prefix_map f k (Casts m t) = Casts (f k m) (ty_map f k t)
prefix_map f k (Freshes t) = Freshes (ty_map f k t)

abbrev pub fork_map : (ℕ → Message → Message) → ℕ → Fork → Fork
fork_map f k (Branches m t u) = Branches (f k m) (ty_map f k t) (ty_map f k u)
fork_map f k Pars = Pars

abbrev pub process_map : (ℕ → Message → Message) → ℕ → Process → Process
process_map f k (leaf l) = leaf (leaf_map f k l)
process_map f k (prefix b p) = prefix (prefix_map f k b) (process_map f (k + binds b) p)
process_map f k (fork b p q) =
    fork (fork_map f k b) (process_map f (k + fork_binds b) p) (process_map f (k + fork_binds b) q)

-- f i for each bound name i of a message, and g x for each free name x
abbrev pub message_map : (f g : ℕ → Message) → Message → Message
message_map f g (bound i) = f i
message_map f g (name x) = g x
message_map f g unit = unit
message_map f g (pair a b) = pair (message_map f g a) (message_map f g b)
message_map f g (in_left a) = in_left (message_map f g a)
message_map f g (in_right a) = in_right (message_map f g a)
message_map f g (enc a b) = enc (message_map f g a) (message_map f g b)
message_map f g (hash a) = hash (message_map f g a)

-- n for the bound name k
abbrev pub put : Message → ℕ → Message → Message
put n k m = message_map (λ i. if i == k then n else bound i) name m

-- n for the outermost binder of a type, and of a process
abbrev pub ty_put : Message → Ty → Ty
ty_put n t = ty_map (put n) 0 t

abbrev pub process_put : Message → Process → Process
process_put n p = process_map (put n) 0 p

-- m and n for the two names that `split` binds
abbrev pub process_put_two : Message → Message → Process → Process
process_put_two m n p = process_map (put n) 0 (process_map (put m) 1 p)

-- s x for each free name x, all at once
abbrev pub replace : (ℕ → Message) → Message → Message
replace s m = message_map bound s m

abbrev pub effect_replace : (ℕ → Message) → Effect → Effect
effect_replace s es = effect_map (replace s) es

abbrev pub ty_replace : (ℕ → Message) → Ty → Ty
ty_replace s t = ty_map (λ d. replace s) 0 t

abbrev pub process_replace : (ℕ → Message) → Process → Process
process_replace s p = process_map (λ d. replace s) 0 p

-- the value number i for the name from + i, and every other name for itself
abbrev pub or_name : ℕ → Option Message → Message
or_name x None = name x
or_name x (Some m) = m

-- the message, where there is one
abbrev pub or_unit : Option Message → Message
or_unit None = unit
or_unit (Some m) = m

abbrev pub value_for : ℕ → List Message → ℕ → Message
value_for from values x = if nat_lt x from then name x else or_name x (slice_get values (x - from))
