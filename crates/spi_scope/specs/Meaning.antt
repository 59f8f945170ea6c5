-- What the messages, types and processes of a tree stand for. Where a name or an abbreviation is unknown they stand for
-- something as well, so that these are functions: a file is only what stands for a tree that has no fault.
use Rattle.std.specs.Prelude.{ℕ, suc, ◌-◌, nat_lt, List, [], ◌∷◌, length, map, Option, Some, None, if◌then◌else◌}
use Rattle.spi_tree.specs.Trees as t
use Rattle.spi_term.specs.Term.{Message, bound, name, unit, pair, in_left, in_right, enc, hash, Atom, ends, checks, many, Effect, Ty, un, unit_ty, pair_ty, sum_ty, key, nonce, Process, send, stop, recv, serve, split, select, decrypt, check, begin, end, end_many, cast, fresh, branch, par}
use Rattle.spi_scope.specs.Scope.{Names, number_of, Abbreviations, type_of}

-- the name with this number, where s names are in scope: those below k are written by their numbers, and the others
-- by the index of their binder
abbrev pub name_meant : ℕ → ℕ → Option ℕ → Message
name_meant k s None = unit
name_meant k s (Some x) = if nat_lt x k then name x else bound (s - suc x)

-- `(M, N, K)` is `(M, (N, K))`
abbrev pub nested : Message → List Message → Message
nested m [] = m
nested m (n ∷ ns) = pair m (nested n ns)

-- a message, with names below k by their numbers. No `#n` stands in it in a formed tree
abbrev mutual
  pub message_in : ℕ → Names → t.Msg → Message
  message_in k xs (t.name s w) = name_meant k (length xs) (number_of xs w.word)
  message_in k xs (t.unit s) = unit
  message_in k xs (t.tuple s a b ms) = nested (message_in k xs a) (message_in k xs b ∷ messages_in k xs ms)
  message_in k xs (t.inl s a) = in_left (message_in k xs a)
  message_in k xs (t.inr s a) = in_right (message_in k xs a)
  message_in k xs (t.enc s a b) = enc (message_in k xs a) (message_in k xs b)
  message_in k xs (t.hash s a) = hash (message_in k xs a)
  message_in k xs (t.num s i) = unit

  pub messages_in : ℕ → Names → t.Msgs → List Message
  messages_in k xs t.no_msgs = []
  messages_in k xs (t.more_msgs m ms) = message_in k xs m ∷ messages_in k xs ms

abbrev pub atom_in : ℕ → Names → t.Atom → Atom
atom_in k xs (t.ends s m) = ends (message_in k xs m)
atom_in k xs (t.checks s m) = checks (message_in k xs m)
atom_in k xs (t.many s m) = many (message_in k xs m)

abbrev pub effect_in : ℕ → Names → List t.Atom → Effect
effect_in k xs es = map (atom_in k xs) es

-- an abbreviation has the type that it was declared with
abbrev pub known : Option Ty → Ty
known None = un
known (Some a) = a

-- `(x: T, y: U, V)` is `(x: T, (y: U, V))`
abbrev pub nested_types : List Ty → Ty → Ty
nested_types [] z = z
nested_types (a ∷ bs) z = pair_ty a (nested_types bs z)

-- the names in scope behind the components that bind
abbrev pub behind : Names → t.Fields → Names
behind xs t.no_fields = xs
behind xs (t.more_fields w a fs) = behind (w.word ∷ xs) fs

-- a type, with names below k by their numbers. Each component of a tuple sees the names of those before it, and the
-- last binds nothing
abbrev mutual
  pub type_in : ℕ → Abbreviations → Names → t.Ty → Ty
  type_in k ts xs (t.un s) = un
  type_in k ts xs (t.unit_ty s) = unit_ty
  type_in k ts xs (t.tuple_ty s w a fs l) =
      nested_types (type_in k ts xs a ∷ fields_in k ts (w.word ∷ xs) fs)
      (last_in k ts (behind (w.word ∷ xs) fs) l)
  type_in k ts xs (t.sum s a b) = sum_ty (type_in k ts xs a) (type_in k ts xs b)
  type_in k ts xs (t.key s a) = key (type_in k ts xs a)
  type_in k ts xs (t.nonce s es) = nonce (effect_in k xs es)
  type_in k ts xs (t.abbr s w) = known (type_of ts w.word)

  pub fields_in : ℕ → Abbreviations → Names → t.Fields → List Ty
  fields_in k ts xs t.no_fields = []
  fields_in k ts xs (t.more_fields w a fs) = type_in k ts xs a ∷ fields_in k ts (w.word ∷ xs) fs

  pub last_in : ℕ → Abbreviations → Names → t.Last → Ty
  last_in k ts xs (t.bare a) = type_in k ts xs a
  last_in k ts xs (t.named w a) = type_in k ts xs a

-- a process. With s names in scope those below b s are written by their numbers, and the others by the index of their
-- binder
abbrev pub process_in : (ℕ → ℕ) → Abbreviations → Names → t.Proc → Process
process_in b ts xs (t.par s p q) = par (process_in b ts xs p) (process_in b ts xs q)
process_in b ts xs (t.out s m n) = let k = b (length xs) in send (message_in k xs m) (message_in k xs n)
process_in b ts xs (t.out_then s m n p) = let k =
    b (length xs) in par (send (message_in k xs m) (message_in k xs n)) (process_in b ts xs p)
process_in b ts xs (t.inp s m x a p) = let k =
    b (length xs) in recv (message_in k xs m) (type_in k ts xs a) (process_in b ts (x.word ∷ xs) p)
process_in b ts xs (t.repeat s m x a p) = let k =
    b (length xs) in serve (message_in k xs m) (type_in k ts xs a) (process_in b ts (x.word ∷ xs) p)
process_in b ts xs (t.split s m x a y c p) = let k = b (length xs) in
    split (message_in k xs m) (type_in k ts xs a) (type_in k ts (x.word ∷ xs) c)
    (process_in b ts (y.word ∷ x.word ∷ xs) p)
process_in b ts xs (t.match s m x a n y c p) = let k = b (length xs) in
    select (message_in k xs m) (type_in k ts xs a) (message_in k xs n) (type_in k ts (x.word ∷ xs) c)
    (process_in b ts (y.word ∷ xs) p)
process_in b ts xs (t.case s m x a p y c q) = let k = b (length xs) in
    branch (message_in k xs m) (type_in k ts xs a) (process_in b ts (x.word ∷ xs) p) (type_in k ts xs c)
    (process_in b ts (y.word ∷ xs) q)
process_in b ts xs (t.decrypt s m x a n p) = let k =
    b (length xs) in decrypt (message_in k xs m) (type_in k ts xs a) (message_in k xs n)
    (process_in b ts (x.word ∷ xs) p)
process_in b ts xs (t.check s m n p) = let k =
    b (length xs) in check (message_in k xs m) (message_in k xs n) (process_in b ts xs p)
process_in b ts xs (t.begin s m p) = begin (message_in (b (length xs)) xs m) (process_in b ts xs p)
process_in b ts xs (t.end s m p) = end (message_in (b (length xs)) xs m) (process_in b ts xs p)
process_in b ts xs (t.end_many s m p) = end_many (message_in (b (length xs)) xs m) (process_in b ts xs p)
process_in b ts xs (t.cast s m x a p) = let k =
    b (length xs) in cast (message_in k xs m) (type_in k ts xs a) (process_in b ts (x.word ∷ xs) p)
process_in b ts xs (t.new s x a p) = fresh (type_in (b (length xs)) ts xs a) (process_in b ts (x.word ∷ xs) p)
process_in b ts xs (t.stop s) = stop
process_in b ts xs (t.group s p q) = par (process_in b ts xs p) (process_in b ts xs q)

-- a process over the names in scope, k of them, each by its number
abbrev pub process_over : ℕ → Abbreviations → Names → t.Proc → Process
process_over k ts xs p = process_in (λ s. k) ts xs p
