-- The nodes of trees, where an abbreviation has so many. No public clause names it.
use Rattle.std.specs.Prelude.{◌≡◌, ℕ, ◌+◌, List, [], ◌∷◌, Option, Some, None}
use Rattle.std.specs.Option.{option_map}
use Rattle.std.specs.Str.{bytes_eq}
use Rattle.indexmap.specs.IndexMap.{IndexMap, get_by}
use denote.Ref.{Bor}
use Rattle.spi_tree.specs.Trees as t
use Rattle.spi_heading.specs.Headings.{Shared}
use Rattle.spi_edits.specs.Edits.{Edit, puts, drops}
use Rattle.spi_term.specs.Spelling.{ty_nodes, stopped}
use Rattle.spi_scope.specs.Scope.{Word, Abbreviations, type_of}

-- an abbreviation that isn't known counts as `Un`
abbrev pub known_nodes : Option ℕ → ℕ
known_nodes None = 1
known_nodes (Some n) = n

abbrev pub nodes_in_words : {S : Type 0} → IndexMap (Bor (List ℕ)) ℕ S → Word → ℕ
nodes_in_words m w = known_nodes (get_by (λ k. bytes_eq w k.now) m)

abbrev mutual
  pub msg_size : t.Msg → ℕ
  msg_size (t.name s w) = 1
  msg_size (t.unit s) = 1
  msg_size (t.tuple s a b ms) = 1 + (msg_size a + (msg_size b + msgs_size ms))
  msg_size (t.inl s a) = 1 + msg_size a
  msg_size (t.inr s a) = 1 + msg_size a
  msg_size (t.enc s a b) = 1 + (msg_size a + msg_size b)
  msg_size (t.hash s a) = 1 + msg_size a
  msg_size (t.num s i) = 1

  -- with a pair for each
  pub msgs_size : t.Msgs → ℕ
  msgs_size t.no_msgs = 0
  msgs_size (t.more_msgs m ms) = 1 + msg_size m + msgs_size ms

abbrev pub atom_size : t.Atom → ℕ
atom_size (t.ends s m) = 1 + msg_size m
atom_size (t.checks s m) = 1 + msg_size m
atom_size (t.many s m) = 1 + msg_size m

abbrev pub atoms_size : List t.Atom → ℕ
atoms_size [] = 0
atoms_size (a ∷ es) = atom_size a + atoms_size es

abbrev mutual
  pub ty_size : (Word → ℕ) → t.Ty → ℕ
  ty_size z (t.un s) = 1
  ty_size z (t.unit_ty s) = 1
  ty_size z (t.tuple_ty s w a fs l) = 1 + (ty_size z a + (fields_size z fs + last_size z l))
  ty_size z (t.sum s a b) = 1 + (ty_size z a + ty_size z b)
  ty_size z (t.key s a) = 1 + ty_size z a
  ty_size z (t.nonce s es) = 1 + atoms_size es
  ty_size z (t.abbr s w) = z w.word

  -- with a pair for each
  pub fields_size : (Word → ℕ) → t.Fields → ℕ
  fields_size z t.no_fields = 0
  fields_size z (t.more_fields w a fs) = 1 + ty_size z a + fields_size z fs

  pub last_size : (Word → ℕ) → t.Last → ℕ
  last_size z (t.bare a) = ty_size z a
  last_size z (t.named w a) = ty_size z a

-- a form without the processes behind it
abbrev pub form_size : (Word → ℕ) → t.Proc → ℕ
form_size z (t.par s p q) = 1
form_size z (t.out s m n) = 1 + (msg_size m + msg_size n)
form_size z (t.out_then s m n p) = 1 + (1 + (msg_size m + msg_size n))
form_size z (t.inp s m x a p) = 1 + (msg_size m + ty_size z a)
form_size z (t.repeat s m x a p) = 1 + (msg_size m + ty_size z a)
form_size z (t.split s m x a y c p) = 1 + (msg_size m + ty_size z a) + ty_size z c
form_size z (t.match s m x a n y c p) = 1 + (msg_size m + ty_size z a) + (msg_size n + ty_size z c)
form_size z (t.case s m x a p y c q) = 1 + (msg_size m + ty_size z a) + ty_size z c
form_size z (t.decrypt s m x a n p) = 1 + (msg_size m + ty_size z a) + msg_size n
form_size z (t.check s m n p) = 1 + (msg_size m + msg_size n)
form_size z (t.begin s m p) = 1 + msg_size m
form_size z (t.end s m p) = 1 + msg_size m
form_size z (t.end_many s m p) = 1 + msg_size m
form_size z (t.cast s m x a p) = 1 + (msg_size m + ty_size z a)
form_size z (t.new s x a p) = 1 + ty_size z a
form_size z (t.stop s) = 1
form_size z (t.group s p q) = 1

abbrev pub proc_size : (Word → ℕ) → t.Proc → ℕ
proc_size z (t.par s p q) = form_size z (t.par s p q) + proc_size z p + proc_size z q
proc_size z (t.out s m n) = form_size z (t.out s m n)
proc_size z (t.out_then s m n p) = form_size z (t.out_then s m n p) + proc_size z p
proc_size z (t.inp s m x a p) = form_size z (t.inp s m x a p) + proc_size z p
proc_size z (t.repeat s m x a p) = form_size z (t.repeat s m x a p) + proc_size z p
proc_size z (t.split s m x a y c p) = form_size z (t.split s m x a y c p) + proc_size z p
proc_size z (t.match s m x a n y c p) = form_size z (t.match s m x a n y c p) + proc_size z p
proc_size z (t.case s m x a p y c q) = form_size z (t.case s m x a p y c q) + proc_size z p + proc_size z q
proc_size z (t.decrypt s m x a n p) = form_size z (t.decrypt s m x a n p) + proc_size z p
proc_size z (t.check s m n p) = form_size z (t.check s m n p) + proc_size z p
proc_size z (t.begin s m p) = form_size z (t.begin s m p) + proc_size z p
proc_size z (t.end s m p) = form_size z (t.end s m p) + proc_size z p
proc_size z (t.end_many s m p) = form_size z (t.end_many s m p) + proc_size z p
proc_size z (t.cast s m x a p) = form_size z (t.cast s m x a p) + proc_size z p
proc_size z (t.new s x a p) = form_size z (t.new s x a p) + proc_size z p
proc_size z (t.stop s) = form_size z (t.stop s)
proc_size z (t.group s p q) = form_size z (t.group s p q) + proc_size z p + proc_size z q

abbrev pub shared_size : (Word → ℕ) → List Shared → ℕ
shared_size z [] = 0
shared_size z (s ∷ ss) = 1 + ty_size z s.ty + shared_size z ss

abbrev pub edit_size : (Word → ℕ) → Edit → ℕ
edit_size z (puts s w p) = proc_size z p
edit_size z (drops s w) = 0

-- the table has the nodes of each abbreviation
abbrev pub Know : {S : Type 0} → IndexMap (Bor (List ℕ)) ℕ S → Abbreviations → Type 0
Know m ts = (w : Word)
    → get_by (λ k. bytes_eq w k.now) m ≡ option_map (λ a. stopped (ty_nodes a)) (type_of ts w)
