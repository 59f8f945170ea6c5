-- The points of a tree in reading order: what is looked at there, what could be wrong, and what is added to the running
-- count. Where several stand at one token, the fault with the lower number comes first.
use Rattle.std.specs.Prelude.{ℕ, ◌+◌, nat_lt, List, [], ◌∷◌, ◌++◌, length, Option, Some, None, if◌then◌else◌, is_some}
use Rattle.spi_text.specs.declared.lines.Span.{Span}
use Rattle.spi_tree.specs.declared.tree.SWord.{SWord}
use Rattle.spi_tree.specs.Trees as t
use Rattle.spi_term.specs.Term.{message_size}
use Rattle.spi_term.specs.Spelling.{ty_nodes, stopped}
use Rattle.spi_scope.specs.declared.fault.ScopeFault.{ScopeFault}
use Rattle.spi_scope.specs.declared.fault.ScopeFault.TheVariants.{UnknownName, UnknownType, NameTwice, TypeTwice, MessageTooLarge, TypeTooLarge, FileTooLarge, ScheduleTooLong}
use Rattle.spi_scope.specs.Scope.{Names, number_of, Abbreviations, type_of}
use Rattle.spi_scope.specs.Meaning.{message_in, type_in, behind}
use Rattle.spi_scope.specs.Parts.{numbered_message, step_span}

pub data Point : Type 0 where
  uses_name : Names → SWord → Point
  uses_type : Abbreviations → SWord → Point
  declares_name : Names → SWord → Point
  declares_type : Abbreviations → SWord → Point
  -- the last token of an outermost message or of an atom's message, of so many nodes
  ends_message : ℕ → Span → Point
  -- the last token of an annotation or of an abbreviation's type, of so many nodes
  ends_type : ℕ → Span → Point
  -- so many nodes come to the running count, by this item
  adds : ℕ → Span → Point
  -- the first token of the step with this number, counted from 1, of so many steps
  starts_step : (number all : ℕ) → Span → Point

-- what is told where something is wrong at a point, before which the running count is c
abbrev pub fault_told : ℕ → Point → ScopeFault
fault_told c (uses_name xs w) = UnknownName w.span w.word
fault_told c (uses_type ts w) = UnknownType w.span w.word
fault_told c (declares_name xs w) = NameTwice w.span w.word
fault_told c (declares_type ts w) = TypeTwice w.span w.word
fault_told c (ends_message n s) = MessageTooLarge s (stopped n)
fault_told c (ends_type n s) = TypeTooLarge s (stopped n)
fault_told c (adds n s) = FileTooLarge s (c + n)
fault_told c (starts_step i n s) = ScheduleTooLong s (stopped n)

-- what is wrong at a point, before which the running count is c
abbrev pub fault_at : ℕ → Point → Option ScopeFault
fault_at c (uses_name xs w) =
    if is_some (number_of xs w.word) then None else Some (fault_told c (uses_name xs w))
fault_at c (uses_type ts w) =
    if is_some (type_of ts w.word) then None else Some (fault_told c (uses_type ts w))
fault_at c (declares_name xs w) =
    if is_some (number_of xs w.word) then Some (fault_told c (declares_name xs w)) else None
fault_at c (declares_type ts w) =
    if is_some (type_of ts w.word) then Some (fault_told c (declares_type ts w)) else None
fault_at c (ends_message n s) = if nat_lt 200 n then Some (fault_told c (ends_message n s)) else None
fault_at c (ends_type n s) = if nat_lt 1000 n then Some (fault_told c (ends_type n s)) else None
fault_at c (adds n s) = if nat_lt 100000 (c + n) then Some (fault_told c (adds n s)) else None
fault_at c (starts_step i n s) = if nat_lt 10000 i then Some (fault_told c (starts_step i n s)) else None

-- what a point adds to the running count
abbrev pub added : Point → ℕ
added (uses_name xs w) = 0
added (uses_type ts w) = 0
added (declares_name xs w) = 0
added (declares_type ts w) = 0
added (ends_message n s) = 0
added (ends_type n s) = 0
added (adds n s) = n
added (starts_step i n s) = 0

-- points one after another
infixr 5 ◌⨾◌
pub data Points : Type 0 where
  none : Points
  one : Point → Points
  ◌⨾◌ : Points → Points → Points

abbrev pub in_order : Points → List Point
in_order none = []
in_order (one p) = p ∷ []
in_order (ps ⨾ qs) = in_order ps ++ in_order qs

abbrev pub msg_span : t.Msg → Span
msg_span (t.name s w) = s
msg_span (t.unit s) = s
msg_span (t.tuple s a b ms) = s
msg_span (t.inl s a) = s
msg_span (t.inr s a) = s
msg_span (t.enc s a b) = s
msg_span (t.hash s a) = s
msg_span (t.num s i) = s

abbrev pub ty_span : t.Ty → Span
ty_span (t.un s) = s
ty_span (t.unit_ty s) = s
ty_span (t.tuple_ty s w a fs l) = s
ty_span (t.sum s a b) = s
ty_span (t.key s a) = s
ty_span (t.nonce s es) = s
ty_span (t.abbr s w) = s

abbrev mutual
  pub message_points : Names → t.Msg → Points
  message_points xs (t.name s w) = one (uses_name xs w)
  message_points xs (t.unit s) = none
  message_points xs (t.tuple s a b ms) = message_points xs a ⨾ message_points xs b ⨾ messages_points xs ms
  message_points xs (t.inl s a) = message_points xs a
  message_points xs (t.inr s a) = message_points xs a
  message_points xs (t.enc s a b) = message_points xs a ⨾ message_points xs b
  message_points xs (t.hash s a) = message_points xs a
  message_points xs (t.num s i) = none

  pub messages_points : Names → t.Msgs → Points
  messages_points xs t.no_msgs = none
  messages_points xs (t.more_msgs m ms) = message_points xs m ⨾ messages_points xs ms

-- the nodes of a message, and of a type once abbreviations are expanded. Whether a name is written by its number or by
-- an index doesn't change them
abbrev pub msg_nodes : Names → t.Msg → ℕ
msg_nodes xs m = message_size (message_in 0 xs m)

abbrev pub type_nodes : Abbreviations → Names → t.Ty → ℕ
type_nodes ts xs a = ty_nodes (type_in 0 ts xs a)

-- an outermost message, or that of an atom
abbrev pub message_points_whole : Names → t.Msg → Points
message_points_whole xs m = message_points xs m ⨾ one (ends_message (msg_nodes xs m) (msg_span m))

abbrev pub atom_points : Names → t.Atom → Points
atom_points xs (t.ends s m) = message_points_whole xs m
atom_points xs (t.checks s m) = message_points_whole xs m
atom_points xs (t.many s m) = message_points_whole xs m

abbrev pub atoms_points : Names → List t.Atom → Points
atoms_points xs [] = none
atoms_points xs (a ∷ es) = atom_points xs a ⨾ atoms_points xs es

abbrev mutual
  pub type_points : Abbreviations → Names → t.Ty → Points
  type_points ts xs (t.un s) = none
  type_points ts xs (t.unit_ty s) = none
  type_points ts xs (t.tuple_ty s w a fs l) =
      type_points ts xs a ⨾ fields_points ts (w.word ∷ xs) fs ⨾ last_points ts (behind (w.word ∷ xs) fs) l
  type_points ts xs (t.sum s a b) = type_points ts xs a ⨾ type_points ts xs b
  type_points ts xs (t.key s a) = type_points ts xs a
  type_points ts xs (t.nonce s es) = atoms_points xs es
  type_points ts xs (t.abbr s w) = one (uses_type ts w)

  pub fields_points : Abbreviations → Names → t.Fields → Points
  fields_points ts xs t.no_fields = none
  fields_points ts xs (t.more_fields w a fs) = type_points ts xs a ⨾ fields_points ts (w.word ∷ xs) fs

  pub last_points : Abbreviations → Names → t.Last → Points
  last_points ts xs (t.bare a) = type_points ts xs a
  last_points ts xs (t.named w a) = type_points ts xs a

-- an annotation, or an abbreviation's type: its size is tested at its last token, and is then added
abbrev pub bounded_type : Abbreviations → Names → t.Ty → Points
bounded_type ts xs a = type_points ts xs a ⨾ one (ends_type (type_nodes ts xs a) (ty_span a))

unfoldable pub whole_type : Abbreviations → Names → t.Ty → Points
whole_type ts xs a = bounded_type ts xs a ⨾ one (adds (type_nodes ts xs a) (ty_span a))

-- an outermost message of a process: its size is tested at its last token, and is then added
unfoldable pub part : Names → t.Msg → Points
part xs m = message_points_whole xs m ⨾ one (adds (msg_nodes xs m) (msg_span m))

-- What stands before the processes of a form, of which the form's own addition is at its first token: a message, two, a
-- message and an annotation, and so on.
unfoldable pub message_head : Names → Span → t.Msg → Points
message_head xs s m = one (adds 1 s) ⨾ part xs m

unfoldable pub messages_head : Names → Span → t.Msg → t.Msg → Points
messages_head xs s m n = one (adds 1 s) ⨾ part xs m ⨾ part xs n

unfoldable pub typed_head : Abbreviations → Names → Span → t.Msg → t.Ty → Points
typed_head ts xs s m a = one (adds 1 s) ⨾ part xs m ⨾ whole_type ts xs a

unfoldable pub new_head : Abbreviations → Names → Span → t.Ty → Points
new_head ts xs s a = one (adds 1 s) ⨾ whole_type ts xs a

unfoldable pub tested_head : Abbreviations → Names → Span → t.Msg → t.Ty → t.Msg → Points
tested_head ts xs s m a n = one (adds 1 s) ⨾ part xs m ⨾ whole_type ts xs a ⨾ part xs n

-- the first name is in scope in the second annotation
unfoldable pub split_head : Abbreviations → Names → Span → t.Msg → SWord → t.Ty → t.Ty → Points
split_head ts xs s m x a c = one (adds 1 s) ⨾ part xs m ⨾ whole_type ts xs a ⨾ whole_type ts (x.word ∷ xs) c

unfoldable pub match_head : Abbreviations → Names → Span → t.Msg → SWord → t.Ty → t.Msg → t.Ty → Points
match_head ts xs s m x a n c = tested_head ts xs s m a n ⨾ whole_type ts (x.word ∷ xs) c

-- A composition adds 1 at its `|`, or at the `;` of `out M N; P`, and every other form at its first token.
abbrev pub process_points : Abbreviations → Names → t.Proc → Points
process_points ts xs (t.par s p q) = process_points ts xs p ⨾ one (adds 1 s) ⨾ process_points ts xs q
process_points ts xs (t.out s m n) = messages_head xs s m n
process_points ts xs (t.out_then s m n p) = messages_head xs s m n ⨾ one (adds 1 s) ⨾ process_points ts xs p
process_points ts xs (t.inp s m x a p) = typed_head ts xs s m a ⨾ process_points ts (x.word ∷ xs) p
process_points ts xs (t.repeat s m x a p) = typed_head ts xs s m a ⨾ process_points ts (x.word ∷ xs) p
process_points ts xs (t.split s m x a y c p) =
    split_head ts xs s m x a c ⨾ process_points ts (y.word ∷ x.word ∷ xs) p
process_points ts xs (t.match s m x a n y c p) =
    match_head ts xs s m x a n c ⨾ process_points ts (y.word ∷ xs) p
process_points ts xs (t.case s m x a p y c q) =
    typed_head ts xs s m a ⨾ process_points ts (x.word ∷ xs) p ⨾ whole_type ts xs c
    ⨾ process_points ts (y.word ∷ xs) q
process_points ts xs (t.decrypt s m x a n p) = tested_head ts xs s m a n ⨾ process_points ts (x.word ∷ xs) p
process_points ts xs (t.check s m n p) = messages_head xs s m n ⨾ process_points ts xs p
process_points ts xs (t.begin s m p) = message_head xs s m ⨾ process_points ts xs p
process_points ts xs (t.end s m p) = message_head xs s m ⨾ process_points ts xs p
process_points ts xs (t.end_many s m p) = message_head xs s m ⨾ process_points ts xs p
process_points ts xs (t.cast s m x a p) = typed_head ts xs s m a ⨾ process_points ts (x.word ∷ xs) p
process_points ts xs (t.new s x a p) = new_head ts xs s a ⨾ process_points ts (x.word ∷ xs) p
process_points ts xs (t.stop s) = one (adds 1 s)
process_points ts xs (t.group s p q) = process_points ts xs p ⨾ one (adds 1 s) ⨾ process_points ts xs q

-- the points of declarations, and what is in scope behind them
abbrev pub free_point : Names → SWord → Points
free_point xs w = one (declares_name xs w) ⨾ one (adds 1 w.span)

abbrev pub free_points : Names → List SWord → Points
free_points xs [] = none
free_points xs (w ∷ ws) = free_point xs w ⨾ free_points (w.word ∷ xs) ws

abbrev pub with_free : Names → List SWord → Names
with_free xs [] = xs
with_free xs (w ∷ ws) = with_free (w.word ∷ xs) ws

abbrev pub decl_points : Abbreviations → Names → t.Declared → Points
decl_points ts xs (t.free s w ws) = free_points xs (w ∷ ws)
decl_points ts xs (t.abbreviated s w a) = one (declares_type ts w) ⨾ whole_type ts xs a

abbrev pub names_behind : Names → t.Declared → Names
names_behind xs (t.free s w ws) = with_free xs (w ∷ ws)
names_behind xs (t.abbreviated s w a) = xs

-- an abbreviation stands for its type with the free names declared so far
abbrev pub types_behind : Abbreviations → Names → t.Declared → Abbreviations
types_behind ts xs (t.free s w ws) = ts
types_behind ts xs (t.abbreviated s w a) =
    ts ++ record { word = w.word; stands_for = type_in (length xs) ts xs a } ∷ []

-- each declaration sees those before it
abbrev pub decls_points : Abbreviations → Names → List t.Declared → Points
decls_points ts xs [] = none
decls_points ts xs (d ∷ ds) = decl_points ts xs d ⨾ decls_points (types_behind ts xs d) (names_behind xs d) ds

abbrev pub all_names : Names → List t.Declared → Names
all_names xs [] = xs
all_names xs (d ∷ ds) = all_names (names_behind xs d) ds

abbrev pub all_types : Abbreviations → Names → List t.Declared → Abbreviations
all_types ts xs [] = ts
all_types ts xs (d ∷ ds) = all_types (types_behind ts xs d) (names_behind xs d) ds

-- an opponent sees what the declarations bring into scope
abbrev pub opponent_points : Abbreviations → Names → Option t.Proc → Points
opponent_points ts xs None = none
opponent_points ts xs (Some p) = process_points ts xs p

-- the steps of a schedule of n, of which the first has the number i
abbrev pub steps_points : ℕ → ℕ → List t.Step → Points
steps_points i n [] = none
steps_points i n (x ∷ xs) = one (starts_step i n (step_span x)) ⨾ steps_points (i + 1) n xs

abbrev pub schedule_points : Option (List t.Step) → Points
schedule_points None = none
schedule_points (Some xs) = steps_points 1 (length xs) xs

-- the messages of a derivation are tested, and aren't counted
abbrev pub numbered_points : t.Msg → Points
numbered_points m = one (ends_message (message_size (numbered_message m)) (msg_span m))

abbrev pub numbered_atom_points : t.Atom → Points
numbered_atom_points (t.ends s m) = numbered_points m
numbered_atom_points (t.checks s m) = numbered_points m
numbered_atom_points (t.many s m) = numbered_points m

abbrev pub numbered_atoms_points : List t.Atom → Points
numbered_atoms_points [] = none
numbered_atoms_points (a ∷ es) = numbered_atom_points a ⨾ numbered_atoms_points es

abbrev pub written_points : Option (List t.Atom) → Points
written_points None = none
written_points (Some es) = numbered_atoms_points es

abbrev mutual
  pub deriv_points : t.Deriv → Points
  deriv_points (t.rule s w es ds) = written_points es ⨾ derivs_points ds

  pub derivs_points : t.Derivs → Points
  derivs_points t.no_derivs = none
  derivs_points (t.more_derivs d ds) = deriv_points d ⨾ derivs_points ds

abbrev pub derivation_points : Option t.Deriv → Points
derivation_points None = none
derivation_points (Some d) = deriv_points d

-- the points of a file, from its declarations on
abbrev pub body_points : Abbreviations → Names → t.File → Points
body_points ts xs f =
    process_points ts xs f.process ⨾ opponent_points ts xs f.opponent ⨾ schedule_points f.schedule
    ⨾ derivation_points f.derivation

abbrev pub file_points : t.File → Points
file_points f = decls_points [] [] f.decls ⨾ body_points (all_types [] [] f.decls) (all_names [] f.decls) f
