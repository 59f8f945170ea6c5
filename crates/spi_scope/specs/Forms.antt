-- What the functions that read a process leave behind: its nodes, where they stand, and the scope as it was.
use Rattle.std.specs.Prelude.{◌≡◌, suc, ◌+◌, ◌≤◌, [], ◌∷◌, ◌++◌, map, length}
use Rattle.spi_text.specs.declared.lines.Span.{Span}
use Rattle.spi_tree.specs.Trees as t
use Rattle.spi_term.specs.Term.{Message, Ty, Prefix}
use Rattle.spi_term.specs.Spelling.{prefix_at, flat}
use Rattle.spi_term.specs.View.{shape_of}
use Rattle.spi_scope.specs.declared.arena.Arena.{Arena}
use Rattle.spi_scope.specs.declared.scope.Scope.{Scope}
use Rattle.spi_scope.specs.Scope.{Word, Names}
use Rattle.spi_scope.specs.Meaning.{message_in, type_in, process_in}
use Rattle.spi_scope.specs.Marks.{places, scopes}
use Rattle.spi_scope.specs.Points.{process_points}
use Rattle.spi_scope.specs.Gives.{Ran, run}
use Rattle.spi_scope.specs.State.{abbreviations}

-- a message here, a type here, and a type under the binder of one more name: each name in scope by its number
abbrev pub message_here : Scope → t.Msg → Message
message_here s m = message_in (length s.held.names) s.held.names m

abbrev pub type_here : Scope → t.Ty → Ty
type_here s a = type_in (length s.held.names) (abbreviations s.types) s.held.names a

abbrev pub type_under : Scope → Word → t.Ty → Ty
type_under s x a = type_in (length s.held.names) (abbreviations s.types) (x ∷ s.held.names) a

-- a message or a type was read: what is in scope is as it was, and few nodes were counted
pub record KeepsScope (old new : Scope) : Type 0 where
  pub held : new.held ≡ old.held
  pub types : new.types ≡ old.types
  pub few : new.count ≤ 100000

-- a form with one process behind it was read up to that process: there is one more node, whose process is the next
pub record AddsForm (old new : Scope) (before after : Arena) (span : Span) (p : Prefix) : Type 0 where
  pub nodes : map shape_of after.nodes.items
      ≡ map shape_of before.nodes.items
      ++ prefix_at (length old.held.names) p (suc (length before.nodes.items)) ∷ []
  pub len : length after.nodes.items ≡ length before.nodes.items + 1
  pub placed : after.places.items ≡ before.places.items ++ span ∷ []
  pub noted : new.held.noted ≡ old.held.noted ++ old.held.names ∷ []
  pub names : new.held.names ≡ old.held.names
  pub types : new.types ≡ old.types
  pub few : new.count ≤ 100000

-- what the points of a process that sees these names lead to
abbrev pub process_run : Scope → Names → t.Proc → Ran
process_run s xs p = run (process_points (abbreviations s.types) xs p) s.count

-- a process that sees these names was read: its nodes are behind those that were there
pub record AddsProcess (old new : Scope) (before after : Arena) (xs : Names) (p : t.Proc) : Type 0 where
  pub nodes : map shape_of after.nodes.items
      ≡ map shape_of before.nodes.items
      ++ flat (length before.nodes.items) (length xs)
      (process_in (λ s. s) (abbreviations old.types) xs p)
  pub placed : after.places.items ≡ before.places.items ++ places p
  pub noted : new.held.noted ≡ old.held.noted ++ scopes xs p
  pub names : new.held.names ≡ old.held.names
  pub types : new.types ≡ old.types
  pub few : new.count ≤ 100000

-- how the forms of a process are read: those with messages alone before the process behind, those with a message and
-- the type of a name, those that open what they bind, those that take a pair apart, and the others, outputs among them
pub data FormKind : Type 0 where
  messages_form : FormKind
  typed_form : FormKind
  opening_form : FormKind
  pair_form : FormKind
  other_form : FormKind

abbrev pub form_kind : t.Proc → FormKind
form_kind (t.par s p q) = other_form
form_kind (t.out s m n) = other_form
form_kind (t.out_then s m n p) = other_form
form_kind (t.inp s m x a p) = typed_form
form_kind (t.repeat s m x a p) = typed_form
form_kind (t.split s m x a y c p) = pair_form
form_kind (t.match s m x a n y c p) = pair_form
form_kind (t.case s m x a p y c q) = other_form
form_kind (t.decrypt s m x a n p) = opening_form
form_kind (t.check s m n p) = messages_form
form_kind (t.begin s m p) = messages_form
form_kind (t.end s m p) = messages_form
form_kind (t.end_many s m p) = messages_form
form_kind (t.cast s m x a p) = typed_form
form_kind (t.new s x a p) = opening_form
form_kind (t.stop s) = other_form
form_kind (t.group s p q) = other_form

-- how a message is read: tuples and encrypted messages have several messages in them
pub data MessageForm : Type 0 where
  tuple_form : MessageForm
  enc_form : MessageForm
  other_message : MessageForm

abbrev pub message_form : t.Msg → MessageForm
message_form (t.name s w) = other_message
message_form (t.unit s) = other_message
message_form (t.tuple s a b ms) = tuple_form
message_form (t.inl s a) = other_message
message_form (t.inr s a) = other_message
message_form (t.enc s a b) = enc_form
message_form (t.hash s a) = other_message
message_form (t.num s i) = other_message

-- how a type is read, in the same way
pub data TypeForm : Type 0 where
  tuple_ty_form : TypeForm
  sum_form : TypeForm
  other_type : TypeForm

abbrev pub type_form : t.Ty → TypeForm
type_form (t.un s) = other_type
type_form (t.unit_ty s) = other_type
type_form (t.tuple_ty s w a fs l) = tuple_ty_form
type_form (t.sum s a b) = sum_form
type_form (t.key s a) = other_type
type_form (t.nonce s es) = other_type
type_form (t.abbr s w) = other_type
