-- What a role has, and what its messages are by it.
use Rattle.std.specs.Prelude.{List, [], ◌∷◌, length, Option, Some, None, if◌then◌else◌}
use Rattle.std.specs.Str.{bytes_eq}
use Rattle.spi_tree.specs.Trees as t
use Rattle.spi_term.specs.Term.{Message, name, unit, in_left, in_right, enc, hash}
use Rattle.spi_scope.specs.Scope.{Word, Names}
use Rattle.spi_scope.specs.Meaning.{nested}
use Rattle.spi_term.specs.Substitution.{or_unit}

-- a message at a spelling
pub record GivenMessage : Type 0 where
  pub word : Word
  pub message : Message

-- a finite map from spellings to messages, the latest first
abbrev pub Map : Type 0
Map = List GivenMessage

-- the message at a spelling is the latest that was given there
abbrev pub at_word : Map → Word → Option Message
at_word [] w = None
at_word (x ∷ g) w = if bytes_eq x.word w then Some x.message else at_word g w

-- no word of a narration whose woven file resolves is without a message
abbrev pub word_in : Map → Word → Message
word_in g w = or_unit (at_word g w)

-- a message of a tree, with a message for each word
abbrev mutual
  pub valued : (Word → Message) → t.Msg → Message
  valued f (t.name s w) = f w.word
  valued f (t.unit s) = unit
  valued f (t.tuple s a b ms) = nested (valued f a) (valued f b ∷ all_valued f ms)
  valued f (t.inl s a) = in_left (valued f a)
  valued f (t.inr s a) = in_right (valued f a)
  valued f (t.enc s a b) = enc (valued f a) (valued f b)
  valued f (t.hash s a) = hash (valued f a)
  valued f (t.num s i) = unit

  pub all_valued : (Word → Message) → t.Msgs → List Message
  all_valued f t.no_msgs = []
  all_valued f (t.more_msgs m ms) = valued f m ∷ all_valued f ms

-- the value of a message for a role that has these
abbrev pub value_in_map : Map → t.Msg → Message
value_in_map g m = valued (word_in g) m

-- names in scope, each with its number
abbrev pub names_numbered : Names → Map
names_numbered [] = []
names_numbered (x ∷ xs) = record { word = x; message = name (length xs) } ∷ names_numbered xs
