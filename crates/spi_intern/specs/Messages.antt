-- Messages in the order of their numbers, and what the shallow nodes of the store say.
use Rattle.std.specs.Prelude.{◌≡◌, ℕ, List, Some, slice_get}
use Rattle.spi_term.specs.Term.{Message, bound, name, unit, pair, in_left, in_right, enc, hash, same_message}
use Rattle.spi_intern.specs.Table.{with_value}
use Rattle.spi_intern.specs.declared.messages.MsgId.{MsgId}
use Rattle.spi_intern.specs.declared.messages.MsgPart.{MsgPart}
use Rattle.spi_intern.specs.declared.messages.MsgPart.TheVariants.{Bound, Name, Unit as NoParts, Pair, Inl, Inr, Enc, Hash}
use Rattle.spi_term.specs.Substitution.{or_unit}

-- the message with this outermost constructor, and the numbers of its parts
pub data Says (ms : List Message) : MsgPart → Message → Type 0 where
  says_bound : {i : ℕ} → Says ms (Bound i) (bound i)
  says_name : {x : ℕ} → Says ms (Name x) (name x)
  says_unit : Says ms NoParts unit
  says_pair : {a b : MsgId} {m n : Message} → slice_get ms a.place ≡ Some m → slice_get ms b.place ≡ Some n
      → Says ms (Pair a b) (pair m n)
  says_left : {a : MsgId} {m : Message} → slice_get ms a.place ≡ Some m → Says ms (Inl a) (in_left m)
  says_right : {a : MsgId} {m : Message} → slice_get ms a.place ≡ Some m → Says ms (Inr a) (in_right m)
  says_enc : {a b : MsgId} {m n : Message} → slice_get ms a.place ≡ Some m → slice_get ms b.place ≡ Some n
      → Says ms (Enc a b) (enc m n)
  says_hash : {a : MsgId} {m : Message} → slice_get ms a.place ≡ Some m → Says ms (Hash a) (hash m)

-- the message with this number, where there is one
abbrev pub message_at : List Message → MsgId → Message
message_at ms id = or_unit (slice_get ms id.place)

-- the message with this outermost constructor: the same as a function, since what a table is seen as is computed
abbrev pub said : List Message → MsgPart → Message
said ms (Bound i) = bound i
said ms (Name x) = name x
said ms NoParts = unit
said ms (Pair a b) = pair (message_at ms a) (message_at ms b)
said ms (Inl a) = in_left (message_at ms a)
said ms (Inr a) = in_right (message_at ms a)
said ms (Enc a b) = enc (message_at ms a) (message_at ms b)
said ms (Hash a) = hash (message_at ms a)

-- the messages with m, at the end where it is new
abbrev pub message_added : List Message → Message → List Message
message_added ms m = with_value same_message ms m

-- the messages with m and its parts, each where it is new after its own parts
abbrev pub interned : List Message → Message → List Message
interned ms (bound i) = message_added ms (bound i)
interned ms (name x) = message_added ms (name x)
interned ms unit = message_added ms unit
interned ms (pair a b) = message_added (interned (interned ms a) b) (pair a b)
interned ms (in_left a) = message_added (interned ms a) (in_left a)
interned ms (in_right a) = message_added (interned ms a) (in_right a)
interned ms (enc a b) = message_added (interned (interned ms a) b) (enc a b)
interned ms (hash a) = message_added (interned ms a) (hash a)
