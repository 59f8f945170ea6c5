-- A walk over a message goes on to smaller parts, whose numbers are below a store's length.
use Rattle.std.proofs.Common.{◌≡◌, ◌⊎◌, inl, inr, ℕ, ◌+◌, ◌*◌, ◌<◌, List, length, ap, subst, arith}
use Rattle.spi_term.specs.Term.{Message, pair, in_left, in_right, enc, hash, message_size}
use Rattle.spi_term.specs.View.{message}
use Rattle.spi_term.specs.declared.term.Msg.{Msg}
use Rattle.spi_intern.specs.Messages.{message_at}
use Rattle.spi_intern.specs.declared.messages.MsgId.{MsgId}
use Rattle.spi_intern.specs.declared.messages.MsgPart.{MsgPart}
use Rattle.spi_intern.specs.declared.messages.MsgPart.TheVariants as P
use Rattle.spi_intern.proofs.Sized.{Tells, TwoOf, OneOf, pair_of, enc_of, left_of, right_of, hash_of, bound_of, name_of, unit_of}

-- a node over no part, over one, and over two, whichever it is
pub of_no_part : (ms : List Message) (m : MsgId) {p : MsgPart} → Tells ms m p → m.place < length ms → ((i : ℕ) × (p ≡ P.Bound i)) ⊎ (((x : ℕ) × (p ≡ P.Name x)) ⊎ (p ≡ P.Unit)) → 1 ≡ message_size (message_at ms m)
of_no_part ms m t h (inl e) = ap message_size (bound_of ms m (subst (Tells ms m) e.1 t) h)
of_no_part ms m t h (inr (inl e)) = ap message_size (name_of ms m (subst (Tells ms m) e.1 t) h)
of_no_part ms m t h (inr (inr e)) = ap message_size (unit_of ms m (subst (Tells ms m) e t) h)

pub of_one : (ms : List Message) (m : MsgId) {p : MsgPart} {a : MsgId} → Tells ms m p → m.place < length ms → (p ≡ P.Inl a) ⊎ ((p ≡ P.Inr a) ⊎ (p ≡ P.Hash a)) → (f : Message → Message) × OneOf ms m a f
of_one ms m t h (inl e) = (in_left, left_of ms m (subst (Tells ms m) e t) h)
of_one ms m t h (inr (inl e)) = (in_right, right_of ms m (subst (Tells ms m) e t) h)
of_one ms m t h (inr (inr e)) = (hash, hash_of ms m (subst (Tells ms m) e t) h)

pub of_two : (ms : List Message) (m : MsgId) {p : MsgPart} {a b : MsgId} → Tells ms m p → m.place < length ms → (p ≡ P.Pair a b) ⊎ (p ≡ P.Enc a b) → (f : Message → Message → Message) × TwoOf ms m a b f
of_two ms m t h (inl e) = (pair, pair_of ms m (subst (Tells ms m) e t) h)
of_two ms m t h (inr e) = (enc, enc_of ms m (subst (Tells ms m) e t) h)

pub first_less : {ms : List Message} {m a b : MsgId} {f : Message → Message → Message} {t : ℕ} → message_size (message_at ms m) ≡ t → TwoOf ms m a b f → (message_size (message_at ms a) < t) × (a.place < length ms)
first_less e w = (omega (arith, w.size, e), w.first)

pub second_less : {ms : List Message} {m a b : MsgId} {f : Message → Message → Message} {t : ℕ} → message_size (message_at ms m) ≡ t → TwoOf ms m a b f → (message_size (message_at ms b) < t) × (b.place < length ms)
second_less e w = (omega (arith, w.size, e), w.second)

pub part_less : {ms : List Message} {m a : MsgId} {f : Message → Message} {t : ℕ} → message_size (message_at ms m) ≡ t → OneOf ms m a f → (message_size (message_at ms a) < t) × (a.place < length ms)
part_less e w = (omega (arith, w.size, e), w.part)

-- the same where a walk takes two steps for a node
pub first_less_twice : {ms : List Message} {m a b : MsgId} {f : Message → Message → Message} {t : ℕ} → 2 * message_size (message_at ms m) ≡ t → TwoOf ms m a b f → (2 * message_size (message_at ms a) + 1 < t) × (a.place < length ms)
first_less_twice e w = (omega (arith, w.size, e), w.first)

pub second_less_twice : {ms : List Message} {m a b : MsgId} {f : Message → Message → Message} {t : ℕ} → 2 * message_size (message_at ms m) ≡ t → TwoOf ms m a b f → (2 * message_size (message_at ms b) + 1 < t) × (b.place < length ms)
second_less_twice e w = (omega (arith, w.size, e), w.second)

pub part_less_twice : {ms : List Message} {m a : MsgId} {f : Message → Message} {t : ℕ} → 2 * message_size (message_at ms m) ≡ t → OneOf ms m a f → (2 * message_size (message_at ms a) < t) × (a.place < length ms)
part_less_twice e w = (omega (arith, w.size, e), w.part)

-- the same of a message that is read
pub read_less : {m w a d : Msg} {t : ℕ} → message_size (message m) ≡ t → m ≡ w → d ≡ a → message_size (message a) < message_size (message w) → message_size (message d) < t
read_less e i j h = omega (arith, e, ap (λ (x : Msg). message_size (message x)) i, ap (λ (x : Msg). message_size (message x)) j, h)
