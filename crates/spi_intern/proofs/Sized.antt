-- Messages by their numbers, and those of their parts.
use Rattle.std.proofs.Common.{◌≡◌, ℕ, ◌+◌, ◌<◌, List, Some, slice_get, length, refl, sym, ap, ◌∙◌}
use Rattle.std.proofs.lemmas.Option.{slice_get_within}
use Rattle.spi_term.specs.Term.{Message, bound, name, unit, pair, in_left, in_right, enc, hash, message_size}
use Rattle.spi_intern.specs.Messages.{Says, says_bound, says_name, says_unit, says_pair, says_left, says_right, says_enc, says_hash, message_at}
use Rattle.spi_intern.specs.declared.messages.MsgId.{MsgId}
use Rattle.spi_intern.specs.declared.messages.MsgPart.{MsgPart}
use Rattle.spi_intern.specs.declared.messages.MsgPart.TheVariants.{Bound, Name, Unit as NoParts, Pair, Inl, Inr, Enc, Hash}
use Rattle.spi_term.specs.Substitution.{or_unit}
use Rattle.spi_term.proofs.Lists.{get_some}

pub at_message : (ms : List Message) (id : MsgId) {m : Message} → slice_get ms id.place ≡ Some m → message_at ms id ≡ m
at_message ms id e = ap or_unit e

pub message_there : (ms : List Message) (id : MsgId) → id.place < length ms → slice_get ms id.place ≡ Some (message_at ms id)
message_there ms id h = let w = get_some ms id.place h in w.1 ∙ ap (λ o. Some (or_unit o)) (sym w.1)

pub record TwoOf (ms : List Message) (m a b : MsgId) (f : Message → Message → Message) : Type 0 where
  pub first : a.place < length ms
  pub second : b.place < length ms
  pub is : f (message_at ms a) (message_at ms b) ≡ message_at ms m
  pub size : message_size (message_at ms m) ≡ 1 + (message_size (message_at ms a) + message_size (message_at ms b))

pub record OneOf (ms : List Message) (m a : MsgId) (f : Message → Message) : Type 0 where
  pub part : a.place < length ms
  pub is : f (message_at ms a) ≡ message_at ms m
  pub size : message_size (message_at ms m) ≡ 1 + message_size (message_at ms a)

abbrev pub Tells : List Message → MsgId → MsgPart → Type 0
Tells ms m p = (n : Message) → slice_get ms m.place ≡ Some n → Says ms p n

-- a message over two parts, or over one, and the node that says it
pub record SaysTwo (f : Message → Message → Message) (part : MsgId → MsgId → MsgPart) : Type 0 where
  pub says : (ms : List Message) (x y : MsgId) (m n : Message) → slice_get ms x.place ≡ Some m → slice_get ms y.place ≡ Some n → Says ms (part x y) (f m n)
  pub parts : (ms : List Message) (x y : MsgId) (k : Message) → Says ms (part x y) k → (m : Message) × (n : Message) × (f m n ≡ k) × (slice_get ms x.place ≡ Some m) × (slice_get ms y.place ≡ Some n)
  pub size : (m n : Message) → message_size (f m n) ≡ 1 + (message_size m + message_size n)

pub record SaysOne (f : Message → Message) (part : MsgId → MsgPart) : Type 0 where
  pub says : (ms : List Message) (x : MsgId) (m : Message) → slice_get ms x.place ≡ Some m → Says ms (part x) (f m)
  pub inner : (ms : List Message) (x : MsgId) (k : Message) → Says ms (part x) k → (m : Message) × (f m ≡ k) × (slice_get ms x.place ≡ Some m)
  pub size : (m : Message) → message_size (f m) ≡ 1 + message_size m

parts_of_pair : {ms : List Message} {x y : MsgId} {k : Message} → Says ms (Pair x y) k → (m : Message) × (n : Message) × (pair m n ≡ k) × (slice_get ms x.place ≡ Some m) × (slice_get ms y.place ≡ Some n)
parts_of_pair (says_pair {m = m} {n = n} p q) = (m, n, refl, p, q)

parts_of_enc : {ms : List Message} {x y : MsgId} {k : Message} → Says ms (Enc x y) k → (m : Message) × (n : Message) × (enc m n ≡ k) × (slice_get ms x.place ≡ Some m) × (slice_get ms y.place ≡ Some n)
parts_of_enc (says_enc {m = m} {n = n} p q) = (m, n, refl, p, q)

part_of_left : {ms : List Message} {x : MsgId} {k : Message} → Says ms (Inl x) k → (m : Message) × (in_left m ≡ k) × (slice_get ms x.place ≡ Some m)
part_of_left (says_left {m = m} p) = (m, refl, p)

part_of_right : {ms : List Message} {x : MsgId} {k : Message} → Says ms (Inr x) k → (m : Message) × (in_right m ≡ k) × (slice_get ms x.place ≡ Some m)
part_of_right (says_right {m = m} p) = (m, refl, p)

part_of_hash : {ms : List Message} {x : MsgId} {k : Message} → Says ms (Hash x) k → (m : Message) × (hash m ≡ k) × (slice_get ms x.place ≡ Some m)
part_of_hash (says_hash {m = m} p) = (m, refl, p)

pub pair_is_two : SaysTwo pair Pair
pair_is_two = record { says = λ ms x y m n p q. says_pair p q; parts = λ ms x y k s. parts_of_pair s; size = λ m n. refl }

pub enc_is_two : SaysTwo enc Enc
enc_is_two = record { says = λ ms x y m n p q. says_enc p q; parts = λ ms x y k s. parts_of_enc s; size = λ m n. refl }

pub left_is_one : SaysOne in_left Inl
left_is_one = record { says = λ ms x m p. says_left p; inner = λ ms x k s. part_of_left s; size = λ m. refl }

pub right_is_one : SaysOne in_right Inr
right_is_one = record { says = λ ms x m p. says_right p; inner = λ ms x k s. part_of_right s; size = λ m. refl }

pub hash_is_one : SaysOne hash Hash
hash_is_one = record { says = λ ms x m p. says_hash p; inner = λ ms x k s. part_of_hash s; size = λ m. refl }

module _ (ms : List Message) (m : MsgId) where
  pub two_parts_of : {f : Message → Message → Message} {part : MsgId → MsgId → MsgPart} {a b : MsgId} → SaysTwo f part → Tells ms m (part a b) → m.place < length ms → TwoOf ms m a b f
  two_parts_of {f} {a = a} {b = b} j t h =
      let w = j.parts ms a b (message_at ms m) (t (message_at ms m) (message_there ms m h)) in
      let e : f (message_at ms a) (message_at ms b) ≡ message_at ms m = (λ i. f (at_message ms a w.3 i) (at_message ms b w.4 i)) ∙ w.2 in
      record { first = slice_get_within ms a.place w.0 w.3; second = slice_get_within ms b.place w.1 w.4; is = e; size = sym (ap message_size e) ∙ j.size (message_at ms a) (message_at ms b) }

  pub one_part_of : {f : Message → Message} {part : MsgId → MsgPart} {a : MsgId} → SaysOne f part → Tells ms m (part a) → m.place < length ms → OneOf ms m a f
  one_part_of {f} {a = a} j t h =
      let w = j.inner ms a (message_at ms m) (t (message_at ms m) (message_there ms m h)) in
      let e : f (message_at ms a) ≡ message_at ms m = ap f (at_message ms a w.2) ∙ w.1 in
      record { part = slice_get_within ms a.place w.0 w.2; is = e; size = sym (ap message_size e) ∙ j.size (message_at ms a) }

  bound_says : {i : ℕ} (n : Message) → message_at ms m ≡ n → Says ms (Bound i) n → bound i ≡ message_at ms m
  bound_says _ e says_bound = sym e

  name_says : {x : ℕ} (n : Message) → message_at ms m ≡ n → Says ms (Name x) n → name x ≡ message_at ms m
  name_says _ e says_name = sym e

  unit_says : (n : Message) → message_at ms m ≡ n → Says ms NoParts n → unit ≡ message_at ms m
  unit_says _ e says_unit = sym e

  pub pair_of : {a b : MsgId} → Tells ms m (Pair a b) → m.place < length ms → TwoOf ms m a b pair
  pair_of f h = two_parts_of pair_is_two f h

  pub enc_of : {a b : MsgId} → Tells ms m (Enc a b) → m.place < length ms → TwoOf ms m a b enc
  enc_of f h = two_parts_of enc_is_two f h

  pub left_of : {a : MsgId} → Tells ms m (Inl a) → m.place < length ms → OneOf ms m a in_left
  left_of f h = one_part_of left_is_one f h

  pub right_of : {a : MsgId} → Tells ms m (Inr a) → m.place < length ms → OneOf ms m a in_right
  right_of f h = one_part_of right_is_one f h

  pub hash_of : {a : MsgId} → Tells ms m (Hash a) → m.place < length ms → OneOf ms m a hash
  hash_of f h = one_part_of hash_is_one f h

  pub bound_of : {i : ℕ} → Tells ms m (Bound i) → m.place < length ms → bound i ≡ message_at ms m
  bound_of f h = bound_says (message_at ms m) refl (f (message_at ms m) (message_there ms m h))

  pub name_of : {x : ℕ} → Tells ms m (Name x) → m.place < length ms → name x ≡ message_at ms m
  name_of f h = name_says (message_at ms m) refl (f (message_at ms m) (message_there ms m h))

  pub unit_of : Tells ms m NoParts → m.place < length ms → unit ≡ message_at ms m
  unit_of f h = unit_says (message_at ms m) refl (f (message_at ms m) (message_there ms m h))
