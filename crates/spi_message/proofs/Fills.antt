-- Messages with values for their indices, by their numbers.
use Rattle.std.proofs.Common.{◌≡◌, ℕ, zero, suc, ◌<◌, ◌≤◌, ◌^◌, List, [], ◌∷◌, Some, None, slice_get, length, refl, sym, ap, ◌∙◌, arith, Result, Ok, Err, IfOk}
use Rattle.std.proofs.lemmas.Option.{slice_get_within}
use Rattle.std.specs.Prelude.{Bool, true, false, ◌-◌, nat_lt, if◌then◌else◌, option_map}
use Rattle.spi_term.specs.Term.{Message, bound, name, unit, message_size}
use Rattle.spi_intern.specs.Table.{KeepsAll}
use Rattle.spi_intern.specs.Messages.{Says, message_at}
use Rattle.spi_intern.specs.Given.{IsOverGiven}
use Rattle.spi_intern.specs.declared.messages.MsgId.{MsgId}
use Rattle.spi_intern.specs.declared.messages.MsgPart.{MsgPart}
use Rattle.spi_intern.proofs.Sized.{TwoOf, OneOf, SaysTwo, SaysOne, at_message, message_there}
use Rattle.spi_message.specs.Filling.{last_but, value_of, or_bound, fill, values_of, AreIdsBelow, IsDepth, FillsMessage}

pub below_keeps : {ms ns : List Message} (id : MsgId) → KeepsAll ms ns → id.place < length ms → id.place < length ns
below_keeps {ms} {ns} id k h = slice_get_within ns id.place (message_at ms id) (k.at _ _ (message_there ms id h))

pub message_keeps : {ms ns : List Message} (id : MsgId) → KeepsAll ms ns → id.place < length ms → message_at ns id ≡ message_at ms id
message_keeps {ms} {ns} id k h = at_message ns id (k.at _ _ (message_there ms id h))

pub size_keeps : {ms ns : List Message} (id : MsgId) → KeepsAll ms ns → id.place < length ms → message_size (message_at ns id) ≡ message_size (message_at ms id)
size_keeps id k h = ap message_size (message_keeps id k h)

-- lists of numbers
head_below : (id : MsgId) (ids : List MsgId) (n : ℕ) → AreIdsBelow (id ∷ ids) n → id.place < n
head_below id ids n h = h.at 0 id refl

tail_below : (id : MsgId) (ids : List MsgId) (n : ℕ) → AreIdsBelow (id ∷ ids) n → AreIdsBelow ids n
tail_below id ids n h = record { at = λ i j e. h.at (suc i) j e }

pub all_below_keeps : {ms ns : List Message} {ids : List MsgId} → KeepsAll ms ns → AreIdsBelow ids (length ms) → AreIdsBelow ids (length ns)
all_below_keeps k h = record { at = λ i id e. below_keeps id k (h.at i id e) }

pub values_keep : {ms ns : List Message} (ids : List MsgId) → KeepsAll ms ns → AreIdsBelow ids (length ms) → values_of ns ids ≡ values_of ms ids
values_keep [] k h = refl
values_keep {ms} {ns} (id ∷ ids) k h = λ i. message_keeps id k (head_below id ids (length ms) h) i ∷ values_keep ids k (tail_below id ids (length ms) h) i

pub none_below : (n : ℕ) → AreIdsBelow [] n
none_below n = record { at = λ i id e. absurd cc }

-- a depth for which a count stands
pub own_depth : (depth : ℕ) → depth ≤ 2 ^ 32 → IsDepth depth depth
own_depth depth h = omega arith

pub fills_there : {ms ns : List Message} {vs : List MsgId} {depth : ℕ} {m r : MsgId} → depth ≤ 2 ^ 32 → FillsMessage ms ns vs depth m r → slice_get ns r.place ≡ Some (fill (values_of ms vs) depth (message_at ms m))
fills_there {depth = depth} h f = f.at depth (own_depth depth h)

-- the numbers of the parts are given where the whole is put
pub given_over_two : {ls ms ns : List Message} {vs : List MsgId} {depth : ℕ} {a b x y : MsgId} {c : Message → Message → Message} {part : MsgId → MsgId → MsgPart} → SaysTwo c part → depth ≤ 2 ^ 32 → FillsMessage ls ms vs depth a x → KeepsAll ms ns → FillsMessage ms ns vs depth b y → IsOverGiven ns (part x y)
given_over_two {ns = ns} {x = x} {y = y} j h f k g = record { message = _; says = j.says ns x y _ _ (k.at _ _ (fills_there h f)) (fills_there h g) }

pub given_over_one : {ms ns : List Message} {vs : List MsgId} {depth : ℕ} {a x : MsgId} {c : Message → Message} {part : MsgId → MsgPart} → SaysOne c part → depth ≤ 2 ^ 32 → FillsMessage ms ns vs depth a x → IsOverGiven ns (part x)
given_over_one {ns = ns} {x = x} j h f = record { message = _; says = j.says ns x _ (fills_there h f) }

-- a message that stays
pub fills_same : {ms : List Message} {vs : List MsgId} {depth : ℕ} {m : MsgId} → m.place < length ms → ((d : ℕ) → fill (values_of ms vs) d (message_at ms m) ≡ message_at ms m) → FillsMessage ms ms vs depth m m
fills_same {ms} {m = m} h f = record { at = λ d e. message_there ms m h ∙ ap Some (sym (f d)) }

pub fills_name : {ms : List Message} {vs : List MsgId} {depth x : ℕ} {m : MsgId} → m.place < length ms → message_at ms m ≡ name x → FillsMessage ms ms vs depth m m
fills_name {ms} {vs} h e = fills_same h (λ d. ap (fill (values_of ms vs) d) e ∙ sym e)

pub fills_unit : {ms : List Message} {vs : List MsgId} {depth : ℕ} {m : MsgId} → m.place < length ms → message_at ms m ≡ unit → FillsMessage ms ms vs depth m m
fills_unit {ms} {vs} h e = fills_same h (λ d. ap (fill (values_of ms vs) d) e ∙ sym e)

-- the parts of a message with values for its indices
pub two_values : {ls ms ns : List Message} {vs : List MsgId} {depth : ℕ} {a b x y : MsgId} → KeepsAll ls ms → AreIdsBelow vs (length ls) → b.place < length ls → FillsMessage ls ms vs depth a x → KeepsAll ms ns → FillsMessage ms ns vs depth b y → (d : ℕ) → IsDepth d depth → (slice_get ns x.place ≡ Some (fill (values_of ls vs) d (message_at ls a))) × (slice_get ns y.place ≡ Some (fill (values_of ls vs) d (message_at ls b)))
two_values {vs = vs} {b = b} k v w f l g d e =
    (l.at _ _ (f.at d e), g.at d e ∙ (λ i. Some (fill (values_keep vs k v i) d (message_keeps b k w i))))

pub fills_two : {E : Type 0} {ls ms ns : List Message} (os : List Message) {vs : List MsgId} {depth : ℕ} {m a b x y : MsgId} {c : Message → Message → Message} {part : MsgId → MsgId → MsgPart} → SaysTwo c part → ((us : List Message) (d : ℕ) (n k : Message) → fill us d (c n k) ≡ c (fill us d n) (fill us d k)) → TwoOf ls m a b c → KeepsAll ls ms → AreIdsBelow vs (length ls) → FillsMessage ls ms vs depth a x → KeepsAll ms ns → FillsMessage ms ns vs depth b y → (r : Result MsgId E) → IfOk r (λ id. (n : Message) → Says ns (part x y) n → slice_get os id.place ≡ Some n) → IfOk r (FillsMessage ls os vs depth m)
fills_two {ls = ls} {ns = ns} os {vs = vs} {a = a} {b = b} {x = x} {y = y} j e t k v f l g (Ok id) at = record {
  at = λ d h.
      let us = values_of ls vs in
      let w = two_values k v t.second f l g d h in
      at _ (j.says ns x y _ _ w.0 w.1) ∙ ap Some (sym (e us d (message_at ls a) (message_at ls b)) ∙ ap (fill us d) t.is);
}
fills_two os j e t k v f l g (Err q) at = tt

pub fills_one : {E : Type 0} {ls ms : List Message} (ns : List Message) {vs : List MsgId} {depth : ℕ} {m a x : MsgId} {c : Message → Message} {part : MsgId → MsgPart} → SaysOne c part → ((us : List Message) (d : ℕ) (n : Message) → fill us d (c n) ≡ c (fill us d n)) → OneOf ls m a c → FillsMessage ls ms vs depth a x → (r : Result MsgId E) → IfOk r (λ id. (n : Message) → Says ms (part x) n → slice_get ns id.place ≡ Some n) → IfOk r (FillsMessage ls ns vs depth m)
fills_one {ls = ls} {ms = ms} ns {vs = vs} {a = a} {x = x} j e t f (Ok id) at = record {
  at = λ d h.
      let us = values_of ls vs in
      at _ (j.says ms x _ (f.at d h)) ∙ ap Some (sym (e us d (message_at ls a)) ∙ ap (fill us d) t.is);
}
fills_one ns j e t f (Err q) at = tt

-- an index with a value, and without one
pub values_at : (ms : List Message) (ids : List MsgId) (i : ℕ) → slice_get (values_of ms ids) i ≡ option_map (message_at ms) (slice_get ids i)
values_at ms [] i = refl
values_at ms (id ∷ ids) zero = refl
values_at ms (id ∷ ids) (suc i) = values_at ms ids i

values_length : (ms : List Message) (ids : List MsgId) → length (values_of ms ids) ≡ length ids
values_length ms [] = refl
values_length ms (id ∷ ids) = ap suc (values_length ms ids)

last_mapped : (ms : List Message) (ids : List MsgId) (k : ℕ) → last_but k (values_of ms ids) ≡ option_map (message_at ms) (last_but k ids)
last_mapped ms ids k =
    (λ i. if nat_lt k (values_length ms ids i) then slice_get (values_of ms ids) (values_length ms ids i - suc k) else None) ∙ by (nat_lt k (length ids))
  where
    by : (b : Bool) → (if b then slice_get (values_of ms ids) (length ids - suc k) else None) ≡ option_map (message_at ms) (if b then slice_get ids (length ids - suc k) else None)
    by true = values_at ms ids (length ids - suc k)
    by false = refl

pub value_mapped : (ms : List Message) (ids : List MsgId) (d i : ℕ) → value_of (values_of ms ids) d i ≡ option_map (message_at ms) (value_of ids d i)
value_mapped ms ids d i = by (nat_lt i d)
  where
    by : (b : Bool) → (if b then None else last_but (i - d) (values_of ms ids)) ≡ option_map (message_at ms) (if b then None else last_but (i - d) ids)
    by true = refl
    by false = last_mapped ms ids (i - d)

last_in : (ids : List MsgId) (k : ℕ) (v : MsgId) → last_but k ids ≡ Some v → (i : ℕ) × (slice_get ids i ≡ Some v)
last_in ids k v = by (nat_lt k (length ids))
  where
    by : (b : Bool) → (if b then slice_get ids (length ids - suc k) else None) ≡ Some v → (i : ℕ) × (slice_get ids i ≡ Some v)
    by true e = (length ids - suc k, e)
    by false e = absurd cc

pub value_in : (ids : List MsgId) (d i : ℕ) (v : MsgId) → value_of ids d i ≡ Some v → (k : ℕ) × (slice_get ids k ≡ Some v)
value_in ids d i v = by (nat_lt i d)
  where
    by : (b : Bool) → (if b then None else last_but (i - d) ids) ≡ Some v → (k : ℕ) × (slice_get ids k ≡ Some v)
    by true e = absurd cc
    by false e = last_in ids (i - d) v e

pub fills_value : {ms : List Message} {vs : List MsgId} {depth i : ℕ} {m v : MsgId} → message_at ms m ≡ bound i → AreIdsBelow vs (length ms) → ((d : ℕ) → IsDepth d depth → Some v ≡ value_of vs d i) → FillsMessage ms ms vs depth m v
fills_value {ms} {vs} {depth} {i} {m} {v} b h f = record {
  at = λ d e.
      let w = value_in vs d i v (sym (f d e)) in
      message_there ms v (h.at w.0 v w.1) ∙ ap (λ o. Some (or_bound i (option_map (message_at ms) o))) (f d e) ∙ ap (λ o. Some (or_bound i o)) (sym (value_mapped ms vs d i)) ∙ ap (λ n. Some (fill (values_of ms vs) d n)) (sym b);
}

pub fills_bound : {ms : List Message} {vs : List MsgId} {depth i : ℕ} {m : MsgId} → m.place < length ms → message_at ms m ≡ bound i → ((d : ℕ) → IsDepth d depth → None ≡ value_of vs d i) → FillsMessage ms ms vs depth m m
fills_bound {ms} {vs} {depth} {i} {m} h b f = record {
  at = λ d e.
      message_there ms m h ∙ ap Some b ∙ ap (λ o. Some (or_bound i (option_map (message_at ms) o))) (f d e) ∙ ap (λ o. Some (or_bound i o)) (sym (value_mapped ms vs d i)) ∙ ap (λ n. Some (fill (values_of ms vs) d n)) (sym b);
}
