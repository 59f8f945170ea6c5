-- Whether the message with a number is another one, by its parts.
use Rattle.std.proofs.Common.{◌≡◌, ℕ, ◌<◌, Bool, true, false, ◌&&◌, List, length, refl, sym, ap, ◌∙◌, subst, true≢false}
use Rattle.spi_term.specs.Term.{Message, bound, name, unit, pair, in_left, in_right, enc, hash, same_message}
use Rattle.spi_term.specs.View.{message}
use Rattle.spi_term.specs.declared.term.Msg.{Msg}
use Rattle.spi_term.proofs.Counting.{and_true}
use Rattle.spi_intern.specs.Messages.{Says, says_bound, says_name, says_unit, says_pair, says_left, says_right, says_enc, says_hash, message_at}
use Rattle.spi_intern.specs.declared.messages.MsgId.{MsgId}
use Rattle.spi_intern.specs.declared.messages.MsgPart.{MsgPart}
use Rattle.spi_intern.specs.declared.messages.MsgPart.TheVariants.{Bound, Name, Unit as NoParts, Pair, Inl, Inr, Enc, Hash}
use Rattle.spi_intern.proofs.Lists.{truths}
use Rattle.spi_intern.proofs.MessageLaws.{both_are, part_eq, part_true, part_self, same_true, same_self}
use Rattle.spi_intern.proofs.Sized.{TwoOf, OneOf, Tells, message_there, bound_of, name_of, unit_of}

pub same_of : {a b : Message} → a ≡ b → same_message a b ≡ true
same_of {a} {b} e = ap (same_message a) (sym e) ∙ same_self a

-- two messages of one form are equal where their parts are
two_same : (f : Message → Message → Message) → ((x y a b : Message) → f x y ≡ f a b → (x ≡ a) × (y ≡ b)) → (x y a b w n : Message) → f x y ≡ w → n ≡ f a b → (same_message x a && same_message y b) ≡ same_message w n
two_same f one x y a b w n e g =
    truths (same_message x a && same_message y b) (same_message w n) (λ h. let k = and_true (same_message x a) (same_message y b) h in same_of (sym e ∙ (λ i. f (same_true x a k.0 i) (same_true y b k.1 i)) ∙ sym g)) (λ h. let k = one x y a b (e ∙ same_true w n h ∙ g) in both_are (same_message x a) (same_message y b) (same_of k.0) (same_of k.1))

one_same : (f : Message → Message) → ((x a : Message) → f x ≡ f a → x ≡ a) → (x a w n : Message) → f x ≡ w → n ≡ f a → same_message x a ≡ same_message w n
one_same f one x a w n e g =
    truths (same_message x a) (same_message w n) (λ h. same_of (sym e ∙ ap f (same_true x a h) ∙ sym g)) (λ h. same_of (one x a (e ∙ same_true w n h ∙ g)))

-- the same by what calls said of the parts
module _ {ms : List Message} {id i j : MsgId} (f : Message → Message → Message) (one : (x y a b : Message) → f x y ≡ f a b → (x ≡ a) × (y ≡ b)) (w : TwoOf ms id i j f) (a b : Msg) {n : Message} (is : n ≡ f (message a) (message b)) {d : Msg} (here : d ≡ a) {r : Bool} (first : r ≡ same_message (message_at ms i) (message d)) where
  first_is : {z : Bool} → r ≡ z → (z && same_message (message_at ms j) (message b)) ≡ same_message (message_at ms id) n
  first_is t =
      ap (λ y. y && same_message (message_at ms j) (message b)) (sym t ∙ first ∙ ap (λ m. same_message (message_at ms i) (message m)) here) ∙ two_same f one (message_at ms i) (message_at ms j) (message a) (message b) (message_at ms id) n w.is is

  pub second_same : r ≡ true → {e : Msg} {q : Bool} → e ≡ b → q ≡ same_message (message_at ms j) (message e) → q ≡ same_message (message_at ms id) n
  second_same t g h = h ∙ ap (λ m. same_message (message_at ms j) (message m)) g ∙ first_is t

  pub first_not_same : r ≡ false → r ≡ same_message (message_at ms id) n
  first_not_same t = t ∙ first_is t

pub part_same : {ms : List Message} {id i : MsgId} (f : Message → Message) (one : (x a : Message) → f x ≡ f a → x ≡ a) → OneOf ms id i f → {a : Msg} {n : Message} → n ≡ f (message a) → {d : Msg} {r : Bool} → d ≡ a → r ≡ same_message (message_at ms i) (message d) → r ≡ same_message (message_at ms id) n
part_same {ms} {id} {i} f one w {a} {n} is here h = h ∙ ap (λ m. same_message (message_at ms i) (message m)) here ∙ one_same f one (message_at ms i) (message a) (message_at ms id) n w.is is

pub pair_one : (x y a b : Message) → pair x y ≡ pair a b → (x ≡ a) × (y ≡ b)
pair_one x y a b e = (cc, cc)

pub enc_one : (x y a b : Message) → enc x y ≡ enc a b → (x ≡ a) × (y ≡ b)
enc_one x y a b e = (cc, cc)

pub left_one : (x a : Message) → in_left x ≡ in_left a → x ≡ a
left_one x a e = cc

pub right_one : (x a : Message) → in_right x ≡ in_right a → x ≡ a
right_one x a e = cc

pub hash_one : (x a : Message) → hash x ≡ hash a → x ≡ a
hash_one x a e = cc

-- the message of a part that is no such form is none
pair_part : {ms : List Message} {p : MsgPart} {n : Message} → Says ms p n → (a b : Message) → n ≡ pair a b → ((x y : MsgId) → p ≡ Pair x y → ⊥) → ⊥
pair_part (says_pair {a = x} {b = y} e f) a b g h = h x y refl
pair_part s a b g h = absurd cc

enc_part : {ms : List Message} {p : MsgPart} {n : Message} → Says ms p n → (a b : Message) → n ≡ enc a b → ((x y : MsgId) → p ≡ Enc x y → ⊥) → ⊥
enc_part (says_enc {a = x} {b = y} e f) a b g h = h x y refl
enc_part s a b g h = absurd cc

left_part : {ms : List Message} {p : MsgPart} {n : Message} → Says ms p n → (a : Message) → n ≡ in_left a → ((x : MsgId) → p ≡ Inl x → ⊥) → ⊥
left_part (says_left {a = x} e) a g h = h x refl
left_part s a g h = absurd cc

right_part : {ms : List Message} {p : MsgPart} {n : Message} → Says ms p n → (a : Message) → n ≡ in_right a → ((x : MsgId) → p ≡ Inr x → ⊥) → ⊥
right_part (says_right {a = x} e) a g h = h x refl
right_part s a g h = absurd cc

hash_part : {ms : List Message} {p : MsgPart} {n : Message} → Says ms p n → (a : Message) → n ≡ hash a → ((x : MsgId) → p ≡ Hash x → ⊥) → ⊥
hash_part (says_hash {a = x} e) a g h = h x refl
hash_part s a g h = absurd cc

bound_part : {ms : List Message} {p : MsgPart} {n : Message} → Says ms p n → (i : ℕ) → n ≡ bound i → p ≡ Bound i
bound_part (says_bound {i = j}) i g = cc
bound_part s i g = absurd cc

name_part : {ms : List Message} {p : MsgPart} {n : Message} → Says ms p n → (i : ℕ) → n ≡ name i → p ≡ Name i
name_part (says_name {x = j}) i g = cc
name_part s i g = absurd cc

unit_part : {ms : List Message} {p : MsgPart} {n : Message} → Says ms p n → n ≡ unit → p ≡ NoParts
unit_part says_unit g = refl
unit_part s g = absurd cc

same_false : (w n : Message) → (w ≡ n → ⊥) → false ≡ same_message w n
same_false w n h = truths false (same_message w n) (λ e. absurd (true≢false (sym e))) (λ e. absurd (h (same_true w n e)))

module _ (ms : List Message) (id : MsgId) (p : MsgPart) (tells : Tells ms id p) (below : id.place < length ms) (n : Message) where
  says : Says ms p (message_at ms id)
  says = tells (message_at ms id) (message_there ms id below)

  pub no_pair : (a b : Message) → n ≡ pair a b → ((x y : MsgId) → p ≡ Pair x y → ⊥) → false ≡ same_message (message_at ms id) n
  no_pair a b e h = same_false (message_at ms id) n (λ g. pair_part says a b (g ∙ e) h)

  pub no_enc : (a b : Message) → n ≡ enc a b → ((x y : MsgId) → p ≡ Enc x y → ⊥) → false ≡ same_message (message_at ms id) n
  no_enc a b e h = same_false (message_at ms id) n (λ g. enc_part says a b (g ∙ e) h)

  pub no_left : (a : Message) → n ≡ in_left a → ((x : MsgId) → p ≡ Inl x → ⊥) → false ≡ same_message (message_at ms id) n
  no_left a e h = same_false (message_at ms id) n (λ g. left_part says a (g ∙ e) h)

  pub no_right : (a : Message) → n ≡ in_right a → ((x : MsgId) → p ≡ Inr x → ⊥) → false ≡ same_message (message_at ms id) n
  no_right a e h = same_false (message_at ms id) n (λ g. right_part says a (g ∙ e) h)

  pub no_hash : (a : Message) → n ≡ hash a → ((x : MsgId) → p ≡ Hash x → ⊥) → false ≡ same_message (message_at ms id) n
  no_hash a e h = same_false (message_at ms id) n (λ g. hash_part says a (g ∙ e) h)

  -- forms with no parts
  tells_as : {q : MsgPart} → p ≡ q → Tells ms id q
  tells_as e = subst (Tells ms id) e tells

  pub bound_same : (i : ℕ) → n ≡ bound i → part_eq p (Bound i) ≡ same_message (message_at ms id) n
  bound_same i e =
      truths (part_eq p (Bound i)) (same_message (message_at ms id) n) (λ h. same_of (sym (bound_of ms id (tells_as (part_true p (Bound i) h)) below) ∙ sym e)) (λ h. ap (part_eq p) (sym (bound_part says i (same_true (message_at ms id) n h ∙ e))) ∙ part_self p)

  pub name_same : (i : ℕ) → n ≡ name i → part_eq p (Name i) ≡ same_message (message_at ms id) n
  name_same i e =
      truths (part_eq p (Name i)) (same_message (message_at ms id) n) (λ h. same_of (sym (name_of ms id (tells_as (part_true p (Name i) h)) below) ∙ sym e)) (λ h. ap (part_eq p) (sym (name_part says i (same_true (message_at ms id) n h ∙ e))) ∙ part_self p)

  pub unit_same : n ≡ unit → part_eq p NoParts ≡ same_message (message_at ms id) n
  unit_same e =
      truths (part_eq p NoParts) (same_message (message_at ms id) n) (λ h. same_of (sym (unit_of ms id (tells_as (part_true p NoParts h)) below) ∙ sym e)) (λ h. ap (part_eq p) (sym (unit_part says (same_true (message_at ms id) n h ∙ e))) ∙ part_self p)
