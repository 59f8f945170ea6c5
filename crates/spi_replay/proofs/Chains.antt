-- Messages of names along links, and instances of messages in a store.
use Rattle.std.proofs.Common.{◌≡◌, ℕ, zero, suc, ◌+◌, ◌-◌, ◌<◌, ◌≤◌, List, [], ◌∷◌, length, Some, slice_get, get_or, refl, sym, ap, ◌∙◌, subst, arith, Result, IfOk}
use Rattle.std.proofs.lemmas.Result.{IfOk-weaker}
use Rattle.std.proofs.lemmas.Option.{slice_get_within}
use Rattle.spi_term.specs.Term.{Message, name}
use Rattle.spi_term.specs.Substitution.{replace}
use Rattle.spi_term.specs.Spelling.{Spelling}
use Rattle.spi_intern.specs.Table.{KeepsAll}
use Rattle.spi_intern.specs.Messages.{Says, says_name}
use Rattle.spi_intern.specs.Given.{IsOverGiven}
use Rattle.spi_intern.specs.declared.messages.MsgId.{MsgId}
use Rattle.spi_intern.specs.declared.messages.MsgPart.{MsgPart}
use Rattle.spi_intern.specs.declared.messages.MsgPart.TheVariants.{Name}
use Rattle.spi_replay.specs.declared.names.Link.{Link}
use Rattle.spi_replay.specs.declared.names.Scope.{Scope}
use Rattle.spi_replay.specs.Holding.{value, message_with, linked, chain, Chain, no_link, a_link}
use Rattle.spi_replay.specs.Moves.{Numbers}
use Rattle.spi_replay.specs.Standing.{HasLink, IsValueAt, InScopeOf, HasNames, IsInstance, Enters, Binds}
use Rattle.spi_intern.proofs.Tables.{keeps_same}
use Rattle.spi_replay.proofs.Opening.{value_here, value_other}

pub chain_is : {ms : List Message} {ls : List Link} {i : ℕ} {vs : List Message} → Chain ms ls i vs → chain ms ls (length vs) i ≡ vs
chain_is no_link = refl
chain_is {ms} {ls} (a_link {l = l} {m = m} {vs = vs} g a c) =
    ap (linked ms (chain ms ls (length vs))) g ∙ ap (λ o. message_with o (chain ms ls (length vs) l.before)) a ∙ ap (λ ws. m ∷ ws) (chain_is c)

pub chain_kept : {ms ns : List Message} {ls ks : List Link} {i : ℕ} {vs : List Message} → KeepsAll ms ns → KeepsAll ls ks → Chain ms ls i vs → Chain ns ks i vs
chain_kept k h no_link = no_link
chain_kept k h (a_link {i = i} {l = l} {m = m} g a c) = a_link (h.at i l g) (k.at l.value.place m a) (chain_kept k h c)

-- a node that can be entered, and one whose form binds names
abbrev pub enters_kept : {ms ns : List Message} {ls ks : List Link} {sp : Spelling} {node last : ℕ} {vs : List Message} → KeepsAll ms ns → KeepsAll ls ks → Enters ms ls sp node last vs → Enters ns ks sp node last vs
enters_kept k l e = record { over = e.over; linked = chain_kept k l e.linked; closed = e.closed; shape = e.shape; there = e.there; scope = e.scope }

pub binds_kept : {ms ns : List Message} {ls ks : List Link} {sp : Spelling} {node last : ℕ} {vs more : List Message} → KeepsAll ms ns → KeepsAll ls ks → Binds ms ls sp node last vs more → Binds ns ks sp node last vs more
binds_kept k l e = record { over = e.over; linked = chain_kept k l e.linked; closed = e.closed; shape = e.shape; there = e.there; scope = e.scope }

-- the link before one
pub record BoundBefore (ms : List Message) (ls : List Link) (i : ℕ) (vs : List Message) : Type 0 where
  pub link : Link
  pub there : slice_get ls i ≡ Some link
  pub first : Message
  pub rest : List Message
  pub is : vs ≡ first ∷ rest
  pub numbers : Numbers ms link.value first
  pub linked : Chain ms ls link.before rest

pub before : {ms : List Message} {ls : List Link} {i : ℕ} {vs : List Message} → Chain ms ls i vs → 0 < length vs → BoundBefore ms ls i vs
before no_link h = absurd (omega arith)
before (a_link {l = l} {m = m} {vs = vs} g a c) h = record { link = l; there = g; first = m; rest = vs; is = refl; numbers = a; linked = c }

pub get_link : (ls : List Link) (i : ℕ) (l d : Link) → slice_get ls i ≡ Some l → get_or ls i d ≡ l
get_link [] i l d e = absurd cc
get_link (x ∷ ls) zero l d e = let g : x ≡ l = cc in g
get_link (x ∷ ls) (suc i) l d e = get_link ls i l d e

pub has_within : {ls : List Link} {last steps : ℕ} → HasLink ls last steps → last < length ls
has_within {ls} {last} h = let b = before h.linked (omega (arith, h.within)) in slice_get_within ls last b.link b.there

pub has_before : {ls : List Link} {last steps : ℕ} (d : Link) → HasLink ls last steps → 0 < steps → HasLink ls (get_or ls last d).before (steps - 1)
has_before {ls} {last} {steps} d h p =
    let b = before h.linked (omega (arith, h.within)) in
    let f : b.link ≡ get_or ls last d = sym (get_link ls last b.link d b.there) in
    record {
      messages = h.messages;
      values = b.rest;
      linked = subst (λ (l : Link). Chain h.messages ls l.before b.rest) f b.linked;
      within = omega (arith, h.within, ap length b.is);
    }

get_rest : (m : Message) (vs : List Message) (steps : ℕ) → 0 < steps → slice_get (m ∷ vs) steps ≡ slice_get vs (steps - 1)
get_rest m vs zero h = absurd (omega arith)
get_rest m vs (suc n) h = let e : n ≡ suc n - 1 = omega arith in ap (slice_get vs) e

-- what is found from the link before is found from the link
pub value_before : {ls : List Link} {last steps : ℕ} {id : MsgId} (d : Link) → 0 < steps → IsValueAt ls (get_or ls last d).before (steps - 1) id → IsValueAt ls last steps id
value_before {ls} {last} {steps} {id} d p v = record { at = found }
  where
    found : (ms vs : List Message) (m : Message) → Chain ms ls last vs → slice_get vs steps ≡ Some m → Numbers ms id m
    found ms _ m no_link g = absurd cc
    found ms _ m (a_link {l = l} {m = w} {vs = vs} a b c) g =
        let f : l ≡ get_or ls last d = sym (get_link ls last l d a) in
        v.at ms vs m (subst (λ (l : Link). Chain ms ls l.before vs) f c) (sym (get_rest w vs steps p) ∙ g)

pub value_first : {ls : List Link} {last : ℕ} (d : Link) → IsValueAt ls last 0 (get_or ls last d).value
value_first {ls} {last} d = record { at = found }
  where
    found : (ms vs : List Message) (m : Message) → Chain ms ls last vs → slice_get vs 0 ≡ Some m → Numbers ms (get_or ls last d).value m
    found ms _ m no_link g = absurd cc
    found ms _ m (a_link {l = l} {m = w} a b c) g =
        let f : l ≡ get_or ls last d = sym (get_link ls last l d a) in
        let h : w ≡ m = cc in
        subst (λ (l : Link). Numbers ms l.value m) f (b ∙ ap Some h)

-- the message of a name by its number
pub value_get : (k : ℕ) (vs : List Message) (x i : ℕ) → k ≤ x → x + suc i ≡ k + length vs → slice_get vs i ≡ Some (value k vs x)
value_get k [] x i h e = absurd (omega arith)
value_get k (m ∷ vs) x zero h e =
    let f : x ≡ k + length vs = omega arith in
    ap Some (sym (ap (value k (m ∷ vs)) f ∙ value_here k m vs))
value_get k (m ∷ vs) x (suc i) h e =
    let n : x ≡ k + length vs → ⊥ = λ f. omega arith in
    value_get k vs x i h (omega arith) ∙ ap Some (sym (value_other k m vs x n))

pub value_low : (k : ℕ) (vs : List Message) (x : ℕ) → x < k → value k vs x ≡ name x
value_low k [] x h = refl
value_low k (m ∷ vs) x h = let n : x ≡ k + length vs → ⊥ = λ f. omega arith in value_other k m vs x n ∙ value_low k vs x h

-- instances
pub stand_kept : {ms ns : List Message} {ls : List Link} {sc : Scope} {vs : List Message} → KeepsAll ms ns → InScopeOf ms ls sc vs → InScopeOf ns ls sc vs
stand_kept k h = record { linked = chain_kept k (keeps_same refl) h.linked; bound = h.bound }

pub names_kept : {ms ns : List Message} {ls : List Link} {sc : Scope} → KeepsAll ms ns → HasNames ms ls sc → HasNames ns ls sc
names_kept k h = record { values = h.values; stand = stand_kept k h.stand }

-- an instance over those of its parts
pub given_two : {old mid late : List Message} {ls : List Link} {sc : Scope} {i j : MsgId} (p : MsgPart) (f : Message → Message → Message) → ((m n : Message) → Numbers late i m → Numbers late j n → Says late p (f m n)) → (a b : Message) → HasNames old ls sc → IsInstance old mid ls sc a i → KeepsAll old mid → KeepsAll mid late → IsInstance mid late ls sc b j → IsOverGiven late p
given_two {sc = sc} {i = i} p f s a b h x k l y = record {
  message = f (replace (value sc.free h.values) a) (replace (value sc.free h.values) b);
  says = s _ _ (l.at i.place _ (x.at h.values h.stand)) (y.at h.values (stand_kept k h.stand));
}

pub instance_two : {E : Type 0} {old mid late : List Message} (new : List Message) {ls : List Link} {sc : Scope} {i j : MsgId} (p : MsgPart) (f : Message → Message → Message) → ((m n : Message) → Numbers late i m → Numbers late j n → Says late p (f m n)) → ((g : ℕ → Message) (a b : Message) → replace g (f a b) ≡ f (replace g a) (replace g b)) → (w a b : Message) → w ≡ f a b → IsInstance old mid ls sc a i → KeepsAll old mid → KeepsAll mid late → IsInstance mid late ls sc b j → (r : Result MsgId E) → IfOk r (λ id. (n : Message) → Says late p n → Numbers new id n) → IfOk r (λ id. IsInstance old new ls sc w id)
instance_two {old = old} {late = late} new {ls = ls} {sc = sc} {i = i} p f s c w a b e x k l y r o =
    IfOk-weaker r (λ id. (n : Message) → Says late p n → Numbers new id n) (λ id. IsInstance old new ls sc w id) (λ id g. record { at = λ vs h. subst (Numbers new id) (sym (ap (replace (value sc.free vs)) e ∙ c (value sc.free vs) a b)) (g _ (s _ _ (l.at i.place _ (x.at vs h)) (y.at vs (stand_kept k h)))) }) o

pub given_one : {old mid : List Message} {ls : List Link} {sc : Scope} {i : MsgId} (p : MsgPart) (f : Message → Message) → ((m : Message) → Numbers mid i m → Says mid p (f m)) → (a : Message) → HasNames old ls sc → IsInstance old mid ls sc a i → IsOverGiven mid p
given_one {sc = sc} p f s a h x = record { message = f (replace (value sc.free h.values) a); says = s _ (x.at h.values h.stand) }

pub instance_one : {E : Type 0} {old mid : List Message} (new : List Message) {ls : List Link} {sc : Scope} {i : MsgId} (p : MsgPart) (f : Message → Message) → ((m : Message) → Numbers mid i m → Says mid p (f m)) → ((g : ℕ → Message) (a : Message) → replace g (f a) ≡ f (replace g a)) → (w a : Message) → w ≡ f a → IsInstance old mid ls sc a i → (r : Result MsgId E) → IfOk r (λ id. (n : Message) → Says mid p n → Numbers new id n) → IfOk r (λ id. IsInstance old new ls sc w id)
instance_one {old = old} {mid = mid} new {ls = ls} {sc = sc} p f s c w a e x r o =
    IfOk-weaker r (λ id. (n : Message) → Says mid p n → Numbers new id n) (λ id. IsInstance old new ls sc w id) (λ id g. record { at = λ vs h. subst (Numbers new id) (sym (ap (replace (value sc.free vs)) e ∙ c (value sc.free vs) a)) (g _ (s _ (x.at vs h))) }) o

pub instance_none : {E : Type 0} (old new : List Message) (ls : List Link) (sc : Scope) (p : MsgPart) (m w : Message) → w ≡ m → Says old p m → ((g : ℕ → Message) → replace g m ≡ m) → (r : Result MsgId E) → IfOk r (λ id. (n : Message) → Says old p n → Numbers new id n) → IfOk r (λ id. IsInstance old new ls sc w id)
instance_none old new ls sc p m w e s c r o =
    IfOk-weaker r (λ id. (n : Message) → Says old p n → Numbers new id n) (λ id. IsInstance old new ls sc w id) (λ id g. record { at = λ vs h. subst (Numbers new id) (sym (ap (replace (value sc.free vs)) e ∙ c (value sc.free vs))) (g m s) }) o

pub named_high : {ms : List Message} {ls : List Link} {sc : Scope} {x steps : ℕ} {id : MsgId} → sc.free ≤ x → x < sc.free + sc.bound → steps ≡ sc.bound - 1 - (x - sc.free) → IsValueAt ls sc.last steps id → IsInstance ms ms ls sc (name x) id
named_high {ms} {ls} {sc} {x} {steps} l h e v =
    record { at = λ vs s. v.at ms vs (value sc.free vs x) s.linked (value_get sc.free vs x steps l (omega (arith, s.bound))) }

pub named_low : {E : Type 0} (ms ns : List Message) (ls : List Link) (sc : Scope) (x : ℕ) → x < sc.free → (r : Result MsgId E) → IfOk r (λ id. (n : Message) → Says ms (Name x) n → Numbers ns id n) → IfOk r (λ id. IsInstance ms ns ls sc (name x) id)
named_low ms ns ls sc x l r o =
    IfOk-weaker r (λ id. (n : Message) → Says ms (Name x) n → Numbers ns id n) (λ id. IsInstance ms ns ls sc (name x) id) (λ id g. record { at = λ vs s. g (name x) says_name ∙ ap Some (sym (value_low sc.free vs x l)) }) o

pub has_name : {ms : List Message} {ls : List Link} {sc : Scope} {steps : ℕ} → HasNames ms ls sc → steps < sc.bound → HasLink ls sc.last steps
has_name {ms = ms} h l = record { messages = ms; values = h.values; linked = h.stand.linked; within = omega (arith, h.stand.bound) }
