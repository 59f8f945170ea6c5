-- What `Messages` has to know of its nodes.
use Rattle.std.proofs.Common.{◌≡◌, Bool, true, false, ◌&&◌, List, [], refl, sym, ap, subst, ◌∙◌, true≢false}
use Rattle.std.proofs.lemmas.Bool.{eqb-true, eq-eqb}
use Rattle.spi_term.specs.Term.{Message, pair, in_left, in_right, enc, hash, same_message, message_discrete}
use Rattle.spi_intern.specs.Table.{KeepsAll, AllDiffer, IsTable, tells_none}
use Rattle.spi_intern.specs.Messages.{Says, says_bound, says_name, says_unit, says_pair, says_left, says_right, says_enc, says_hash, said}
use Rattle.spi_intern.specs.declared.messages.MsgId.{MsgId}
use Rattle.spi_intern.specs.declared.messages.MsgPart.{MsgPart}
use Rattle.spi_intern.specs.declared.messages.MsgPart.TheVariants.{Bound, Name, Unit as NoParts, Pair, Inl, Inr, Enc, Hash}
use Rattle.spi_intern.specs.contracts.messages.MsgPartPartialEq.TheImpl.{eq-value}
use Rattle.spi_intern.specs.contracts.messages.MsgIdPartialEq.TheImpl.{eq-value as eq_of_ids}
use Rattle.spi_intern.proofs.Tables.{Laws}
use Rattle.spi_term.specs.Substitution.{or_unit}
use Rattle.spi_term.proofs.Counting.{and_true}

abbrev pub id_eq : MsgId → MsgId → Bool
id_eq = eq_of_ids.it

abbrev pub part_eq : MsgPart → MsgPart → Bool
part_eq = eq-value.it

id_true : (a b : MsgId) → id_eq a b ≡ true → a ≡ b
id_true a b h = let e : a.place ≡ b.place = eqb-true a.place b.place h in λ i. record { place = e i }

pub part_true : (p q : MsgPart) → part_eq p q ≡ true → p ≡ q
part_true (Bound i) (Bound j) h = ap Bound (eqb-true i j h)
part_true (Name i) (Name j) h = ap Name (eqb-true i j h)
part_true NoParts NoParts h = refl
part_true (Pair a b) (Pair c d) h = let e = and_true (id_eq a c) (id_eq b d) h in λ i. Pair (id_true a c e.0 i) (id_true b d e.1 i)
part_true (Inl a) (Inl b) h = ap Inl (id_true a b h)
part_true (Inr a) (Inr b) h = ap Inr (id_true a b h)
part_true (Enc a b) (Enc c d) h = let e = and_true (id_eq a c) (id_eq b d) h in λ i. Enc (id_true a c e.0 i) (id_true b d e.1 i)
part_true (Hash a) (Hash b) h = ap Hash (id_true a b h)
part_true p q h = absurd (true≢false (sym h))

pub both_are : (a b : Bool) → a ≡ true → b ≡ true → (a && b) ≡ true
both_are a b e f = ap (λ x. x && b) e ∙ f

id_self : (a : MsgId) → id_eq a a ≡ true
id_self a = eq-eqb a.place a.place refl

pub part_self : (p : MsgPart) → part_eq p p ≡ true
part_self (Bound i) = eq-eqb i i refl
part_self (Name i) = eq-eqb i i refl
part_self NoParts = refl
part_self (Pair a b) = both_are (id_eq a a) (id_eq b b) (id_self a) (id_self b)
part_self (Inl a) = id_self a
part_self (Inr a) = id_self a
part_self (Enc a b) = both_are (id_eq a a) (id_eq b b) (id_self a) (id_self b)
part_self (Hash a) = id_self a

pub same_true : (m n : Message) → same_message m n ≡ true → m ≡ n
same_true m n = elim (message_discrete m n) as (λ d. (elim d as (λ _. Bool) [ yes e ↦ true | no f ↦ false ]) ≡ true → m ≡ n) [ yes e ↦ (λ _. e) | no f ↦ (λ h. absurd (true≢false (sym h))) ]

pub same_self : (m : Message) → same_message m m ≡ true
same_self m = elim (message_discrete m m) as (λ d. (elim d as (λ _. Bool) [ yes e ↦ true | no f ↦ false ]) ≡ true) [ yes e ↦ refl | no f ↦ absurd (f refl) ]

says_keeps : {ms ns : List Message} {p : MsgPart} {m : Message} → KeepsAll ms ns → Says ms p m → Says ns p m
says_keeps k says_bound = says_bound
says_keeps k says_name = says_name
says_keeps k says_unit = says_unit
says_keeps k (says_pair a b) = says_pair (k.at _ _ a) (k.at _ _ b)
says_keeps k (says_left a) = says_left (k.at _ _ a)
says_keeps k (says_right a) = says_right (k.at _ _ a)
says_keeps k (says_enc a b) = says_enc (k.at _ _ a) (k.at _ _ b)
says_keeps k (says_hash a) = says_hash (k.at _ _ a)

-- what a part says is what `said` computes
pub says_said : {ms : List Message} {p : MsgPart} {m : Message} → Says ms p m → said ms p ≡ m
says_said says_bound = refl
says_said says_name = refl
says_said says_unit = refl
says_said (says_pair a b) = λ i. pair (or_unit (a i)) (or_unit (b i))
says_said (says_left a) = λ i. in_left (or_unit (a i))
says_said (says_right a) = λ i. in_right (or_unit (a i))
says_said (says_enc a b) = λ i. enc (or_unit (a i)) (or_unit (b i))
says_said (says_hash a) = λ i. hash (or_unit (a i))

same_id : {a b : MsgId} → a.place ≡ b.place → a ≡ b
same_id e = λ i. record { place = e i }

-- two parts that say one message are one
pub says_apart : {ms : List Message} {p q : MsgPart} {m : Message} → AllDiffer ms → Says ms p m → Says ms q m → p ≡ q
says_apart d says_bound says_bound = refl
says_apart d says_name says_name = refl
says_apart d says_unit says_unit = refl
says_apart d (says_pair a b) (says_pair a' b') = λ i. Pair (same_id (d.one _ _ _ a a') i) (same_id (d.one _ _ _ b b') i)
says_apart d (says_left a) (says_left a') = λ i. Inl (same_id (d.one _ _ _ a a') i)
says_apart d (says_right a) (says_right a') = λ i. Inr (same_id (d.one _ _ _ a a') i)
says_apart d (says_enc a b) (says_enc a' b') = λ i. Enc (same_id (d.one _ _ _ a a') i) (same_id (d.one _ _ _ b b') i)
says_apart d (says_hash a) (says_hash a') = λ i. Hash (same_id (d.one _ _ _ a a') i)

pub says_it : {ms : List Message} {p : MsgPart} {m : Message} → Says ms p m → Says ms p (said ms p)
says_it {ms} {p} s = subst (Says ms p) (sym (says_said s)) s

pub part_laws : Laws Says said same_message part_eq
part_laws = record {
  same_true = same_true;
  same_self = same_self;
  kept = λ ms ns p m k s. says_keeps k s;
  says_said = λ ms p m s. says_said s;
  respects = λ ms p q m e s. subst (λ r. Says ms r m) (part_true p q e) s;
  alike = λ ms p q m d s t. ap (part_eq p) (sym (says_apart d s t)) ∙ part_self p;
}

pub no_messages : IsTable Says [] []
no_messages = record { tells = tells_none; distinct = record { one = λ i j m a b. absurd cc } }
