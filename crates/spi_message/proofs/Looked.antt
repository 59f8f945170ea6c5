-- Questions are looked up by their equality, which is that of values.
use Rattle.std.proofs.Common.{◌≡◌, ℕ, zero, suc, Bool, true, false, cond, [], ◌∷◌, Option, Some, None, IfSome, IfNone, refl, sym, ap, ◌∙◌, slice_get, true≢false}
use Rattle.std.proofs.lemmas.Bool.{eqb-true, eq-eqb}
use Rattle.std.proofs.lemmas.Map.Entries.{place_from_lookup}
use Rattle.std.specs.Map.{lookup}
use Rattle.spi_term.proofs.Lists.{some_is}
use Rattle.spi_term.proofs.Counting.{and_true}
use Rattle.spi_intern.specs.declared.messages.MsgId.{MsgId}
use Rattle.spi_intern.specs.declared.types.TyId.{TyId}
use Rattle.spi_intern.specs.contracts.messages.MsgIdPartialEq.TheImpl.{eq-value as eq_of_messages}
use Rattle.spi_intern.specs.contracts.types.TyIdPartialEq.TheImpl.{eq-value as eq_of_types}
use Rattle.spi_intern.proofs.MessageLaws.{both_are}
use Rattle.spi_message.specs.declared.answers.Asked.{Asked}
use Rattle.spi_message.specs.declared.answers.Asked.TheVariants.{Typed, Labelled, Good}
use Rattle.spi_message.specs.declared.answers.Question.{Question}
use Rattle.spi_message.specs.contracts.answers.AskedPartialEq.TheImpl.{eq-value as eq_of_asked}
use Rattle.spi_message.specs.contracts.answers.QuestionPartialEq.TheImpl.{eq-value as eq_of_questions}
use Rattle.spi_message.specs.Answered.{Entries, IsKeptAnswer, IsNew}

abbrev asked_eq : Asked → Asked → Bool
asked_eq = eq_of_asked.it

abbrev pub question_eq : Question → Question → Bool
question_eq = eq_of_questions.it

message_true : (a b : MsgId) → eq_of_messages.it a b ≡ true → a ≡ b
message_true a b h = let e : a.place ≡ b.place = eqb-true a.place b.place h in λ i. record { place = e i }

message_self : (a : MsgId) → eq_of_messages.it a a ≡ true
message_self a = eq-eqb a.place a.place refl

type_true : (a b : TyId) → eq_of_types.it a b ≡ true → a ≡ b
type_true a b h = let e : a.place ≡ b.place = eqb-true a.place b.place h in λ i. record { place = e i }

type_self : (a : TyId) → eq_of_types.it a a ≡ true
type_self a = eq-eqb a.place a.place refl

asked_true : (a b : Asked) → asked_eq a b ≡ true → a ≡ b
asked_true (Typed m t) (Typed n u) h = let e = and_true (eq_of_messages.it m n) (eq_of_types.it t u) h in λ i. Typed (message_true m n e.0 i) (type_true t u e.1 i)
asked_true (Labelled m) (Labelled n) h = ap Labelled (message_true m n h)
asked_true (Good t) (Good u) h = ap Good (type_true t u h)
asked_true a b h = absurd (true≢false (sym h))

asked_self : (a : Asked) → asked_eq a a ≡ true
asked_self (Typed m t) = both_are (eq_of_messages.it m m) (eq_of_types.it t t) (message_self m) (type_self t)
asked_self (Labelled m) = message_self m
asked_self (Good t) = type_self t

pub question_true : (p q : Question) → question_eq p q ≡ true → p ≡ q
question_true p q h =
    let e = and_true _ (asked_eq p.asked q.asked) h in
    let n = eqb-true p.names q.names e.0 in
    let a = asked_true p.asked q.asked e.1 in
    λ i. record { names = n i; asked = a i }

pub question_self : (q : Question) → question_eq q q ≡ true
question_self q = both_are _ (asked_eq q.asked q.asked) (eq-eqb q.names q.names refl) (asked_self q.asked)

-- an entry whose key passes the test is found
passed : (test : Question → Bool) (es : Entries) (i : ℕ) (q : Question) (b : Bool) → slice_get es i ≡ Some (q, b) → test q ≡ true → lookup test es ≡ None → ⊥
passed test [] i q b h t e = cc
passed test (x ∷ es) zero q b h t e = true≢false (sym t ∙ ap test (sym (ap (λ p. p.0) (some_is h))) ∙ first (test x.0) e)
  where
    first : (c : Bool) → cond c (Some x.1) (lookup test es) ≡ None → c ≡ false
    first true e = absurd cc
    first false e = refl
passed test (x ∷ es) (suc i) q b h t e = passed test es i q b h t (rest (test x.0) e)
  where
    rest : (c : Bool) → cond c (Some x.1) (lookup test es) ≡ None → lookup test es ≡ None
    rest true e = absurd cc
    rest false e = e

-- what a look-up finds
pub got_some : (es : Entries) (q : Question) (o : Option Bool) → o ≡ lookup (question_eq q) es → IfSome o (IsKeptAnswer es q)
got_some es q None h = tt
got_some es q (Some b) h =
    let w = place_from_lookup (question_eq q) es b (sym h) in
    record { place = w.0; at = w.2 ∙ ap (λ k. Some (k, b)) (sym (question_true q w.1 w.3)) }

pub got_none : (es : Entries) (q : Question) (o : Option Bool) → o ≡ lookup (question_eq q) es → IfNone o (IsNew es q)
got_none es q None h = record { none = λ b g. passed (question_eq q) es g.place q b g.at (question_self q) (sym h) }
got_none es q (Some b) h = tt

-- and where there is nothing to be found
pub new_absent : (es : Entries) (q : Question) → IsNew es q → lookup (question_eq q) es ≡ None
new_absent es q n = by (lookup (question_eq q) es) refl
  where
    by : (o : Option Bool) → lookup (question_eq q) es ≡ o → lookup (question_eq q) es ≡ None
    by None h = h
    by (Some b) h = absurd (n.none b (got_some es q (Some b) (sym h)))
