-- A pairing is the only one, no begin of it is taken twice, and each begin comes before its end.
use Rattle.std.proofs.Common.{◌≡◌, refl, sym, ap, subst, ℕ, suc, ◌+◌, ◌<◌, ⊎_elim, List, [], ◌∷◌, ◌++◌, length, Option, Some, None, arith}
use Rattle.std.proofs.lemmas.Bool.{cases_lt}
use Rattle.spi_term.specs.Lists.{At, at_first, at_later, In, in_first, in_later}
use Rattle.spi_term.specs.Term.{Message}
use Rattle.spi_run.specs.Reduction.{Event, begun, ended, ended_many}
use Rattle.spi_trace.specs.Pairing.{IsEarliest, Pairs, pairs_none, pairs_begin, pairs_end, pairs_unpaid, pairs_end_many, pairs_unpaid_many}
use Rattle.spi_trace.specs.Laws.{BeginsPayOnce, BeginsComeBefore}
use Rattle.spi_term.proofs.Lists.{at_more, at_below, length_more}
use Rattle.spi_trace.proofs.Seen.{and_then}

pub earliest_one : {seen : List Event} {taken : List ℕ} {m : Message} {i j : ℕ} → IsEarliest seen taken m i → IsEarliest seen taken m j → i ≡ j
earliest_one {i = i} {j = j} h k =
    ⊎_elim (λ l. absurd (k.first i l h.free))
    (λ l. ⊎_elim (λ g. absurd (h.first j g k.free)) (λ g. omega arith) (cases_lt j i))
    (cases_lt i j)

pub pairs_one : {seen : List Event} {taken : List ℕ} {es : List Event} {is js : List (Option ℕ)} → Pairs seen taken es is → Pairs seen taken es js → is ≡ js
pairs_one pairs_none pairs_none = refl
pairs_one (pairs_begin p) (pairs_begin q) = ap (λ l. None ∷ l) (pairs_one p q)
pairs_one (pairs_end {seen} {taken} {m} {i} {es} {is} h p) (pairs_end {i = j} {is = js} k q) =
    let e : i ≡ j = earliest_one h k in
    let ih : is ≡ js = pairs_one p (subst (λ b. Pairs (seen ++ ended m ∷ []) (b ∷ taken) es js) (sym e) q) in cc
pairs_one (pairs_end {i = i} h p) (pairs_unpaid n q) = absurd (n i h.free)
pairs_one (pairs_unpaid n p) (pairs_end {i = i} h q) = absurd (n i h.free)
pairs_one (pairs_unpaid n p) (pairs_unpaid k q) = ap (λ l. None ∷ l) (pairs_one p q)
pairs_one (pairs_end_many {i = i} {is = is} h p) (pairs_end_many {i = j} {is = js} k q) =
    let e : i ≡ j = earliest_one h k in let ih : is ≡ js = pairs_one p q in cc
pairs_one (pairs_end_many {i = i} h p) (pairs_unpaid_many n q) = absurd (n i h.free)
pairs_one (pairs_unpaid_many n p) (pairs_end_many {i = i} h q) = absurd (n i h.free)
pairs_one (pairs_unpaid_many n p) (pairs_unpaid_many k q) = ap (λ l. None ∷ l) (pairs_one p q)

-- a begin that is taken isn't taken again
not_again : {seen : List Event} {taken : List ℕ} {es : List Event} {is : List (Option ℕ)} {i b : ℕ} {m : Message} → Pairs seen taken es is → At es i (ended m) → At is i (Some b) → In b taken → ⊥
not_again pairs_none a c t = elim a [ ]
not_again (pairs_begin p) (at_later a) (at_later c) t = not_again p a c t
not_again (pairs_end h p) at_first at_first t = h.free.1 t
not_again (pairs_end h p) (at_later a) (at_later c) t = not_again p a c (in_later t)
not_again (pairs_unpaid n p) at_first c t = elim c [ ]
not_again (pairs_unpaid n p) (at_later a) (at_later c) t = not_again p a c t
not_again (pairs_end_many h p) (at_later a) (at_later c) t = not_again p a c t
not_again (pairs_unpaid_many n p) (at_later a) (at_later c) t = not_again p a c t

once : {seen : List Event} {taken : List ℕ} {es : List Event} {is : List (Option ℕ)} {i j b : ℕ} {l m : Message} → Pairs seen taken es is → At es i (ended l) → At es j (ended m) → At is i (Some b) → At is j (Some b) → i ≡ j
once pairs_none a a' c c' = elim a [ ]
once (pairs_begin p) (at_later a) (at_later a') (at_later c) (at_later c') = ap suc (once p a a' c c')
once (pairs_end h p) at_first at_first c c' = refl
once (pairs_end h p) at_first (at_later a') at_first (at_later c') = absurd (not_again p a' c' in_first)
once (pairs_end h p) (at_later a) at_first (at_later c) at_first = absurd (not_again p a c in_first)
once (pairs_end h p) (at_later a) (at_later a') (at_later c) (at_later c') = ap suc (once p a a' c c')
once (pairs_unpaid n p) at_first a' c c' = elim c [ ]
once (pairs_unpaid n p) (at_later a) at_first c c' = elim c' [ ]
once (pairs_unpaid n p) (at_later a) (at_later a') (at_later c) (at_later c') = ap suc (once p a a' c c')
once (pairs_end_many h p) (at_later a) (at_later a') (at_later c) (at_later c') = ap suc (once p a a' c c')
once (pairs_unpaid_many n p) (at_later a) (at_later a') (at_later c) (at_later c') = ap suc (once p a a' c c')

pub pays_once : BeginsPayOnce
pays_once events is i j b l m p a a' c c' = once p a a' c c'

-- a place among the events seen and the further ones
record Earlier (seen es : List Event) (i b : ℕ) (m : Message) : Type 0 where
  before : b < length seen + i
  label : At (seen ++ es) b (begun m)

later : {seen es : List Event} {i b : ℕ} {m : Message} (e : Event) → Earlier (seen ++ e ∷ []) es i b m → Earlier seen (e ∷ es) (suc i) b m
later {seen} {es} {i} {b} {m} e h = record {
  before = let k = h.before in let l = length_more seen e in omega arith;
  label = subst (λ xs. At xs b (begun m)) (and_then seen e es) h.label;
}

earliest_before : {seen : List Event} {taken : List ℕ} {m : Message} {b : ℕ} (es : List Event) → IsEarliest seen taken m b → Earlier seen es 0 b m
earliest_before es h = record { before = let k = at_below h.free.0 in omega arith; label = at_more es h.free.0 }

end_before : {seen : List Event} {taken : List ℕ} {es : List Event} {is : List (Option ℕ)} {i b : ℕ} {m : Message} → Pairs seen taken es is → At es i (ended m) → At is i (Some b) → Earlier seen es i b m
end_before pairs_none a c = elim a [ ]
end_before (pairs_begin {m = l} p) (at_later a) (at_later c) = later (begun l) (end_before p a c)
end_before (pairs_end {es = es} h p) at_first at_first = earliest_before _ h
end_before (pairs_end {m = l} h p) (at_later a) (at_later c) = later (ended l) (end_before p a c)
end_before (pairs_unpaid n p) at_first c = elim c [ ]
end_before (pairs_unpaid {m = l} n p) (at_later a) (at_later c) = later (ended l) (end_before p a c)
end_before (pairs_end_many {m = l} h p) (at_later a) (at_later c) = later (ended_many l) (end_before p a c)
end_before (pairs_unpaid_many {m = l} n p) (at_later a) (at_later c) = later (ended_many l) (end_before p a c)

many_before : {seen : List Event} {taken : List ℕ} {es : List Event} {is : List (Option ℕ)} {i b : ℕ} {m : Message} → Pairs seen taken es is → At es i (ended_many m) → At is i (Some b) → Earlier seen es i b m
many_before pairs_none a c = elim a [ ]
many_before (pairs_begin {m = l} p) (at_later a) (at_later c) = later (begun l) (many_before p a c)
many_before (pairs_end {m = l} h p) (at_later a) (at_later c) = later (ended l) (many_before p a c)
many_before (pairs_unpaid {m = l} n p) (at_later a) (at_later c) = later (ended l) (many_before p a c)
many_before (pairs_end_many h p) at_first at_first = earliest_before _ h
many_before (pairs_end_many {m = l} h p) (at_later a) (at_later c) = later (ended_many l) (many_before p a c)
many_before (pairs_unpaid_many n p) at_first c = elim c [ ]
many_before (pairs_unpaid_many {m = l} n p) (at_later a) (at_later c) = later (ended_many l) (many_before p a c)

pub comes_before : BeginsComeBefore
comes_before events is i b m p a c =
    let h : Earlier [] events i b m = ⊎_elim (λ x. end_before p x c) (λ x. many_before p x c) a in
    let k = h.before in (omega arith, h.label)
