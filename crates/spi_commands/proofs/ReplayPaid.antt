-- Whether events are paid, by the first end or endmany without a begin.
use Rattle.std.proofs.Common.{◌≡◌, ℕ, suc, Bool, true, false, List, [], ◌∷◌, Option, Some, None}
use Rattle.std.specs.Prelude.{if◌then◌else◌}
use Rattle.spi_term.specs.Lists.{At, at_first, at_later}
use Rattle.spi_term.specs.Term.{Message}
use Rattle.spi_run.specs.Reduction.{Event, begun, ended, ended_many}
use Rattle.spi_trace.specs.Pairing.{IsPairing, EndsPaired, ManysPaired}
use Rattle.spi_trace.specs.Laws.{PairedIsPaid, PairedIsPaidMany}
use Rattle.spi_report.specs.Events.{is_unpaid, first_unpaid}
use Rattle.spi_commands.specs.Replaying.{AreEventsPaid}

-- where none is found, each has a begin
none_later : (b : Bool) (k : ℕ) (o : Option ℕ) → (if b then Some k else o) ≡ None → o ≡ None
none_later true k o h = absurd (cc)
none_later false k o h = h

unpaid_end : {events : List Event} {is : List (Option ℕ)} {i : ℕ} {m : Message} (k : ℕ) → At events i (ended m) → At is i None → first_unpaid k events is ≡ None → ⊥
unpaid_end k at_first at_first e = absurd (cc)
unpaid_end k (at_later {y = x} {xs = es} a) (at_later {y = o} {xs = is} b) e = unpaid_end (suc k) a b (none_later (is_unpaid x o) k (first_unpaid (suc k) es is) e)

unpaid_many : {events : List Event} {is : List (Option ℕ)} {i : ℕ} {m : Message} (k : ℕ) → At events i (ended_many m) → At is i None → first_unpaid k events is ≡ None → ⊥
unpaid_many k at_first at_first e = absurd (cc)
unpaid_many k (at_later {y = x} {xs = es} a) (at_later {y = o} {xs = is} b) e = unpaid_many (suc k) a b (none_later (is_unpaid x o) k (first_unpaid (suc k) es is) e)

-- where one is found, it has none
found : (k j : ℕ) (events : List Event) (is : List (Option ℕ)) → first_unpaid k events is ≡ Some j → EndsPaired events is → ManysPaired events is → ⊥
found k j [] is e h g = absurd (cc)
found k j (x ∷ es) [] e h g = absurd (cc)
found k j (begun m ∷ es) (o ∷ is) e h g = found (suc k) j es is e (λ i n a b. h (suc i) n (at_later a) (at_later b)) (λ i n a b. g (suc i) n (at_later a) (at_later b))
found k j (ended m ∷ es) (None ∷ is) e h g = h 0 m at_first at_first
found k j (ended m ∷ es) (Some o ∷ is) e h g = found (suc k) j es is e (λ i n a b. h (suc i) n (at_later a) (at_later b)) (λ i n a b. g (suc i) n (at_later a) (at_later b))
found k j (ended_many m ∷ es) (None ∷ is) e h g = g 0 m at_first at_first
found k j (ended_many m ∷ es) (Some o ∷ is) e h g = found (suc k) j es is e (λ i n a b. h (suc i) n (at_later a) (at_later b)) (λ i n a b. g (suc i) n (at_later a) (at_later b))

pub paid_by_none : (events : List Event) (is : List (Option ℕ)) → PairedIsPaid → PairedIsPaidMany → IsPairing events is → first_unpaid 0 events is ≡ None → AreEventsPaid events
paid_by_none events is ends manys p e = ((ends events is p).0 (λ i m a b. unpaid_end 0 a b e), (manys events is p).0 (λ i m a b. unpaid_many 0 a b e))

pub unpaid_by_one : (j : ℕ) (events : List Event) (is : List (Option ℕ)) → PairedIsPaid → PairedIsPaidMany → IsPairing events is → first_unpaid 0 events is ≡ Some j → AreEventsPaid events → ⊥
unpaid_by_one j events is ends manys p e paid = found 0 j events is e ((ends events is p).1 paid.0) ((manys events is p).1 paid.1)
