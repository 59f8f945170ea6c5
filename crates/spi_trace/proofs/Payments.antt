-- Each end has a begin just where the events are paid, and so for endmany.
use Rattle.std.proofs.Common.{◌≡◌, refl, sym, ap, subst, ℕ, suc, ◌+◌, ◌≤◌, ◌≢◌, Bool, true, false, if◌then◌else◌, List, [], ◌∷◌, ◌++◌, length, Option, arith}
use Rattle.std.proofs.lemmas.List.{append-nil}
use Rattle.spi_term.specs.Lists.{at_first, at_later, In}
use Rattle.spi_term.proofs.Lists.{within_at, in_at, length_more}
use Rattle.spi_term.specs.Term.{Message, message_discrete, same_message}
use Rattle.spi_intern.proofs.MessageLaws.{same_self}
use Rattle.spi_run.specs.Reduction.{Event, begun, ended, ended_many}
use Rattle.spi_run.specs.Safety.{begins_of, ends_of}
use Rattle.spi_trace.specs.Pairing.{IsEarliest, Pairs, pairs_none, pairs_begin, pairs_end, pairs_unpaid, pairs_end_many, pairs_unpaid_many, EndsPaired, ManysPaired}
use Rattle.spi_trace.specs.Laws.{PairedIsPaid, PairedIsPaidMany}
use Rattle.spi_trace.proofs.Seen.{at_in, and_then}
use Rattle.spi_trace.proofs.Kept.{Kept, kept_none, kept_earliest, earliest_kept, kept_begin, kept_other, kept_take, kept_take_other}

-- n begins of the label are seen, of which u are taken
record HasTaken (seen : List Event) (taken : List ℕ) (m : Message) (n u : ℕ) : Type 0 where
  places : List ℕ
  kept : Kept seen taken m places u
  count : length places ≡ n

abbrev one_if : Bool → ℕ
one_if b = if b then 1 else 0

has_begin : {seen : List Event} {taken : List ℕ} (l m : Message) {n u : ℕ} → HasTaken seen taken m n u → HasTaken (seen ++ begun l ∷ []) taken m (one_if (same_message m l) + n) u
has_begin {seen} {taken} l m {n} {u} h = go (message_discrete m l)
  where
    go : (d : Dec (m ≡ l)) → HasTaken (seen ++ begun l ∷ []) taken m (one_if (elim d [ yes e ↦ true | no f ↦ false ]) + n) u
    go (yes e) = record {
      places = h.places ++ length seen ∷ [];
      kept = subst (λ x. Kept (seen ++ begun x ∷ []) taken m (h.places ++ length seen ∷ []) u) e (kept_begin h.kept);
      count = let a = length_more h.places (length seen) in let b = h.count in omega arith;
    }
    go (no f) = record {
      places = h.places;
      kept = kept_other h.kept (begun l) (λ e. f (let g : m ≡ l = cc in g));
      count = let b = h.count in omega arith;
    }

has_other : {seen : List Event} {taken : List ℕ} {m : Message} {n u : ℕ} (e : Event) → e ≢ begun m → HasTaken seen taken m n u → HasTaken (seen ++ e ∷ []) taken m n u
has_other e d h = record { places = h.places; kept = kept_other h.kept e d; count = h.count }

has_end : {seen : List Event} {taken : List ℕ} {i : ℕ} (l m : Message) {n u : ℕ} → IsEarliest seen taken l i → HasTaken seen taken m n u → HasTaken (seen ++ ended l ∷ []) (i ∷ taken) m n (one_if (same_message m l) + u)
has_end {seen} {taken} {i} l m {n} {u} f h = has_other (ended l) (λ e. cc) (go (message_discrete m l))
  where
    go : (d : Dec (m ≡ l)) → HasTaken seen (i ∷ taken) m n (one_if (elim d [ yes e ↦ true | no g ↦ false ]) + u)
    go (yes e) = record {
      places = h.places;
      kept = subst (λ x. Kept seen (i ∷ taken) m h.places x) (let p : suc u ≡ 1 + u = omega arith in p) (kept_take h.kept (earliest_kept h.kept (subst (λ x. IsEarliest seen taken x i) (sym e) f)));
      count = h.count;
    }
    go (no g) = record {
      places = h.places;
      kept = subst (λ x. Kept seen (i ∷ taken) m h.places x) (let p : u ≡ 0 + u = omega arith in p) (kept_take_other h.kept f.free.0 (λ e. g (sym e)));
      count = h.count;
    }

-- of these labels so many begins are seen and so many are taken, and the further events are paid
abbrev AllHave : List Event → List ℕ → (Message → ℕ) → (Message → ℕ) → Type 0
AllHave seen taken n u = (m : Message) → HasTaken seen taken m (n m) (u m)

abbrev PaidAfter : (Message → ℕ) → (Message → ℕ) → List Event → Type 0
PaidAfter n u es = (early late : List Event) (m : Message) → es ≡ early ++ late → u m + ends_of m early ≤ n m + begins_of m early

abbrev more_by_one : Message → (Message → ℕ) → Message → ℕ
more_by_one l n m = one_if (same_message m l) + n m

-- the first event and the rest
paid_first : {seen : List Event} {taken : List ℕ} {n u : Message → ℕ} → AllHave seen taken n u → (m : Message) → u m + 0 ≤ n m + 0
paid_first a m = let h = (a m).kept.few in let e = (a m).count in omega arith

after_none : (n u : Message → ℕ) → ((m : Message) → u m + 0 ≤ n m + 0) → PaidAfter n u []
after_none n u z [] late m f = z m
after_none n u z (x ∷ early) late m f = cc

after_begin : {es : List Event} (n u : Message → ℕ) (l : Message) → ((m : Message) → u m + 0 ≤ n m + 0) → PaidAfter (more_by_one l n) u es → PaidAfter n u (begun l ∷ es)
after_begin n u l z p [] late m f = z m
after_begin n u l z p (x ∷ early) late m f =
    let e : begun l ≡ x = cc in
    let h = p early late m cc in
    subst (λ y. u m + ends_of m (y ∷ early) ≤ n m + begins_of m (y ∷ early)) e (omega arith)

after_end : {es : List Event} (n u : Message → ℕ) (l : Message) → ((m : Message) → u m + 0 ≤ n m + 0) → PaidAfter n (more_by_one l u) es → PaidAfter n u (ended l ∷ es)
after_end n u l z p [] late m f = z m
after_end n u l z p (x ∷ early) late m f =
    let e : ended l ≡ x = cc in
    let h = p early late m cc in
    subst (λ y. u m + ends_of m (y ∷ early) ≤ n m + begins_of m (y ∷ early)) e (omega arith)

after_end_many : {es : List Event} (n u : Message → ℕ) (l : Message) → ((m : Message) → u m + 0 ≤ n m + 0) → PaidAfter n u es → PaidAfter n u (ended_many l ∷ es)
after_end_many n u l z p [] late m f = z m
after_end_many n u l z p (x ∷ early) late m f =
    let e : ended_many l ≡ x = cc in
    let h = p early late m cc in
    subst (λ y. u m + ends_of m (y ∷ early) ≤ n m + begins_of m (y ∷ early)) e (omega arith)

-- where each end has a begin the events are paid
pairs_paid : {seen : List Event} {taken : List ℕ} {es : List Event} {is : List (Option ℕ)} → Pairs seen taken es is → (n u : Message → ℕ) → AllHave seen taken n u → EndsPaired es is → PaidAfter n u es
pairs_paid pairs_none n u a q = after_none n u (paid_first a)
pairs_paid (pairs_begin {m = l} p) n u a q = after_begin n u l (paid_first a) (pairs_paid p (more_by_one l n) u (λ m. has_begin l m (a m)) (λ i m b c. q (suc i) m (at_later b) (at_later c)))
pairs_paid (pairs_end {m = l} h p) n u a q = after_end n u l (paid_first a) (pairs_paid p n (more_by_one l u) (λ m. has_end l m h (a m)) (λ i m b c. q (suc i) m (at_later b) (at_later c)))
pairs_paid (pairs_unpaid {m = l} d p) n u a q = absurd (q 0 l at_first at_first)
pairs_paid (pairs_end_many {m = l} h p) n u a q = after_end_many n u l (paid_first a) (pairs_paid p n u (λ m. has_other (ended_many l) (λ e. cc) (a m)) (λ i m b c. q (suc i) m (at_later b) (at_later c)))
pairs_paid (pairs_unpaid_many {m = l} d p) n u a q = after_end_many n u l (paid_first a) (pairs_paid p n u (λ m. has_other (ended_many l) (λ e. cc) (a m)) (λ i m b c. q (suc i) m (at_later b) (at_later c)))

rest_begin : {es : List Event} (n u : Message → ℕ) (l : Message) → PaidAfter n u (begun l ∷ es) → PaidAfter (more_by_one l n) u es
rest_begin n u l p early late m f = let h = p (begun l ∷ early) late m (ap (λ x. begun l ∷ x) f) in omega arith

rest_end : {es : List Event} (n u : Message → ℕ) (l : Message) → PaidAfter n u (ended l ∷ es) → PaidAfter n (more_by_one l u) es
rest_end n u l p early late m f = let h = p (ended l ∷ early) late m (ap (λ x. ended l ∷ x) f) in omega arith

rest_end_many : {es : List Event} (n u : Message → ℕ) (l : Message) → PaidAfter n u (ended_many l ∷ es) → PaidAfter n u es
rest_end_many n u l p early late m f = p (ended_many l ∷ early) late m (ap (λ x. ended_many l ∷ x) f)

-- an end that comes next, where the events are paid, has a free begin
one_free : {seen : List Event} {taken : List ℕ} {es : List Event} {n u : Message → ℕ} (l : Message) → AllHave seen taken n u → PaidAfter n u (ended l ∷ es) → (i : ℕ) × IsEarliest seen taken l i
one_free {es = es} {n = n} {u = u} l a p =
    let h = p (ended l ∷ []) es l refl in
    let k : u l + (1 + 0) ≤ n l + 0 = subst (λ b. u l + (one_if b + 0) ≤ n l + 0) (same_self l) h in
    let e = (a l).count in
    let (i, b) = within_at (a l).places (u l) (omega arith) in
    (i, kept_earliest (a l).kept b)

-- where the events are paid each end has a begin
paid_pairs : {seen : List Event} {taken : List ℕ} {es : List Event} {is : List (Option ℕ)} → Pairs seen taken es is → (n u : Message → ℕ) → AllHave seen taken n u → PaidAfter n u es → EndsPaired es is
paid_pairs pairs_none n u a q i m b c = elim b [ ]
paid_pairs (pairs_begin {m = l} p) n u a q i m (at_later b) (at_later c) = paid_pairs p (more_by_one l n) u (λ k. has_begin l k (a k)) (rest_begin n u l q) _ m b c
paid_pairs (pairs_end {m = l} h p) n u a q i m at_first c = elim c [ ]
paid_pairs (pairs_end {m = l} h p) n u a q i m (at_later b) (at_later c) = paid_pairs p n (more_by_one l u) (λ k. has_end l k h (a k)) (rest_end n u l q) _ m b c
paid_pairs (pairs_unpaid {m = l} d p) n u a q i m b c = let (j, f) = one_free l a q in d j f.free
paid_pairs (pairs_end_many {m = l} h p) n u a q i m (at_later b) (at_later c) = paid_pairs p n u (λ k. has_other (ended_many l) (λ e. cc) (a k)) (rest_end_many n u l q) _ m b c
paid_pairs (pairs_unpaid_many {m = l} d p) n u a q i m (at_later b) (at_later c) = paid_pairs p n u (λ k. has_other (ended_many l) (λ e. cc) (a k)) (rest_end_many n u l q) _ m b c

none_have : AllHave [] [] (λ m. 0) (λ m. 0)
none_have m = record { places = []; kept = kept_none m; count = refl }

pub paired_paid : PairedIsPaid
paired_paid events is p = (
  (λ q early late m f. let h = pairs_paid p (λ x. 0) (λ x. 0) none_have q early late m f in omega arith),
  (λ q. paid_pairs p (λ x. 0) (λ x. 0) none_have (λ early late m f. let h = q early late m f in omega arith)),
)

-- the further endmany events have begins
abbrev ManyAfter : List Event → List Event → Type 0
ManyAfter seen es = (early late : List Event) (m : Message) → es ≡ early ++ ended_many m ∷ late → In (begun m) (seen ++ early)

many_none : (seen : List Event) → ManyAfter seen []
many_none seen [] late m f = cc
many_none seen (x ∷ early) late m f = cc

many_next : (seen : List Event) {es : List Event} (e : Event) → ((m : Message) → e ≡ ended_many m → In (begun m) seen) → ManyAfter (seen ++ e ∷ []) es → ManyAfter seen (e ∷ es)
many_next seen e h p [] late m f = rw (append-nil seen) (h m cc)
many_next seen e h p (x ∷ early) late m f =
    let g : e ≡ x = cc in
    subst (λ y. In (begun m) (seen ++ y ∷ early)) g (subst (λ xs. In (begun m) xs) (and_then seen e early) (p early late m cc))

many_rest : (seen : List Event) {es : List Event} (e : Event) → ManyAfter seen (e ∷ es) → ManyAfter (seen ++ e ∷ []) es
many_rest seen e p early late m f = subst (λ xs. In (begun m) xs) (sym (and_then seen e early)) (p (e ∷ early) late m (ap (λ x. e ∷ x) f))

many_of : {seen : List Event} {taken : List ℕ} {l m : Message} {i : ℕ} → IsEarliest seen taken l i → ended_many l ≡ ended_many m → In (begun m) seen
many_of {seen} {l = l} {m = m} h e = let g : l ≡ m = cc in subst (λ x. In (begun x) seen) g (at_in h.free.0)

pairs_many : {seen : List Event} {taken : List ℕ} {es : List Event} {is : List (Option ℕ)} → Pairs seen taken es is → ManysPaired es is → ManyAfter seen es
pairs_many pairs_none q = many_none _
pairs_many (pairs_begin {m = l} p) q = many_next _ (begun l) (λ m e. cc) (pairs_many p (λ i m b c. q (suc i) m (at_later b) (at_later c)))
pairs_many (pairs_end {m = l} h p) q = many_next _ (ended l) (λ m e. cc) (pairs_many p (λ i m b c. q (suc i) m (at_later b) (at_later c)))
pairs_many (pairs_unpaid {m = l} d p) q = many_next _ (ended l) (λ m e. cc) (pairs_many p (λ i m b c. q (suc i) m (at_later b) (at_later c)))
pairs_many (pairs_end_many {m = l} h p) q = many_next _ (ended_many l) (λ m e. many_of h e) (pairs_many p (λ i m b c. q (suc i) m (at_later b) (at_later c)))
pairs_many (pairs_unpaid_many {m = l} d p) q = absurd (q 0 l at_first at_first)

many_pairs : {seen : List Event} {taken : List ℕ} {es : List Event} {is : List (Option ℕ)} → Pairs seen taken es is → ManyAfter seen es → ManysPaired es is
many_pairs pairs_none q i m b c = elim b [ ]
many_pairs (pairs_begin {m = l} p) q i m (at_later b) (at_later c) = many_pairs p (many_rest _ (begun l) q) _ m b c
many_pairs (pairs_end {m = l} h p) q i m (at_later b) (at_later c) = many_pairs p (many_rest _ (ended l) q) _ m b c
many_pairs (pairs_unpaid {m = l} d p) q i m (at_later b) (at_later c) = many_pairs p (many_rest _ (ended l) q) _ m b c
many_pairs (pairs_end_many {m = l} h p) q i m at_first c = elim c [ ]
many_pairs (pairs_end_many {m = l} h p) q i m (at_later b) (at_later c) = many_pairs p (many_rest _ (ended_many l) q) _ m b c
many_pairs (pairs_unpaid_many {seen} {m = l} {es} d p) q i m at_first c =
    let (j, a) = in_at (subst (λ xs. In (begun l) xs) (append-nil seen) (q [] es l refl)) in d j (a, λ t. elim t [ ])
many_pairs (pairs_unpaid_many {m = l} d p) q i m (at_later b) (at_later c) = many_pairs p (many_rest _ (ended_many l) q) _ m b c

pub paired_paid_many : PairedIsPaidMany
paired_paid_many events is p = (pairs_many p, many_pairs p)
