-- The begins of each label as the events go by.
use Rattle.std.proofs.Common.{◌≡◌, ◌≢◌, refl, sym, ◌∙◌, ap, subst, subst₂, ℕ, zero, suc, ◌+◌, ◌<◌, ◌≤◌, ⊎_elim, List, [], ◌∷◌, ◌++◌, length, map, get_or, take, drop, replicate, Option, Some, None, slice_get, slice_set, add-one, arith}
use Rattle.std.proofs.lemmas.Bool.{cases_eq}
use Rattle.std.proofs.lemmas.List.{append-nil, length-take-le}
use Rattle.std.proofs.lemmas.Option.{get_or_from_slice_get, slice_get-get_or, slice_get_within}
use Rattle.std.proofs.Math.ListN.{drop_of_length-le}
use Rattle.spi_term.specs.Lists.{At, at_first, at_later}
use Rattle.spi_term.specs.Term.{Message}
use Rattle.spi_term.proofs.Lists.{at_get, get_at, at_unique, some_is, get_some, at_below}
use Rattle.spi_intern.proofs.Tables.{tells_at, tells_length}
use Rattle.spi_run.specs.Reduction.{Event, begun, ended, ended_many}
use Rattle.spi_trace.specs.Labels.{label_of, AreNumbered}
use Rattle.spi_trace.specs.Pairing.{Pairs, pairs_none, pairs_begin, pairs_end, pairs_unpaid, pairs_end_many, pairs_unpaid_many, IsPairing}
use Rattle.std.proofs.Math.Seq.{take-append_seam, take-suc, drop-cons}
use Rattle.spi_run.specs.View.{event}
use Rattle.spi_run.specs.declared.step.Event as Declared
use Rattle.spi_trace.specs.declared.queue.Begins.{Begins}
use Rattle.spi_trace.specs.Queue.{Queue, no_begins, with_begin, next, one_taken, payer_in, queue_after, IsPaidFrom}
use Rattle.spi_trace.proofs.Prefixes.{length_events}
use Rattle.spi_trace.proofs.Seen.{and_then}
use Rattle.spi_trace.proofs.Kept.{Kept, kept_none, kept_earliest, kept_spent, kept_begin, kept_other, kept_take, kept_take_other}

-- the queue has the begins of the label
abbrev pub HasBegins : List Event → List ℕ → Message → Queue → Type 0
HasBegins seen taken m q = Kept seen taken m q.places q.taken

-- one event: what pays for it, and how the begins are then
record Paying (seen : List Event) (taken : List ℕ) (e : Event) (begin : Option ℕ) (q : Queue) : Type 0 where
  taken_then : List ℕ
  own : HasBegins (seen ++ e ∷ []) taken_then (label_of e) q
  other : (m : Message) (r : Queue) → m ≢ label_of e → HasBegins seen taken m r → HasBegins (seen ++ e ∷ []) taken_then m r
  paired : (es : List Event) (is : List (Option ℕ)) → Pairs (seen ++ e ∷ []) taken_then es is → Pairs seen taken (e ∷ es) (begin ∷ is)

-- none of the begins counts as taken
untaken : {seen : List Event} {taken : List ℕ} {m : Message} {q : Queue} → HasBegins seen taken m q → Kept seen [] m q.places 0
untaken k = record {
  begins = k.begins;
  all = k.all;
  order = k.order;
  gone = λ r i a l. absurd (omega arith);
  left = λ r i a l t. elim t [ ];
  few = omega arith;
  past = λ i t. elim t [ ];
}

none_past : (xs : List ℕ) (i : ℕ) → slice_get xs i ≡ None → length xs ≤ i
none_past [] i e = omega arith
none_past (x ∷ xs) zero e = absurd cc
none_past (x ∷ xs) (suc i) e = let h = none_past xs i e in omega arith

pay_begin : (seen : List Event) (taken : List ℕ) (m : Message) (q : Queue) → HasBegins seen taken m q → Paying seen taken (begun m) None (with_begin q (length seen))
pay_begin seen taken m q k = record {
  taken_then = taken;
  own = kept_begin k;
  other = λ l r d h. kept_other h (begun m) (λ e. d (let f : l ≡ m = cc in f));
  paired = λ es is p. pairs_begin p;
}

pay_end : (seen : List Event) (taken : List ℕ) (m : Message) (q : Queue) → HasBegins seen taken m q → (o : Option ℕ) → slice_get q.places q.taken ≡ o → Paying seen taken (ended m) o (one_taken o q)
pay_end seen taken m q k (Some i) g =
    let a = get_at q.places q.taken g in
    record {
      taken_then = i ∷ taken;
      own = kept_other (subst (λ n. Kept seen (i ∷ taken) m q.places n) (let e : suc q.taken ≡ q.taken + 1 = omega arith in e) (kept_take k a)) (ended m) (λ e. cc);
      other = λ l r d h. kept_other (kept_take_other h (k.begins q.taken i a) (λ e. d (sym e))) (ended m) (λ e. cc);
      paired = λ es is p. pairs_end (kept_earliest k a) p;
    }
pay_end seen taken m q k None g = record {
  taken_then = taken;
  own = kept_other k (ended m) (λ e. cc);
  other = λ l r d h. kept_other h (ended m) (λ e. cc);
  paired = λ es is p. pairs_unpaid (kept_spent k (none_past q.places q.taken g)) p;
}

pay_many : (seen : List Event) (taken : List ℕ) (m : Message) (q : Queue) → HasBegins seen taken m q → (o : Option ℕ) → slice_get q.places 0 ≡ o → Paying seen taken (ended_many m) o q
pay_many seen taken m q k (Some i) g = record {
  taken_then = taken;
  own = kept_other k (ended_many m) (λ e. cc);
  other = λ l r d h. kept_other h (ended_many m) (λ e. cc);
  paired = λ es is p. pairs_end_many (kept_earliest (untaken k) (get_at q.places 0 g)) p;
}
pay_many seen taken m q k None g = record {
  taken_then = taken;
  own = kept_other k (ended_many m) (λ e. cc);
  other = λ l r d h. kept_other h (ended_many m) (λ e. cc);
  paired = λ es is p. pairs_unpaid_many (kept_spent (untaken k) (none_past q.places 0 g)) p;
}

paying : (seen : List Event) (taken : List ℕ) (e : Event) (q : Queue) → HasBegins seen taken (label_of e) q → Paying seen taken e (payer_in e q) (queue_after e (length seen) q)
paying seen taken (begun m) q k = pay_begin seen taken m q k
paying seen taken (ended m) q k = pay_end seen taken m q k (next q) refl
paying seen taken (ended_many m) q k = pay_many seen taken m q k (slice_get q.places 0) refl

-- after the first i events
pub record Running (es : List Event) (ns : List ℕ) (i : ℕ) (qs : List Queue) (from : List (Option ℕ)) : Type 0 where
  pub taken : List ℕ
  pub holds : (j n : ℕ) (e : Event) (q : Queue) → At es j e → At ns j n → slice_get qs n ≡ Some q → HasBegins (take i es) taken (label_of e) q
  pub joined : (is : List (Option ℕ)) → Pairs (take i es) taken (drop i es) is → Pairs [] [] es (from ++ is)

all_empty : (n : ℕ) (i : ℕ) (x q : Queue) → slice_get (replicate n x) i ≡ Some q → q ≡ x
all_empty zero i x q e = absurd cc
all_empty (suc n) zero x q e = sym (some_is e)
all_empty (suc n) (suc i) x q e = all_empty n i x q e

pub run_none : (es : List Event) (ns : List ℕ) (n : ℕ) (qs : List Queue) (from : List (Option ℕ)) → qs ≡ replicate n no_begins → from ≡ [] → Running es ns 0 qs from
run_none es ns n qs from f g = record {
  taken = [];
  holds = λ j k e q a b h. subst (λ r. HasBegins [] [] (label_of e) r) (sym (all_empty n k no_begins q (subst (λ rs. slice_get rs k ≡ Some q) f h))) (kept_none (label_of e));
  joined = λ is p. subst (λ os. Pairs [] [] es (os ++ is)) (sym g) p;
}

-- numbers that are equal, or not
same_label : (es : List Event) (ns : List ℕ) (bound : ℕ) → AreNumbered es ns bound → (i j n k : ℕ) (d e : Event) → At es i d → At es j e → At ns i n → At ns j k → (n ≡ k → label_of d ≡ label_of e) × (label_of d ≡ label_of e → n ≡ k)
same_label es ns bound r i j n k d e a b c f =
    let (d', g, x) = tells_at r.each i n (at_get c) in
    let (e', h, y) = tells_at r.each j k (at_get f) in
    let u : d' ≡ d = at_unique (get_at es i g) a in
    let v : e' ≡ e = at_unique (get_at es j h) b in
    let p : slice_get r.messages n ≡ Some (label_of d) = subst (λ z. slice_get r.messages n ≡ Some (label_of z)) u x in
    let q : slice_get r.messages k ≡ Some (label_of e) = subst (λ z. slice_get r.messages k ≡ Some (label_of z)) v y in (
      (λ s. some_is (sym p ∙ subst (λ z. slice_get r.messages z ≡ Some (label_of e)) (sym s) q)),
      (λ s. r.differ.one n k (label_of d) p (subst (λ m. slice_get r.messages k ≡ Some m) (sym s) q)),
    )

pub number_within : (es : List Event) (ns : List ℕ) (bound : ℕ) → AreNumbered es ns bound → (i n : ℕ) → At ns i n → n < bound
number_within es ns bound r i n a =
    let (e, g, x) = tells_at r.each i n (at_get a) in
    let h = slice_get_within r.messages n (label_of e) x in let k = r.few in omega arith

-- lists that are changed at a place
set_there : (qs : List Queue) (n : ℕ) (x q : Queue) → slice_get (slice_set qs n x) n ≡ Some q → q ≡ x
set_there [] n x q e = absurd cc
set_there (r ∷ qs) zero x q e = sym (some_is e)
set_there (r ∷ qs) (suc n) x q e = set_there qs n x q e

set_elsewhere : (qs : List Queue) (n k : ℕ) (x : Queue) → k ≢ n → slice_get (slice_set qs n x) k ≡ slice_get qs k
set_elsewhere [] n k x d = refl
set_elsewhere (r ∷ qs) zero zero x d = absurd (d refl)
set_elsewhere (r ∷ qs) zero (suc k) x d = refl
set_elsewhere (r ∷ qs) (suc n) zero x d = refl
set_elsewhere (r ∷ qs) (suc n) (suc k) x d = set_elsewhere qs n k x (λ e. d (ap suc e))

take_at : (es : List Event) (i : ℕ) (e : Event) → At es i e → take (suc i) es ≡ take i es ++ e ∷ []
take_at es i e a = take-suc es i e (at_below a) ∙ ap (λ x. take i es ++ x ∷ []) (get_or_from_slice_get es i e e (at_get a))

drop_at : (es : List Event) (i : ℕ) (e : Event) → At es i e → drop i es ≡ e ∷ drop (suc i) es
drop_at es i e a = drop-cons es i e (at_below a) ∙ ap (λ x. x ∷ drop (suc i) es) (get_or_from_slice_get es i e e (at_get a))

length_take : (es : List Event) (i : ℕ) (e : Event) → At es i e → length (take i es) ≡ i
length_take es i e a = let h = at_below a in length-take-le i es (omega arith)

-- one more event
run_suc : (es : List Event) (ns : List ℕ) (bound i n : ℕ) (e : Event) (q : Queue) (qs : List Queue) (from : List (Option ℕ)) → AreNumbered es ns bound → At es i e → At ns i n → slice_get qs n ≡ Some q → Running es ns i qs from → Running es ns (suc i) (slice_set qs n (queue_after e i q)) (from ++ payer_in e q ∷ [])
run_suc es ns bound i n e q qs from r a b g h =
    let p : Paying (take i es) h.taken e (payer_in e q) (queue_after e i q) = subst (λ x. Paying (take i es) h.taken e (payer_in e q) (queue_after e x q)) (length_take es i e a) (paying (take i es) h.taken e q (h.holds i n e q a b g)) in
    let s = sym (take_at es i e a) in
    record {
      taken = p.taken_then;
      holds = λ j k d x c f y.
          let z = same_label es ns bound r j i k n d e c a f b in
          let w : HasBegins (take i es ++ e ∷ []) p.taken_then (label_of d) x = ⊎_elim
          (λ t.
          let u = set_there qs n (queue_after e i q) x (subst (λ l. slice_get (slice_set qs n (queue_after e i q)) l ≡ Some x) t y) in
          subst₂ (λ m v. HasBegins (take i es ++ e ∷ []) p.taken_then m v) (sym (z.0 t)) (sym u) p.own)
          (λ t. p.other (label_of d) x (λ v. t (z.1 v)) (h.holds j k d x c f (sym (set_elsewhere qs n k (queue_after e i q) t) ∙ y)))
          (cases_eq k n) in
          subst (λ xs. HasBegins xs p.taken_then (label_of d) x) s w;
      joined = λ is t.
          let u : Pairs (take i es ++ e ∷ []) p.taken_then (drop (suc i) es) is = subst (λ xs. Pairs xs p.taken_then (drop (suc i) es) is) (take_at es i e a) t in
          let v : Pairs (take i es) h.taken (drop i es) (payer_in e q ∷ is) = subst (λ xs. Pairs (take i es) h.taken xs (payer_in e q ∷ is)) (sym (drop_at es i e a)) (p.paired (drop (suc i) es) is u) in
          subst (λ os. Pairs [] [] es os) (sym (and_then from (payer_in e q) is)) (h.joined (payer_in e q ∷ is) v);
    }

pub run_all : (es : List Event) (ns : List ℕ) (i : ℕ) (qs : List Queue) (from : List (Option ℕ)) → length es ≤ i → Running es ns i qs from → IsPairing es from
run_all es ns i qs from l h =
    subst (λ os. Pairs [] [] es os) (append-nil from)
    (h.joined [] (subst (λ xs. Pairs (take i es) h.taken xs []) (sym (drop_of_length-le es l)) pairs_none))

-- a step of the loop
at_event : (es : List Declared.Event) (i : ℕ) (x : Declared.Event) → i < length es → x ≡ get_or es i x → At (map event es) i (event x)
at_event [] i x l e = absurd (omega arith)
at_event (y ∷ es) zero x l e = subst (λ z. At (event z ∷ map event es) zero (event x)) e at_first
at_event (y ∷ es) (suc i) x l e = at_later (at_event es i x (omega arith) e)

pub as_many_numbers : (es : List Declared.Event) (ns : List ℕ) (bound : ℕ) → AreNumbered (map event es) ns bound → length ns ≡ length es
as_many_numbers es ns bound r = tells_length r.each ∙ length_events es

number_at : (es : List Declared.Event) (ns : List ℕ) (bound i n : ℕ) → AreNumbered (map event es) ns bound → i < length es → n ≡ get_or ns i n → At ns i n
number_at es ns bound i n r l f = let h = as_many_numbers es ns bound r in subst (λ x. At ns i x) (sym f) (get_at ns i (slice_get-get_or ns i n (omega arith)))

pub number_below : (es : List Declared.Event) (ns : List ℕ) (bound i n : ℕ) → AreNumbered (map event es) ns bound → i < length es → n ≡ get_or ns i n → n < bound
number_below es ns bound i n r l f = number_within (map event es) ns bound r i n (number_at es ns bound i n r l f)

pub run_more : (es : List Declared.Event) (ns : List ℕ) (bound i n : ℕ) (x : Declared.Event) (qs rs : List Queue) (o : Option ℕ) (from more : List (Option ℕ)) → AreNumbered (map event es) ns bound → i < length es → x ≡ get_or es i x → n ≡ get_or ns i n → length qs ≡ bound → IsPaidFrom (event x) i n qs rs o → more ≡ from ++ o ∷ [] → Running (map event es) ns i qs from → Running (map event es) ns (i + 1) rs more
run_more es ns bound i n x qs rs o from more r l e f k p g h =
    let a = number_at es ns bound i n r l f in
    let b = number_within (map event es) ns bound r i n a in
    let (q, c) = get_some qs n (subst (λ z. n < z) (sym k) b) in
    let s = run_suc (map event es) ns bound i n (event x) q qs from r (at_event es i x l e) a c h in
    rw (add-one, p.left q c, g, p.by q c) s

-- a list that a vector gets back
pub whole_again : (new old : List Begins) (n : ℕ) → n ≡ length old → length new ≡ length old → take n (new ++ drop (length new) old) ≡ new
whole_again new old n e f = rw (e ∙ sym f) (take-append_seam new (drop (length new) old))
