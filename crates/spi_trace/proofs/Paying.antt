-- What the functions on labels and begins keep.
use Rattle.std.proofs.Common.{◌≡◌, refl, sym, ◌∙◌, ap, subst, ℕ, zero, suc, ◌+◌, ◌<◌, List, [], ◌∷◌, ◌++◌, length, map, take, get_or, replicate, Option, Some, None, slice_get, slice_set, arith}
use Rattle.std.proofs.lemmas.List.{map_push, replicate-append-replicate}
use Rattle.spi_term.specs.Term.{Message}
use Rattle.spi_term.proofs.Lookup.{map_take_more}
use Rattle.spi_term.proofs.Lists.{some_is}
use Rattle.spi_intern.specs.Table.{KeepsAll, TellsAll, tells_none}
use Rattle.spi_intern.proofs.Tables.{tells_push, tells_map}
use Rattle.spi_run.specs.Reduction.{Event, begun, ended, ended_many}
use Rattle.spi_run.specs.View.{event}
use Rattle.spi_run.specs.declared.step.Event as Declared
use Rattle.spi_trace.specs.Labels.{label_of, NumbersLabel}
use Rattle.spi_trace.specs.Queue.{Queue, queue, no_begins, with_begin, next, one_taken, payer_in, queue_after, IsPaidFrom}
use Rattle.spi_trace.specs.declared.queue.Begins.{Begins}

-- one more label with its number
pub numbered_next : (old new : List Message) (ns ns' : List ℕ) (es : List Declared.Event) (i : ℕ) (x : Declared.Event) (n : ℕ) (m : Message) → KeepsAll old new → TellsAll (NumbersLabel old) ns (map event (take i es)) → i < length es → x ≡ get_or es i x → slice_get new n ≡ Some m → m ≡ label_of (event x) → ns' ≡ ns ++ n ∷ [] → TellsAll (NumbersLabel new) ns' (map event (take (i + 1) es))
numbered_next old new ns ns' es i x n m k t l e g f h =
    let t' : TellsAll (NumbersLabel new) ns (map event (take i es)) = tells_map {S = NumbersLabel old} {T = NumbersLabel new} (λ p d s. k.at p (label_of d) s) t in
    let u : TellsAll (NumbersLabel new) (ns ++ n ∷ []) (map event (take i es) ++ event x ∷ []) = tells_push {S = NumbersLabel new} t' (g ∙ ap Some f) in
    rw (h, map_take_more event es i x l e) u

-- one more queue
pub one_more : (old new : List Begins) (b : Begins) (n : ℕ) → new ≡ old ++ b ∷ [] → queue b ≡ no_begins → map queue old ≡ replicate n no_begins → map queue new ≡ replicate (n + 1) no_begins
one_more old new b n f g h =
    ap (map queue) f ∙ map_push queue old b ∙ ap (λ l. l ++ queue b ∷ []) h ∙ ap (λ q. replicate n no_begins ++ q ∷ []) g ∙ replicate-append-replicate n 1 no_begins

-- what is at a place, and a change there
map_at : (qs : List Begins) (n : ℕ) (d : Begins) → n < length qs → slice_get (map queue qs) n ≡ Some (queue (get_or qs n d))
map_at [] n d l = absurd (omega arith)
map_at (q ∷ qs) zero d l = refl
map_at (q ∷ qs) (suc n) d l = map_at qs n d (omega arith)

map_set : (qs : List Begins) (n : ℕ) (b : Begins) → map queue (slice_set qs n b) ≡ slice_set (map queue qs) n (queue b)
map_set [] n b = refl
map_set (q ∷ qs) zero b = refl
map_set (q ∷ qs) (suc n) b = ap (λ l. queue q ∷ l) (map_set qs n b)

set_as_it_is : (qs : List Queue) (n : ℕ) (q : Queue) → slice_get qs n ≡ Some q → slice_set qs n q ≡ qs
set_as_it_is [] n q e = refl
set_as_it_is (r ∷ qs) zero q e = ap (λ x. x ∷ qs) (sym (some_is e))
set_as_it_is (r ∷ qs) (suc n) q e = ap (λ l. r ∷ l) (set_as_it_is qs n q e)

paid_changed : (e : Event) (i n : ℕ) (qs : List Begins) (b b' : Begins) (o : Option ℕ) → slice_get (map queue qs) n ≡ Some (queue b) → o ≡ payer_in e (queue b) → queue b' ≡ queue_after e i (queue b) → IsPaidFrom e i n (map queue qs) (map queue (slice_set qs n b')) o
paid_changed e i n qs b b' o a g h = record {
  by = λ q k. g ∙ ap (payer_in e) (some_is (sym a ∙ k));
  left = λ q k. map_set qs n b' ∙ ap (λ x. slice_set (map queue qs) n x) (h ∙ ap (queue_after e i) (some_is (sym a ∙ k)));
}

-- each kind of event
pub paid_begin : (m : Message) (i n : ℕ) (qs : List Begins) (d b' : Begins) → n < length qs → queue b' ≡ with_begin (queue (get_or qs n d)) i → IsPaidFrom (begun m) i n (map queue qs) (map queue (slice_set qs n b')) None
paid_begin m i n qs d b' l h = paid_changed (begun m) i n qs (get_or qs n d) b' None (map_at qs n d l) refl h

pub paid_end : (m : Message) (i n : ℕ) (qs : List Begins) (d b' : Begins) (o : Option ℕ) → n < length qs → o ≡ next (queue (get_or qs n d)) → queue b' ≡ one_taken (next (queue (get_or qs n d))) (queue (get_or qs n d)) → IsPaidFrom (ended m) i n (map queue qs) (map queue (slice_set qs n b')) o
paid_end m i n qs d b' o l g h = paid_changed (ended m) i n qs (get_or qs n d) b' o (map_at qs n d l) g h

pub paid_end_many : (m : Message) (i n : ℕ) (qs : List Begins) (d : Begins) (o : Option ℕ) → n < length qs → o ≡ slice_get (queue (get_or qs n d)).places 0 → IsPaidFrom (ended_many m) i n (map queue qs) (map queue qs) o
paid_end_many m i n qs d o l g = record {
  by = λ q k. g ∙ ap (payer_in (ended_many m)) (some_is (sym (map_at qs n d l) ∙ k));
  left = λ q k. sym (set_as_it_is (map queue qs) n q k);
}

pub none_numbered : (ms : List Message) (ns : List ℕ) → ns ≡ [] → TellsAll (NumbersLabel ms) ns []
none_numbered ms ns e = subst (λ l. TellsAll (NumbersLabel ms) l []) (sym e) tells_none

pub as_many : (qs : List Begins) (n : ℕ) → map queue qs ≡ replicate n no_begins → length qs ≡ n
as_many [] zero e = refl
as_many [] (suc n) e = absurd cc
as_many (q ∷ qs) zero e = absurd cc
as_many (q ∷ qs) (suc n) e = ap suc (as_many qs n cc)
