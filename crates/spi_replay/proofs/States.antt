-- States after acts and meetings, and after errors.
use Rattle.std.proofs.Common.{◌≡◌, ℕ, ◌+◌, ◌≤◌, true, List, ◌∷◌, length, Option, Some, None, slice_get, ap, arith, subst, sym, ◌∙◌}
use Rattle.std.proofs.lemmas.List.{length-map}
use Rattle.spi_term.specs.Term.{Message}
use Rattle.spi_term.proofs.Lists.{some_is}
use Rattle.spi_intern.specs.Table.{KeepsAll}
use Rattle.spi_run.specs.Reduction.{Step, Event, act, talk}
use Rattle.spi_replay.specs.declared.names.Link.{Link}
use Rattle.spi_replay.specs.declared.places.Place.{Place}
use Rattle.spi_replay.specs.declared.waits.Meeting.{Meeting}
use Rattle.spi_replay.specs.declared.acting.Taken.{Taken}
use Rattle.spi_replay.specs.declared.running.State.{State}
use Rattle.spi_replay.specs.Holding.{place_process}
use Rattle.spi_replay.specs.Indexed.{places_moved, places_settled}
use Rattle.spi_replay.specs.Waiting.{wait_acts, wait_appends, wait_largest, met_by}
use Rattle.spi_replay.specs.Stepping.{message_most, event_in, IsTaken}
use Rattle.spi_replay.specs.Standing.{ArePlaces, CanBind, HasBound, StandsAt}
use Rattle.spi_replay.specs.Pools.{pooled, pool_of, IsState, MayAct, MayTalk, TakenBy}
use Rattle.spi_replay.proofs.Does.{Meets, meets_of, place_kept}
use Rattle.spi_replay.proofs.Stepped.{pool_kept, places_kept, moved_places, settled_places, act_taken, talk_taken, taken_to}

-- stores and links have grown, and the places are the same
pub pool_stays : {ms ns : List Message} {ls ks : List Link} {ps qs : List Place} (n most : ℕ) → KeepsAll ms ns → KeepsAll ls ks → ArePlaces ms ls ps → qs ≡ ps → pool_of ns ks qs n most ≡ pool_of ms ls ps n most
pool_stays {ns = ns} {ks = ks} n most k l h e = ap (λ (xs : List Place). pool_of ns ks xs n most) e ∙ pool_kept n most k l h

pub state_stays : {s t : State} → KeepsAll s.store.messages t.store.messages → KeepsAll s.links.items t.links.items → t.index.places.items ≡ s.index.places.items → t.most ≡ s.most → IsState s → IsState t
state_stays {s} {t} k l e m h = record {
  places = subst (ArePlaces t.store.messages t.links.items) (sym e) (places_kept k l h.places);
  few = omega (arith, ap length e, m, h.few);
  most = omega (arith, m, h.most);
}

-- a step was taken
state_then : (s t : State) {n : ℕ} {x : Step} {e : Option Event} → IsState s → IsTaken (pooled s) x e (pool_of t.store.messages t.links.items t.index.places.items n s.most) → t.most ≡ s.most → ArePlaces t.store.messages t.links.items t.index.places.items → IsState t
state_then s t h k m ps = record {
  places = ps;
  few = omega (arith, k.few, m, length-map t.index.places.items (place_process t.store.messages t.links.items));
  most = omega (arith, m, h.most);
}

-- an act
module _ (s : State) (i : ℕ) (is : IsState s) (may : MayAct s i) {p : Place} (at : slice_get s.index.places.items i ≡ Some p) where
  same : may.place ≡ p
  same = some_is (sym may.there ∙ at)

  pub acts_here : wait_acts p.wait ≡ true
  acts_here = subst (λ (q : Place). wait_acts q.wait ≡ true) same may.acts

  pub act_done : {ns : List Message} {ks : List Link} {qs : List Place} (x : Taken) → KeepsAll s.store.messages ns → KeepsAll s.links.items ks → TakenBy s.store.messages s.links.items ns ks s.names p x → qs ≡ places_moved s.index.places.items i x.now x.more → IsTaken (pooled s) (act i) (event_in x.event) (pool_of ns ks qs x.names s.most)
  act_done {ns} {ks} x k l b g =
      taken_to ns ks x.names s.most g (act_taken s.names s.most i p x k l is.places at acts_here (subst (λ (q : Place). wait_largest s.store.messages q.wait ≤ message_most) same may.small) (subst (λ (q : Place). length s.index.places.items + wait_appends q.wait ≤ s.most) same may.few) b)

  pub state_acted : (t : State) (x : Taken) → KeepsAll s.store.messages t.store.messages → KeepsAll s.links.items t.links.items → TakenBy s.store.messages s.links.items t.store.messages t.links.items s.names p x → t.index.places.items ≡ places_moved s.index.places.items i x.now x.more → t.most ≡ s.most → IsState t
  state_acted t x k l b g m =
      state_then s t is (act_done x k l b g) m (subst (ArePlaces t.store.messages t.links.items) (sym g) (moved_places i x.more (places_kept k l is.places) b.now b.more))

-- a meeting
module _ (s : State) (i j : ℕ) (m : Meeting) (is : IsState s) (may : MayTalk s i j m) {q : Place} (at : slice_get s.index.places.items j ≡ Some q) where
  meeting : met_by may.out.wait q.wait ≡ Some m
  meeting = subst (λ (x : Place). met_by may.out.wait x.wait ≡ Some m) (some_is (sym may.inp_there ∙ at)) may.meet

  abbrev meets : Meets s.store.messages s.links.items may.out q m
  meets = meets_of may.out q m (is.places.each i may.out may.out_there) (is.places.each j q at) meeting

  pub can_bind : CanBind s.store.messages s.links.items q.source.now m.body q.last m.datum
  can_bind = record { values = meets.values; message = meets.datum; number = meets.number; binds = meets.binds }

  module _ {ns : List Message} {ks : List Link} {qs : List Place} {now : Place} (k : KeepsAll s.store.messages ns) (l : KeepsAll s.links.items ks) (b : HasBound s.store.messages ns s.links.items ks q.source.now m.body q.last m.datum now) (g : (p : Place) → slice_get s.index.places.items i ≡ Some p → qs ≡ places_settled s.index.places.items i p j now m.again) where
    stands : StandsAt ns ks q.source.now m.body (meets.datum ∷ meets.values) now
    stands = b.at meets.values meets.datum meets.number meets.binds

    pub talk_done : IsTaken (pooled s) (talk i j) None (pool_of ns ks qs s.names s.most)
    talk_done = taken_to ns ks s.names s.most (g may.out may.out_there) (talk_taken s.store.messages s.links.items s.index.places.items s.names s.most i j may.out_there at is.places m meeting now k l stands.process may.small may.few)

    places_met : ArePlaces ns ks qs
    places_met =
        subst (ArePlaces ns ks) (sym (g may.out may.out_there)) (settled_places i j may.out now m.again (places_kept k l is.places) (place_kept k l (is.places.each i may.out may.out_there)) stands.is)

  pub state_met : (t : State) {now : Place} → KeepsAll s.store.messages t.store.messages → KeepsAll s.links.items t.links.items → HasBound s.store.messages t.store.messages s.links.items t.links.items q.source.now m.body q.last m.datum now → ((p : Place) → slice_get s.index.places.items i ≡ Some p → t.index.places.items ≡ places_settled s.index.places.items i p j now m.again) → t.most ≡ s.most → IsState t
  state_met t k l b g e = state_then s t is (talk_done k l b g) e (places_met k l b g)
