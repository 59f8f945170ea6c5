-- One message more goes from one role to another.
use Rattle.std.proofs.Common.{◌≡◌, ℕ, suc, ◌≤◌, List, [], ◌∷◌, ◌++◌, length, slice_set, refl, sym, ap, ◌∙◌, subst, arith, Option, Some, None, append_assoc, length-append, option_to_list}
use Rattle.std.proofs.lemmas.List.{append-nil}
use Rattle.spi_text.specs.declared.lines.Span.{Span}
use Rattle.spi_tree.specs.declared.tree.SWord.{SWord}
use Rattle.spi_tree.specs.Trees as t
use Rattle.spi_narrate.specs.Narrations as n
use Rattle.spi_term.specs.Lists.{At, In}
use Rattle.spi_term.proofs.Lists.{at_unique}
use Rattle.spi_term.specs.Term.{Message, name, Ty, Process, send, recv}
use Rattle.spi_run.specs.Reduction.{Configuration, Step, act, talk, Event, Takes}
use Rattle.spi_run.proofs.Once.{takes_once}
use Rattle.spi_replay.specs.Stepping.{Pooled, IsTaken, largest, bound_by}
use Rattle.spi_replay.specs.Ready.{PutsOut, puts_out, TakesIn, takes_once as takes_in_once}
use Rattle.spi_scope.specs.Scope.{Word, Names, number_of}
use Rattle.spi_scope.specs.StandsFor.{Meant}
use Rattle.spi_honest.specs.Reading.{Map, at_word, word_in, value_in_map}
use Rattle.spi_honest.specs.Narrated.{with_message, giving, Told, IsFreeWord, TellsLine, tells_pass, shown_by_event, free_of}
use Rattle.spi_honest.specs.Schedule.{moved, line_steps}
use Rattle.spi_honest.specs.Roles.{IsRole}
use Rattle.spi_honest.specs.Standing.{AreApart, StandRoles, StoppedRoles, StoppedBut, Locates, left}
use Rattle.spi_honest.specs.Progress.{Progress}
use Rattle.spi_honest.proofs.Steps.{at_places, mid, parted, parts_takes, parts_bound, parts_stand, parts_out, parts_none, parts_length, receives, talk_takes, talk_bound, talk_stands, talk_length, received_now}
use Rattle.spi_honest.proofs.Alone.{valued_closed}
use Rattle.spi_honest.proofs.Telling.{narrates_more, replays_more}
use Rattle.spi_term.specs.Substitution.{or_unit}

-- the free name at the word after `on`
free_word : (o : Option Message) (i : ℕ) → or_unit o ≡ name i → o ≡ Some (name i)
free_word None i e = absurd cc
free_word (Some m) i e = ap Some e

one_number : {i j : ℕ} {o : Option ℕ} → o ≡ Some i → o ≡ Some j → i ≡ j
one_number {i} {j} e f = let g : Some i ≡ Some j = sym e ∙ f in cc

pub is_free : {free : Names} {g : Map} {w : Word} (i : ℕ) → number_of free w ≡ Some i → word_in g w ≡ name i → IsFreeWord free g w
is_free {g = g} {w = w} i e f = record { number = i; is = e; had = free_word (at_word g w) i f }

pub free_is : {free : Names} {g : Map} {w : Word} (i : ℕ) → number_of free w ≡ Some i → IsFreeWord free g w → word_in g w ≡ name i
free_is i e f = ap or_unit f.had ∙ ap name (one_number f.is e)

puts_channel : {m : Message} {a b : Message} → PutsOut m (send a b) → a ≡ m
puts_channel puts_out = refl

takes_channel : {m : Message} {a : Message} {u : Ty} {p : Process} → TakesIn m (recv a u p) → a ≡ m
takes_channel takes_in_once = refl

two_order : {xs : List Step} (ys : List Step) (s r : Step) {zs ws : List Step} → xs ≡ ys ++ (s ∷ r ∷ zs) → zs ≡ ws → xs ≡ ((ys ++ s ∷ []) ++ r ∷ []) ++ ws
two_order ys s r {ws = ws} e f = e ∙ ap (λ z. ys ++ (s ∷ r ∷ z)) f ∙ sym (append_assoc ys (s ∷ []) (r ∷ ws)) ∙ sym (append_assoc (ys ++ s ∷ []) (r ∷ []) ws)

-- a process at a place puts out, or takes in, on a channel
pub record PutsOrTakes (m : Message) (ps : List Process) (i : ℕ) : Type 0 where
  pub process : Process
  pub there : At ps i process
  pub puts : PutsOut m process

module _ {x : n.Narration} {file : Meant} {before rest : List n.Line} {pool : Pooled} {steps : List Step} {events : List Event} {is : List ℕ} (s : Span) (from to c : SWord) (m : t.Msg) (w : SWord) (once : AreApart x.roles) (kf : IsRole x.roles from.word) (kt : IsRole x.roles to.word) (i : ℕ) (free : number_of (free_of x) c.word ≡ Some i) (h : Progress x file before (n.pass s from to c m w ∷ rest) pool steps events is) where
  abbrev pub places : List Process
  places = pool.configuration.places

  abbrev pub k : ℕ
  k = pool.configuration.names

  abbrev pub out_place : ℕ
  out_place = h.place from.word

  abbrev pub place_then : Word → ℕ
  place_then = moved from.word (length places) h.place

  abbrev pub parted_now : List Process
  parted_now = parted once s from to c m w rest kf h.stands

  abbrev pub its_channel : Message
  its_channel = word_in (h.told.has from.word) c.word

  abbrev pub its_datum : Message
  its_datum = value_in_map (h.told.has from.word) m

  pub can_part : length before ≤ 200 → IsTaken pool (act out_place) None (record { configuration = at_places k parted_now; most = pool.most })
  can_part few =
      let z = parts_length once s from to c m w rest kf h.stands in
      record {
        takes = parts_takes once s from to c m w rest kf h.stands k;
        small = let b = ap largest (parts_bound once s from to c m w rest kf h.stands k) in omega (arith, b);
        few = omega (arith, z, h.few, h.most, few);
        most = refl;
      }

  pub parted_is : {e : Option Event} {d : Configuration} → Takes pool.configuration (act out_place) e d → (e ≡ None) × (d ≡ at_places k parted_now)
  parted_is t = takes_once t (parts_takes once s from to c m w rest kf h.stands k)

  pub out_there : At parted_now out_place (send its_channel its_datum)
  out_there = parts_out once s from to c m w rest kf h.stands

  pub stand_mid : StandRoles x.roles place_then (mid to s c w rest) h.told.has (StoppedBut out_place) parted_now
  stand_mid = parts_stand once s from to c m w rest kf h.stands

  pub none_mid : (r : SWord) → In r x.roles → place_then r.word ≡ out_place → ⊥
  none_mid = parts_none once s from to c m w rest kf h.stands

  inp_there : (u : Ty) × (p : Process) × At parted_now (place_then to.word) (recv (word_in (h.told.has to.word) c.word) u p)
  inp_there = receives once s to c w rest kt out_place its_channel its_datum stand_mid out_there none_mid (valued_closed (word_in (h.told.has from.word)) (h.stands.closed from.word) m)

  -- both have the free name
  abbrev pub BothFree : Type 0
  BothFree = (its_channel ≡ name i) × (word_in (h.told.has to.word) c.word ≡ name i)

  pub meets_free : ((p : Process) × At parted_now out_place p × PutsOut (name i) p) → ((p : Process) × At parted_now (place_then to.word) p × TakesIn (name i) p) → BothFree
  meets_free a b =
      (puts_channel (subst (λ z. PutsOut (name i) z) (at_unique a.1 out_there) a.2), takes_channel (subst (λ z. TakesIn (name i) z) (at_unique b.1 inp_there.2) b.2))

  pub free_out : BothFree → (p : Process) × At parted_now out_place p × PutsOut (name i) p
  free_out b = (send its_channel its_datum, out_there, subst (λ z. PutsOut z (send its_channel its_datum)) b.0 puts_out)

  pub free_inp : BothFree → (p : Process) × At parted_now (place_then to.word) p × TakesIn (name i) p
  free_inp b = (_, inp_there.2, subst (λ z. TakesIn z (recv (word_in (h.told.has to.word) c.word) inp_there.0 inp_there.1)) b.1 takes_in_once)

  pub pass_not_ready : (BothFree → ⊥) → (more : Map) (e : Option Event) (p : Told) → TellsLine (free_of x) h.told (n.pass s from to c m w) more e p → ⊥
  pass_not_ready never more e p (tells_pass f g) = never (free_is i free f, free_is i free g)

  module _ (both : BothFree) where
    abbrev pub now : List Process
    now = slice_set (slice_set parted_now out_place Rattle.spi_term.specs.Term.stop) (place_then to.word) (received_now once s to c w rest kt out_place its_channel its_datum stand_mid out_there none_mid (valued_closed (word_in (h.told.has from.word)) (h.stands.closed from.word) m))

    pub pass_takes : Takes (at_places k parted_now) (talk out_place (place_then to.word)) None (at_places k (now ++ []))
    pass_takes = talk_takes once s to c w rest kt out_place its_channel its_datum stand_mid out_there none_mid (valued_closed (word_in (h.told.has from.word)) (h.stands.closed from.word) m) k (both.0 ∙ sym both.1)

    abbrev pub bound_now : Map
    bound_now = with_message w its_datum ∷ []

    abbrev pub told_now : Told
    told_now = record { names = h.told.names; has = giving to.word bound_now h.told.has }

    pub pass_tells : TellsLine (free_of x) h.told (n.pass s from to c m w) bound_now None told_now
    pass_tells = tells_pass (is_free i free both.0) (is_free i free both.1)

    pub pass_size : largest (bound_by (at_places k parted_now) (talk out_place (place_then to.word))) ≡ largest (shown_by_event bound_now None)
    pass_size = ap largest (talk_bound once s to c w rest kt out_place its_channel its_datum stand_mid out_there none_mid (valued_closed (word_in (h.told.has from.word)) (h.stands.closed from.word) m) k)

    pass_stands : StandRoles x.roles place_then (left rest) (giving to.word bound_now h.told.has) StoppedRoles now
    pass_stands = talk_stands once s to c w rest kt out_place its_channel its_datum stand_mid out_there none_mid (valued_closed (word_in (h.told.has from.word)) (h.stands.closed from.word) m)

    pub now_many : length now ≡ suc (length places)
    now_many =
        talk_length once s to c w rest kt out_place its_channel its_datum stand_mid out_there none_mid (valued_closed (word_in (h.told.has from.word)) (h.stands.closed from.word) m)
        ∙ parts_length once s from to c m w rest kf h.stands

    pub pass_progress : {e e' : Option Event} {part new : Pooled} (js : List ℕ) → IsTaken pool (act out_place) e part → IsTaken part (talk out_place (place_then to.word)) e' new → Locates x.roles place_then js
        → Progress x file (before ++ n.pass s from to c m w ∷ []) rest new ((steps ++ act out_place ∷ []) ++ talk out_place (place_then to.word) ∷ []) ((events ++ option_to_list e) ++ option_to_list e') js
    pass_progress {e} {e'} {part} {new} js t t' loc =
        let u = parted_is t.takes in
        let v = takes_once (subst (λ c. Takes c (talk out_place (place_then to.word)) e' new.configuration) u.1 t'.takes) pass_takes in
        let ps : new.configuration.places ≡ now = ap (λ c. c.places) v.1 ∙ append-nil now in
        let ks : new.configuration.names ≡ k = ap (λ c. c.names) v.1 in
        let z = length-append before (n.pass s from to c m w ∷ []) in
        let many : length new.configuration.places ≡ suc (length places) = ap length ps ∙ now_many in
        let none : (events ++ option_to_list e) ++ option_to_list e' ≡ events = (λ j. (events ++ option_to_list (u.0 j)) ++ option_to_list (v.0 j)) ∙ append-nil (events ++ []) ∙ append-nil events in
        let told = narrates_more h.narrates.narrates h.narrates.small pass_tells (let b = ap (λ c. largest (bound_by c (talk out_place (place_then to.word)))) u.1 in omega (arith, pass_size, t'.small, b)) in
        record {
          cut = h.cut ∙ sym (append_assoc before (n.pass s from to c m w ∷ []) rest);
          told = told_now;
          place = place_then;
          narrates = subst (λ es. Rattle.spi_honest.specs.Narrated.NarratesSmall (free_of x) (Rattle.spi_honest.specs.Narrated.narrated_begin x) (before ++ n.pass s from to c m w ∷ []) es told_now) (append-nil events ∙ sym none) told;
          replays = replays_more (replays_more h.replays t) t';
          names = ks ∙ h.names;
          stands = subst (λ qs. StandRoles x.roles place_then (left rest) (giving to.word bound_now h.told.has) StoppedRoles qs) (sym ps) pass_stands;
          located = loc;
          order = two_order steps (act out_place) (talk out_place (place_then to.word)) h.order (ap (λ z. line_steps place_then z rest) (sym many));
          few = omega (arith, many, h.few, z);
          few_names = omega (arith, ks, h.few_names, z);
          most = t'.most ∙ t.most ∙ h.most;
        }
