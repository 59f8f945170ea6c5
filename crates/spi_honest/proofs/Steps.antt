-- The steps of lines, in a configuration where the roles stand.
use Rattle.std.proofs.Common.{◌≡◌, ℕ, suc, true, false, List, [], ◌∷◌, ◌++◌, length, slice_set, sym, ap, ◌∙◌, subst, arith, Option, None}
use Rattle.std.specs.Str.{bytes_eq}
use Rattle.std.proofs.lemmas.Slice.Eq.{bytes_eq-Decides}
use Rattle.std.proofs.lemmas.Bool.{false_from_ne_true}
use Rattle.std.proofs.lemmas.List.{length-set}
use Rattle.spi_text.specs.declared.lines.Span.{Span}
use Rattle.spi_tree.specs.declared.tree.SWord.{SWord}
use Rattle.spi_tree.specs.Trees as t
use Rattle.spi_narrate.specs.Narrations as n
use Rattle.spi_term.specs.Lists.{At, In}
use Rattle.spi_term.proofs.Lists.{at_unique, at_get}
use Rattle.spi_term.specs.Term.{Message, Ty, Process, send, recv, stop}
use Rattle.spi_term.specs.Substitution.{process_put}
use Rattle.spi_run.specs.Reduction.{Configuration, act, talk, Event, Acts, acts_par, talks_once, Takes, takes_act, takes_talk}
use Rattle.spi_replay.specs.Stepping.{largest, bound_here, handed_over, by_place, bound_by}
use Rattle.spi_scope.specs.Scope.{Word}
use Rattle.spi_weave.specs.Woven.{is_word, name_spelled, sent, received, woven_prefix, role_process}
use Rattle.spi_honest.specs.Reading.{Map, word_in, value_in_map}
use Rattle.spi_honest.specs.Narrated.{with_message, giving, Does, shown_by_event}
use Rattle.spi_honest.specs.Schedule.{moved}
use Rattle.spi_honest.specs.Holds.{Holds}
use Rattle.spi_honest.specs.Roles.{IsRole}
use Rattle.spi_honest.specs.Standing.{AreApart, StoodRole, StandRoles, StoppedRoles, StoppedBut, left}
use Rattle.spi_honest.proofs.Held.{holds_one}
use Rattle.spi_rules.proofs.Typing.{at_below, at_more}
use Rattle.spi_honest.proofs.Places.{at_set}
use Rattle.spi_honest.proofs.Alone.{does_acts, DoesSome, acts_does, given_one, one_closed}
use Rattle.spi_honest.proofs.Standing.{goes_on, forks, stops, by_words, moved_own, moved_other}

pub same_word : (v w : SWord) → v.word ≡ w.word → is_word v w ≡ true
same_word v w e = (bytes_eq-Decides v.word w.word).1 e

pub other_word : (v w : SWord) → (v.word ≡ w.word → ⊥) → is_word v w ≡ false
other_word v w d = false_from_ne_true (bytes_eq v.word w.word) (λ e. d ((bytes_eq-Decides v.word w.word).0 e))

abbrev pub at_places : ℕ → List Process → Configuration
at_places k ps = record { names = k; places = ps }

bound_at : (k : ℕ) (ps : List Process) (i : ℕ) {p : Process} → At ps i p → bound_by (at_places k ps) (act i) ≡ bound_here k p
bound_at k ps i a = ap (by_place (bound_here k)) (at_get a)

module _ {roles : List SWord} {place : Word → ℕ} {has : Word → Map} {ps : List Process} (once : AreApart roles) (s : Span) (who : SWord) (f : n.Prefix) (ls : List n.Line) (k : IsRole roles who.word) (h : StandRoles roles place (left (n.local s who f ∷ ls)) has StoppedRoles ps) where
  mine : StoodRole place (left (n.local s who f ∷ ls)) has ps k.role
  mine = h.there k.role k.is

  mine_there : At ps (place who.word) mine.process
  unfolding mine
  mine_there = subst (λ w. At ps (place w) mine.process) k.word mine.there

  mine_holds : Holds (Rattle.spi_weave.specs.Woven.prefixed s f (role_process k.role ls)) [] (word_in (has who.word)) mine.process
  unfolding mine
  mine_holds =
      subst (λ w. Holds (Rattle.spi_weave.specs.Woven.prefixed s f (role_process k.role ls)) [] (word_in (has w)) mine.process) k.word
      (subst (λ b. Holds (woven_prefix b s f (role_process k.role ls)) [] (word_in (has k.role.word)) mine.process) (same_word who k.role (sym k.word)) mine.holds)

  pub record LocalTakes (n : ℕ) (more : Map) (e : Option Event) (n' : ℕ) : Type 0 where
    pub now : Process
    pub takes : Takes (at_places n ps) (act (place who.word)) e (at_places n' (slice_set ps (place who.word) now ++ []))
    pub stands : StandRoles roles place (left ls) (giving who.word more has) StoppedRoles (slice_set ps (place who.word) now)
    pub size : largest (bound_by (at_places n ps) (act (place who.word))) ≡ largest (shown_by_event more e)

  pub local_takes : {n n' : ℕ} {more : Map} {e : Option Event} → Does n (has who.word) f more e n' → LocalTakes n more e n'
  local_takes {n} {n'} {more} {e} d =
      let a = does_acts s f (role_process k.role ls) (has who.word) mine.process (h.closed who.word) mine_holds d in
      record {
        now = a.now;
        takes = takes_act mine_there a.acts;
        stands = goes_on once who.word k (left ls) (λ q i v. sym (ap (λ b. woven_prefix b s f (role_process q ls)) (other_word who q (λ u. v (sym u))))) a.now more a.closed (λ q i v. subst (λ r. Holds (role_process r ls) [] (word_in (more ++ has who.word)) a.now) (once.once k.role q k.is i (k.word ∙ sym v)) a.holds) h;
        size = ap largest (bound_at n ps (place who.word) mine_there) ∙ a.size;
      }

  local_from : {n n' : ℕ} {p now : Process} {e : Option Event} {more : List Process} → p ≡ mine.process → Acts n p e n' now more → DoesSome n (has who.word) f e n'
  local_from {n} {n'} {now = now} {e = e} {more = more} q a = acts_does s f (role_process k.role ls) (has who.word) mine.process mine_holds (subst (λ z. Acts n z e n' now more) q a)

  pub local_back : {n : ℕ} {e : Option Event} {d : Configuration} → Takes (at_places n ps) (act (place who.word)) e d → DoesSome n (has who.word) f e d.names
  local_back (takes_act b a) = local_from (at_unique b mine_there) a

-- what a message's roles do behind the output
abbrev pub mid : SWord → Span → SWord → SWord → List n.Line → SWord → t.Proc
mid to s c x ls q = received (is_word to q) s c x (role_process q ls)

none_moved : {roles : List SWord} {place : Word → ℕ} {tree : SWord → t.Proc} {has : Word → Map} {ps : List Process} (w : Word) (k : IsRole roles w) → StandRoles roles place tree has StoppedRoles ps → (r : SWord) → In r roles → moved w (length ps) place r.word ≡ place w → ⊥
none_moved {roles} {place} {ps = ps} w k h r i e =
    by_words w r.word
    (λ u. let b = at_below (subst (λ v. At ps (place v) (h.there k.role k.is).process) k.word (h.there k.role k.is).there) in let g = sym (moved_own w (length ps) place r.word u) ∙ e in omega (arith, b, g))
    (λ d. d (sym k.word ∙ ap (λ q. q.word) (h.apart k.role r k.is i (ap place k.word ∙ sym e ∙ moved_other w (length ps) place r.word d))))

module _ {roles : List SWord} {place : Word → ℕ} {has : Word → Map} {ps : List Process} (once : AreApart roles) (s : Span) (from to c : SWord) (m : t.Msg) (x : SWord) (ls : List n.Line) (k : IsRole roles from.word) (h : StandRoles roles place (left (n.pass s from to c m x ∷ ls)) has StoppedRoles ps) where
  pub sender : StoodRole place (left (n.pass s from to c m x ∷ ls)) has ps k.role
  sender = h.there k.role k.is

  abbrev pub channel : Message
  channel = word_in (has from.word) c.word

  abbrev pub datum : Message
  datum = value_in_map (has from.word) m

  sender_there : At ps (place from.word) sender.process
  unfolding sender
  sender_there = subst (λ w. At ps (place w) sender.process) k.word sender.there

  pub sender_holds : Holds (t.out_then s (name_spelled c) m (mid to s c x ls k.role)) [] (word_in (has from.word)) sender.process
  unfolding sender
  sender_holds =
      subst (λ w. Holds (t.out_then s (name_spelled c) m (mid to s c x ls k.role)) [] (word_in (has w)) sender.process) k.word
      (subst (λ b. Holds (sent b s c m (mid to s c x ls k.role)) [] (word_in (has k.role.word)) sender.process) (same_word from k.role (sym k.word)) sender.holds)

  -- after the act, the output stands at the sender's place
  abbrev pub parted : List Process
  parted = slice_set ps (place from.word) (send channel datum) ++ sender_holds.0 ∷ []

  pub parts_takes : (n : ℕ) → Takes (at_places n ps) (act (place from.word)) None (at_places n parted)
  parts_takes n =
      takes_act sender_there (subst (λ z. Acts n z None n (send channel datum) (sender_holds.0 ∷ [])) (sym sender_holds.1) acts_par)

  pub parts_bound : (n : ℕ) → bound_by (at_places n ps) (act (place from.word)) ≡ []
  parts_bound n = bound_at n ps (place from.word) sender_there ∙ ap (bound_here n) sender_holds.1

  pub parts_stand : StandRoles roles (moved from.word (length ps) place) (mid to s c x ls) has (StoppedBut (place from.word)) parted
  parts_stand = forks once from.word k (mid to s c x ls) (λ q i v. sym (ap (λ b. sent b s c m (mid to s c x ls q)) (other_word from q (λ u. v (sym u))))) (send channel datum) sender_holds.0 (λ q i v. subst (λ r. Holds (mid to s c x ls r) [] (word_in (has from.word)) sender_holds.0) (once.once k.role q k.is i (k.word ∙ sym v)) sender_holds.2) h

  pub parts_out : At parted (place from.word) (send channel datum)
  parts_out = at_more (sender_holds.0 ∷ []) (at_set (send channel datum) sender_there)

  pub parts_none : (r : SWord) → In r roles → moved from.word (length ps) place r.word ≡ place from.word → ⊥
  parts_none = none_moved from.word k h

  pub parts_length : length parted ≡ suc (length ps)
  parts_length = let e = length-set ps (place from.word) (send channel datum) in let g = Rattle.std.proofs.Common.length-append (slice_set ps (place from.word) (send channel datum)) (sender_holds.0 ∷ []) in omega (arith, e, g)

-- the talk
module _ {roles : List SWord} {place : Word → ℕ} {has : Word → Map} {ps : List Process} (once : AreApart roles) (s : Span) (to c x : SWord) (ls : List n.Line) (k : IsRole roles to.word) (i : ℕ) (channel datum : Message) (h : StandRoles roles place (mid to s c x ls) has (StoppedBut i) ps) (out : At ps i (send channel datum)) (none : (r : SWord) → In r roles → place r.word ≡ i → ⊥) (closed : Rattle.spi_replay.specs.Holding.IsClosed datum) where
  pub receiver : StoodRole place (mid to s c x ls) has ps k.role
  receiver = h.there k.role k.is

  pub receiver_there : At ps (place to.word) receiver.process
  unfolding receiver
  receiver_there = subst (λ w. At ps (place w) receiver.process) k.word receiver.there

  pub receiver_holds : Holds (t.inp s (name_spelled c) x (t.un x.span) (role_process k.role ls)) [] (word_in (has to.word)) receiver.process
  unfolding receiver
  receiver_holds =
      subst (λ w. Holds (t.inp s (name_spelled c) x (t.un x.span) (role_process k.role ls)) [] (word_in (has w)) receiver.process) k.word
      (subst (λ b. Holds (received b s c x (role_process k.role ls)) [] (word_in (has k.role.word)) receiver.process) (same_word to k.role (sym k.word)) receiver.holds)

  pub receives : (u : Ty) × (p : Process) × At ps (place to.word) (recv (word_in (has to.word) c.word) u p)
  receives = (receiver_holds.0, receiver_holds.1, subst (λ z. At ps (place to.word) z) receiver_holds.2 receiver_there)

  abbrev pub received_now : Process
  received_now = process_put datum receiver_holds.1

  pub talk_takes : (n : ℕ) → channel ≡ word_in (has to.word) c.word → Takes (at_places n ps) (talk i (place to.word)) None (at_places n (slice_set (slice_set ps i stop) (place to.word) received_now ++ []))
  talk_takes n e = takes_talk out (subst (λ z. At ps (place to.word) z) receiver_holds.2 receiver_there) (talks_once e)

  pub talk_bound : (n : ℕ) → bound_by (at_places n ps) (talk i (place to.word)) ≡ datum ∷ []
  talk_bound n = ap (by_place handed_over) (at_get out)

  talk_own : (q : SWord) → In q roles → q.word ≡ to.word → Holds (role_process q ls) [] (word_in (with_message x datum ∷ has to.word)) received_now
  talk_own q j v =
      subst (λ r. Holds (role_process r ls) [] (word_in (with_message x datum ∷ has to.word)) received_now) (once.once k.role q k.is j (k.word ∙ sym v))
      (subst (λ g. Holds (role_process k.role ls) [] g received_now) (given_one x datum (has to.word)) (holds_one (role_process k.role ls) datum x.word (word_in (has to.word)) receiver_holds.1 (h.closed to.word) receiver_holds.3))

  pub talk_stands : StandRoles roles place (left ls) (giving to.word (with_message x datum ∷ []) has) StoppedRoles (slice_set (slice_set ps i stop) (place to.word) received_now)
  talk_stands =
      goes_on once to.word k (left ls) (λ q j v. sym (ap (λ b. received b s c x (role_process q ls)) (other_word to q (λ u. v (sym u))))) received_now (with_message x datum ∷ []) (one_closed x datum (has to.word) closed (h.closed to.word)) talk_own (stops i out none h)

  pub talk_length : length (slice_set (slice_set ps i stop) (place to.word) received_now) ≡ length ps
  talk_length = length-set (slice_set ps i stop) (place to.word) received_now ∙ length-set ps i stop
