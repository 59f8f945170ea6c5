-- What a role does by itself is the act of its process.
use Rattle.std.proofs.Common.{◌≡◌, ℕ, Bool, true, false, List, [], ◌∷◌, ◌++◌, refl, sym, ap, ◌∙◌, subst, arith, Option, Some, None}
use Rattle.std.specs.Prelude.{if◌then◌else◌}
use Rattle.std.specs.Str.{bytes_eq}
use Rattle.spi_text.specs.declared.lines.Span.{Span}
use Rattle.spi_tree.specs.declared.tree.SWord.{SWord}
use Rattle.spi_tree.specs.Trees as t
use Rattle.spi_narrate.specs.Narrations as n
use Rattle.spi_term.specs.Term.{Message, name, Ty, Process, split, select, decrypt, check, begin, end, end_many, cast, fresh}
use Rattle.spi_term.specs.Substitution.{process_put, process_put_two, or_unit}
use Rattle.spi_run.specs.Reduction.{Event, begun, ended, ended_many, Acts, acts_split, acts_select, acts_decrypt, acts_check, acts_begin, acts_end, acts_end_many, acts_cast, acts_fresh}
use Rattle.spi_replay.specs.Holding.{IsClosed}
use Rattle.spi_replay.specs.Stepping.{largest, bound_here}
use Rattle.spi_scope.specs.Scope.{Word}
use Rattle.spi_scope.specs.Meaning.{nested}
use Rattle.spi_weave.specs.Woven.{prefixed}
use Rattle.spi_honest.specs.Reading.{Map, at_word, word_in, valued, all_valued, value_in_map}
use Rattle.spi_honest.specs.Narrated.{with_message, Does, does_split, does_match, does_decrypt, does_check, does_begin, does_end, does_end_many, does_cast, does_new, shown_by_event}
use Rattle.spi_honest.specs.Holds.{with, Holds, AreClosed}
use Rattle.spi_honest.proofs.Held.{holds_one, holds_two}

-- a message that is given is one word more
given_if : (b : Bool) (a : Message) (o : Option Message) → (if b then a else or_unit o) ≡ or_unit (if b then Some a else o)
given_if true a o = refl
given_if false a o = refl

pub given_one : (x : SWord) (a : Message) (g : Map) → with x.word a (word_in g) ≡ word_in (with_message x a ∷ g)
given_one x a g = λ i w. given_if (bytes_eq x.word w) a (at_word g w) i

pub given_two : (x y : SWord) (a b : Message) (g : Map) → with y.word b (with x.word a (word_in g)) ≡ word_in (with_message y b ∷ with_message x a ∷ g)
given_two x y a b g = ap (with y.word b) (given_one x a g) ∙ given_one y b (with_message x a ∷ g)

-- values are closed
nested_closed : (m : Message) (ms : List Message) → IsClosed m → Rattle.spi_replay.specs.Holding.AllClosed ms → IsClosed (nested m ms)
nested_closed m [] c d = c
nested_closed m (x ∷ xs) c d = (c, nested_closed x xs d.0 d.1)

mutual
  pub valued_closed : (f : Word → Message) → AreClosed f → (m : t.Msg) → IsClosed (valued f m)
  valued_closed f c (t.name s w) = c.each w.word
  valued_closed f c (t.unit s) = tt
  valued_closed f c (t.tuple s a b ms) = nested_closed (valued f a) (valued f b ∷ all_valued f ms) (valued_closed f c a) (valued_closed f c b, all_valued_closed f c ms)
  valued_closed f c (t.inl s a) = valued_closed f c a
  valued_closed f c (t.inr s a) = valued_closed f c a
  valued_closed f c (t.enc s a b) = (valued_closed f c a, valued_closed f c b)
  valued_closed f c (t.hash s a) = valued_closed f c a
  valued_closed f c (t.num s i) = tt

  all_valued_closed : (f : Word → Message) → AreClosed f → (ms : t.Msgs) → Rattle.spi_replay.specs.Holding.AllClosed (all_valued f ms)
  all_valued_closed f c t.no_msgs = tt
  all_valued_closed f c (t.more_msgs m ms) = (valued_closed f c m, all_valued_closed f c ms)

closed_if : (b : Bool) (a : Message) (o : Option Message) → IsClosed a → IsClosed (or_unit o) → IsClosed (or_unit (if b then Some a else o))
closed_if true a o h c = h
closed_if false a o h c = c

pub one_closed : (x : SWord) (a : Message) (g : Map) → IsClosed a → AreClosed (word_in g) → AreClosed (word_in (with_message x a ∷ g))
one_closed x a g h c = record { each = λ w. closed_if (bytes_eq x.word w) a (at_word g w) h (c.each w) }

-- the act of a process that holds a line's form, before the process that follows
pub record Alone (k : ℕ) (g : Map) (r : Process) (rest : t.Proc) (more : Map) (e : Option Event) (k' : ℕ) : Type 0 where
  pub now : Process
  pub acts : Acts k r e k' now []
  pub holds : Holds rest [] (word_in (more ++ g)) now
  pub closed : AreClosed (word_in (more ++ g))
  pub size : largest (bound_here k r) ≡ largest (shown_by_event more e)

alone_at : {k : ℕ} {g : Map} {r r' : Process} {rest : t.Proc} {more : Map} {e : Option Event} {k' : ℕ} → r ≡ r' → Alone k g r' rest more e k' → Alone k g r rest more e k'
alone_at {k} {g} {rest = rest} {more = more} {e = e} {k' = k'} q h = subst (λ z. Alone k g z rest more e k') (sym q) h

binds_one : {k : ℕ} {g : Map} {r : Process} {rest : t.Proc} (x : SWord) (a : Message) (p : Process) {k' : ℕ} → AreClosed (word_in g) → IsClosed a → Acts k r None k' (process_put a p) [] → Holds rest (x.word ∷ []) (word_in g) p → largest (bound_here k r) ≡ largest (a ∷ []) → Alone k g r rest (with_message x a ∷ []) None k'
binds_one {k} {g} {r} {rest} x a p c h acts hold size = record {
  now = process_put a p;
  acts = acts;
  holds = subst (λ f. Holds rest [] f (process_put a p)) (given_one x a g) (holds_one rest a x.word (word_in g) p c hold);
  closed = one_closed x a g h c;
  size = size;
}

pub does_acts : {k k' : ℕ} {more : Map} {e : Option Event} (s : Span) (f : n.Prefix) (rest : t.Proc) (g : Map) (r : Process) → AreClosed (word_in g) → Holds (prefixed s f rest) [] (word_in g) r → Does k g f more e k' → Alone k g r rest more e k'
does_acts s (n.split z m x t y u) rest g r c h (does_split {a = a} {b = b} v) =
    let w = subst IsClosed v (valued_closed (word_in g) c m) in
    alone_at (h.3 ∙ ap (λ z. split z h.0 h.1 h.2) v) (record {
      now = process_put_two a b h.2;
      acts = acts_split;
      holds = subst (λ f. Holds rest [] f (process_put_two a b h.2)) (given_two x y a b g) (holds_two rest a b x.word y.word (word_in g) h.2 c w.0 h.4);
      closed = one_closed y b (with_message x a ∷ g) w.1 (one_closed x a g w.0 c);
      size = omega arith;
    })
does_acts s (n.match z m x t l y u) rest g r c h (does_match {a = a} {b = b} v q) =
    let w = subst IsClosed v (valued_closed (word_in g) c m) in
    alone_at (h.3 ∙ ap (λ z. select z h.0 (value_in_map g l) h.1 h.2) v) (binds_one y b h.2 c w.1 (acts_select q) h.4 refl)
does_acts s (n.decrypt z m x t l) rest g r c h (does_decrypt {a = a} {b = b} v q) =
    let w = subst IsClosed v (valued_closed (word_in g) c m) in
    alone_at (h.2 ∙ ap (λ z. decrypt z h.0 (value_in_map g l) h.1) v) (binds_one x a h.1 c w.0 (acts_decrypt q) h.3 refl)
does_acts s (n.check z m l) rest g r c h (does_check v) = alone_at h.1 (record { now = h.0; acts = acts_check v; holds = h.2; closed = c; size = refl })
does_acts s (n.begin z m) rest g r c h does_begin = alone_at h.1 (record { now = h.0; acts = acts_begin; holds = h.2; closed = c; size = refl })
does_acts s (n.end z m) rest g r c h does_end = alone_at h.1 (record { now = h.0; acts = acts_end; holds = h.2; closed = c; size = refl })
does_acts s (n.end_many z m) rest g r c h does_end_many = alone_at h.1 (record { now = h.0; acts = acts_end_many; holds = h.2; closed = c; size = refl })
does_acts s (n.cast z m x t) rest g r c h does_cast = alone_at h.2 (binds_one x (value_in_map g m) h.1 c (valued_closed (word_in g) c m) acts_cast h.3 refl)
does_acts {k} s (n.new z x t) rest g r c h does_new = alone_at h.2 (binds_one x (name k) h.1 c tt acts_fresh h.3 refl)

-- and the other way
pub record DoesSome (k : ℕ) (g : Map) (f : n.Prefix) (e : Option Event) (k' : ℕ) : Type 0 where
  pub more : Map
  pub does : Does k g f more e k'

split_does : {k k' : ℕ} {e : Option Event} {g : Map} {now : Process} {ps : List Process} {z : Span} {m : t.Msg} {x y : SWord} {b c : t.Ty} (v : Message) {t u : Ty} {p : Process} → value_in_map g m ≡ v → Acts k (split v t u p) e k' now ps → DoesSome k g (n.split z m x b y c) e k'
split_does v q acts_split = record { more = _; does = does_split q }

match_does : {k k' : ℕ} {e : Option Event} {g : Map} {now : Process} {ps : List Process} {z : Span} {m l : t.Msg} {x y : SWord} {b c : t.Ty} (v w : Message) {t u : Ty} {p : Process} → value_in_map g m ≡ v → value_in_map g l ≡ w → Acts k (select v t w u p) e k' now ps → DoesSome k g (n.match z m x b l y c) e k'
match_does v w q r (acts_select f) = record { more = _; does = does_match q (f ∙ sym r) }

decrypt_does : {k k' : ℕ} {e : Option Event} {g : Map} {now : Process} {ps : List Process} {z : Span} {m l : t.Msg} {x : SWord} {b : t.Ty} (v w : Message) {t : Ty} {p : Process} → value_in_map g m ≡ v → value_in_map g l ≡ w → Acts k (decrypt v t w p) e k' now ps → DoesSome k g (n.decrypt z m x b l) e k'
decrypt_does v w q r (acts_decrypt f) = record { more = _; does = does_decrypt q (f ∙ sym r) }

check_does : {k k' : ℕ} {e : Option Event} {g : Map} {now : Process} {ps : List Process} {z : Span} {m l : t.Msg} (v w : Message) {p : Process} → value_in_map g m ≡ v → value_in_map g l ≡ w → Acts k (check v w p) e k' now ps → DoesSome k g (n.check z m l) e k'
check_does v w q r (acts_check f) = record { more = _; does = does_check (q ∙ f ∙ sym r) }

shown_as : {k : ℕ} {g : Map} {f : n.Prefix} {e e' : Option Event} → e ≡ e' → DoesSome k g f e k → DoesSome k g f e' k
shown_as {k} {g} {f} q d = subst (λ e. DoesSome k g f e k) q d

begin_does : {k k' : ℕ} {e : Option Event} {g : Map} {now : Process} {ps : List Process} {z : Span} {m : t.Msg} (v : Message) {p : Process} → value_in_map g m ≡ v → Acts k (begin v p) e k' now ps → DoesSome k g (n.begin z m) e k'
begin_does v q acts_begin = shown_as (ap (λ x. Some (begun x)) q) (record { more = _; does = does_begin })

end_does : {k k' : ℕ} {e : Option Event} {g : Map} {now : Process} {ps : List Process} {z : Span} {m : t.Msg} (v : Message) {p : Process} → value_in_map g m ≡ v → Acts k (end v p) e k' now ps → DoesSome k g (n.end z m) e k'
end_does v q acts_end = shown_as (ap (λ x. Some (ended x)) q) (record { more = _; does = does_end })

end_many_does : {k k' : ℕ} {e : Option Event} {g : Map} {now : Process} {ps : List Process} {z : Span} {m : t.Msg} (v : Message) {p : Process} → value_in_map g m ≡ v → Acts k (end_many v p) e k' now ps → DoesSome k g (n.end_many z m) e k'
end_many_does v q acts_end_many = shown_as (ap (λ x. Some (ended_many x)) q) (record { more = _; does = does_end_many })

cast_does : {k k' : ℕ} {e : Option Event} {g : Map} {z : Span} {m : t.Msg} {x : SWord} {b : t.Ty} (v : Message) {t : Ty} {p : Process} {now : Process} {ps : List Process} → Acts k (cast v t p) e k' now ps → DoesSome k g (n.cast z m x b) e k'
cast_does v acts_cast = record { more = _; does = does_cast }

new_does : {k k' : ℕ} {e : Option Event} {g : Map} {z : Span} {x : SWord} {b : t.Ty} {t : Ty} {p : Process} {now : Process} {ps : List Process} → Acts k (fresh t p) e k' now ps → DoesSome k g (n.new z x b) e k'
new_does acts_fresh = record { more = _; does = does_new }

acts_as : {k k' : ℕ} {e : Option Event} {r r' now : Process} {ps : List Process} → r ≡ r' → Acts k r e k' now ps → Acts k r' e k' now ps
acts_as {k} {k'} {e} {now = now} {ps = ps} q a = subst (λ z. Acts k z e k' now ps) q a

pub acts_does : {k k' : ℕ} {e : Option Event} {now : Process} {ps : List Process} (s : Span) (f : n.Prefix) (rest : t.Proc) (g : Map) (r : Process) → Holds (prefixed s f rest) [] (word_in g) r → Acts k r e k' now ps → DoesSome k g f e k'
acts_does s (n.split z m x t y u) rest g r h a = split_does (value_in_map g m) refl (acts_as h.3 a)
acts_does s (n.match z m x t l y u) rest g r h a = match_does (value_in_map g m) (value_in_map g l) refl refl (acts_as h.3 a)
acts_does s (n.decrypt z m x t l) rest g r h a = decrypt_does (value_in_map g m) (value_in_map g l) refl refl (acts_as h.2 a)
acts_does s (n.check z m l) rest g r h a = check_does (value_in_map g m) (value_in_map g l) refl refl (acts_as h.1 a)
acts_does s (n.begin z m) rest g r h a = begin_does (value_in_map g m) refl (acts_as h.1 a)
acts_does s (n.end z m) rest g r h a = end_does (value_in_map g m) refl (acts_as h.1 a)
acts_does s (n.end_many z m) rest g r h a = end_many_does (value_in_map g m) refl (acts_as h.1 a)
acts_does s (n.cast z m x t) rest g r h a = cast_does (value_in_map g m) (acts_as h.2 a)
acts_does s (n.new z x t) rest g r h a = new_does (acts_as h.2 a)
