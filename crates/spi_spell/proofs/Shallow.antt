-- A tree within the nesting limits in which nothing is wrong stands for a process whose typings fit.
use Rattle.std.proofs.Common.{◌≡◌, ℕ, suc, ◌+◌, ◌-◌, ◌≤◌, Bool, false, List, [], ◌∷◌, ◌++◌, length, inl, inr, sym, ◌∙◌, arith, Option, Some, None}
use Rattle.std.specs.Prelude.{nat_lt, if◌then◌else◌}
use Rattle.std.proofs.lemmas.Bool.{cases_Bool, cond-true, ltb-false}
use Rattle.spi_text.specs.declared.lines.Span.{Span}
use Rattle.spi_tree.specs.declared.tree.SWord.{SWord}
use Rattle.spi_tree.specs.Trees as t
use Rattle.spi_tree.specs.Pieces.{Piece, Place, in_seq, at_level, nesting_of, level_of, below, beside_place, proc_pieces}
use Rattle.spi_tree.specs.Formed.{IsMsg, AreMsgs, IsProc}
use Rattle.spi_parse.specs.Exact.{IsWithin}
use Rattle.spi_term.specs.Term.{Message, Process, leaf, prefix, fork, message_size}
use Rattle.spi_term.proofs.Sizes.{some_message}
use Rattle.spi_scope.specs.declared.fault.ScopeFault.{ScopeFault}
use Rattle.spi_scope.specs.Scope.{Names, number_of, Abbreviations}
use Rattle.spi_scope.specs.Meaning.{name_meant, nested, message_in, messages_in, process_in}
use Rattle.spi_scope.specs.Points.{Point, uses_name, uses_type, declares_name, declares_type, ends_message, ends_type, adds, starts_step, Points, none, one, ◌⨾◌, in_order, fault_at, added, msg_nodes, part, message_head, messages_head, typed_head, tested_head, split_head, match_head, process_points}
use Rattle.spi_scope.specs.First.{Clean}
use Rattle.spi_scope.proofs.Sizes.{message_sized}
use Rattle.spi_spell.proofs.Fitting.{MessageFitsIn, FitsNesting, bound_put}
use Rattle.spi_spell.proofs.Past.{past_msg, past_named, past_binder, past_proc}

-- ---- no message is too large

abbrev IsSmallPoint : Point → Type 0
IsSmallPoint (uses_name xs w) = Unit {0}
IsSmallPoint (uses_type ts w) = Unit {0}
IsSmallPoint (declares_name xs w) = Unit {0}
IsSmallPoint (declares_type ts w) = Unit {0}
IsSmallPoint (ends_message n s) = n ≤ 200
IsSmallPoint (ends_type n s) = Unit {0}
IsSmallPoint (adds n s) = Unit {0}
IsSmallPoint (starts_step i n s) = Unit {0}

abbrev pub ArePointsSmall : Points → Type 0
ArePointsSmall none = Unit {0}
ArePointsSmall (one p) = IsSmallPoint p
ArePointsSmall (ps ⨾ qs) = ArePointsSmall ps × ArePointsSmall qs

small_size : (n : ℕ) (f : ScopeFault) → (if nat_lt 200 n then Some f else None) ≡ None → n ≤ 200
small_size n f h = elim (cases_Bool (nat_lt 200 n)) [
  | inl over ↦ (let z : Some f ≡ None = sym (cond-true (nat_lt 200 n) (Some f) None over) ∙ h in absurd cc)
  | inr within ↦ ltb-false 200 n within
]

small_point : (p : Point) (c : ℕ) → fault_at c p ≡ None → IsSmallPoint p
small_point (uses_name xs w) c h = tt
small_point (uses_type ts w) c h = tt
small_point (declares_name xs w) c h = tt
small_point (declares_type ts w) c h = tt
small_point (ends_message n s) c h = small_size n _ h
small_point (ends_type n s) c h = tt
small_point (adds n s) c h = tt
small_point (starts_step i n s) c h = tt

pub clean_front : (ps qs : List Point) (c : ℕ) → Clean c (ps ++ qs) → Clean c ps
clean_front [] qs c h = tt
clean_front (p ∷ ps) qs c h = (h.0, clean_front ps qs (c + added p) h.1)

pub clean_back : (ps qs : List Point) (c : ℕ) → Clean c (ps ++ qs) → (d : ℕ) × Clean d qs
clean_back [] qs c h = (c, h)
clean_back (p ∷ ps) qs c h = clean_back ps qs (c + added p) h.1

pub small : (ps : Points) (c : ℕ) → Clean c (in_order ps) → ArePointsSmall ps
small none c h = tt
small (one p) c h = small_point p c h.0
small (ps ⨾ qs) c h =
    let k = clean_back (in_order ps) (in_order qs) c h in
    (small ps c (clean_front (in_order ps) (in_order qs) c h), small qs k.0 k.1)

part_small : (xs : Names) (m : t.Msg) → ArePointsSmall (part xs m) → msg_nodes xs m ≤ 200
unfolding part
part_small xs m h = h.0.1

message_small : (xs : Names) (s : Span) (m : t.Msg) → ArePointsSmall (message_head xs s m) → msg_nodes xs m ≤ 200
unfolding message_head
message_small xs s m h = part_small xs m h.1

messages_small : (xs : Names) (s : Span) (m n : t.Msg) → ArePointsSmall (messages_head xs s m n) → (msg_nodes xs m ≤ 200) × (msg_nodes xs n ≤ 200)
unfolding messages_head
messages_small xs s m n h = (part_small xs m h.1.0, part_small xs n h.1.1)

typed_small : (ts : Abbreviations) (xs : Names) (s : Span) (m : t.Msg) (a : t.Ty) → ArePointsSmall (typed_head ts xs s m a) → msg_nodes xs m ≤ 200
unfolding typed_head
typed_small ts xs s m a h = part_small xs m h.1.0

tested_small : (ts : Abbreviations) (xs : Names) (s : Span) (m : t.Msg) (a : t.Ty) (n : t.Msg) → ArePointsSmall (tested_head ts xs s m a n) → (msg_nodes xs m ≤ 200) × (msg_nodes xs n ≤ 200)
unfolding tested_head
tested_small ts xs s m a n h = (part_small xs m h.1.0, part_small xs n h.1.1.1)

split_small : (ts : Abbreviations) (xs : Names) (s : Span) (m : t.Msg) (x : SWord) (a c : t.Ty) → ArePointsSmall (split_head ts xs s m x a c) → msg_nodes xs m ≤ 200
unfolding split_head
split_small ts xs s m x a c h = part_small xs m h.1.0

match_small : (ts : Abbreviations) (xs : Names) (s : Span) (m : t.Msg) (x : SWord) (a : t.Ty) (n : t.Msg) (c : t.Ty) → ArePointsSmall (match_head ts xs s m x a n c) → (msg_nodes xs m ≤ 200) × (msg_nodes xs n ≤ 200)
unfolding match_head
match_small ts xs s m x a n c h = tested_small ts xs s m a n h.0

-- ---- messages

name_fits : (later : Bool) (n k s : ℕ) (o : Option ℕ) → n ≤ 1000 → MessageFitsIn later n (name_meant k s o)
name_fits later n k s None h = h
name_fits later n k s (Some x) h = bound_put later n x (s - suc x) (nat_lt x k) h

module _ (later : Bool) (k : ℕ) (xs : Names) where
  mutual
    msg_fits : (m : t.Msg) (n : ℕ) → IsMsg later false m → n + message_size (message_in k xs m) ≤ 1001 → MessageFitsIn later n (message_in k xs m)
    msg_fits (t.name s w) n h low = (let some = some_message (name_meant k (length xs) (number_of xs w.word)) in name_fits later n k (length xs) (number_of xs w.word) (omega arith))
    msg_fits (t.unit s) n h low = omega arith
    msg_fits (t.tuple s a b ms) n h low =
        (omega arith, msg_fits a (n + 1) h.0 (omega arith), row_fits (message_in k xs b) ms (λ i q. msg_fits b i h.1 q) (n + 1) h.2 (omega arith))
    msg_fits (t.inl s a) n h low = (omega arith, msg_fits a (n + 1) h (omega arith))
    msg_fits (t.inr s a) n h low = (omega arith, msg_fits a (n + 1) h (omega arith))
    msg_fits (t.enc s a b) n h low = (omega arith, msg_fits a (n + 1) h.0 (omega arith), msg_fits b (n + 1) h.1 (omega arith))
    msg_fits (t.hash s a) n h low = (omega arith, h.0)
    msg_fits (t.num s i) n h low = absurd cc

    row_fits : (first : Message) (ms : t.Msgs) → ((i : ℕ) → i + message_size first ≤ 1001 → MessageFitsIn later i first) → (n : ℕ) → AreMsgs later false ms
        → n + message_size (nested first (messages_in k xs ms)) ≤ 1001 → MessageFitsIn later n (nested first (messages_in k xs ms))
    row_fits first t.no_msgs f n h low = f n low
    row_fits first (t.more_msgs m ms) f n h low = (omega arith, f (n + 1) (omega arith), row_fits (message_in k xs m) ms (λ i q. msg_fits m i h.0 q) (n + 1) h.1 (omega arith))

  whole_fits : (m : t.Msg) (n : ℕ) → IsMsg later false m → msg_nodes xs m ≤ 200 → n ≤ 700 → MessageFitsIn later n (message_in k xs m)
  whole_fits m n h few low = (let same = message_sized k xs m in msg_fits m n h (omega arith))

-- ---- processes

level_low : (a : Place) → level_of a ≤ nesting_of a
level_low (in_seq n) = omega arith
level_low (at_level n) = omega arith

low_root : (later : Bool) (n : ℕ) (p : Process) → FitsNesting later n p → n ≤ 1000
low_root later n (leaf l) h = h.0
low_root later n (prefix s p) h = h.0
low_root later n (fork f p q) h = h.0

-- where a form stands, and how deep a rule for it
record IsHere (a : Place) (n : ℕ) : Type 0 where
  pub low : n ≤ 501
  pub on : n + 1 ≤ nesting_of a + 1 + 1

here : (a : Place) (n : ℕ) → nat_lt 500 (nesting_of a) ≡ false → n ≤ level_of a + 1 → IsHere a n
here a n within most = (let k = ltb-false 500 (nesting_of a) within in let l = level_low a in record { low = omega arith; on = omega arith })

module _ (later : Bool) (b : ℕ → ℕ) (ts : Abbreviations) where
  pub proc_fits : (xs : Names) (p : t.Proc) (a : Place) (r : List Piece) (n : ℕ) → IsProc later a p → IsWithin (proc_pieces a p r) → ArePointsSmall (process_points ts xs p) → n ≤ level_of a + 1
      → FitsNesting later n (process_in b ts xs p)
  proc_fits xs (t.par s p q) (in_seq l) r n f w few low = absurd f
  proc_fits xs (t.par s p q) (at_level l) r n f w few low =
      let first = proc_fits xs p (in_seq (l + 1)) _ (n + 1) f.0 w few.0 (omega arith) in
      let rest = proc_fits xs q (at_level (l + 1)) _ (n + 1) f.1 (past_proc (in_seq (l + 1)) p _ w).1 few.1.1 (omega arith) in
      let root = low_root later (n + 1) (process_in b ts xs p) first in
      (omega arith, tt, first, rest)
  proc_fits xs (t.out s m k) a r n f w few low =
      let i = here a n w.0 low in let at = i.low in
      let sizes = messages_small xs s m k few in
      (omega arith, (whole_fits later (b (length xs)) xs m (n + 1) f.0 sizes.0 (omega arith), whole_fits later (b (length xs)) xs k (n + 1) f.1 sizes.1 (omega arith)))
  proc_fits xs (t.out_then s m k p) a r n f w few low =
      let i = here a n w.0 low in let at = i.low in
      let sizes = messages_small xs s m k few.0 in
      let body = proc_fits xs p (below a) _ (n + 1) f.2 (past_msg k _ (past_msg m _ w.1)).1 few.1.1 i.on in
      (omega arith, tt, (omega arith, (whole_fits later (b (length xs)) xs m (n + 1 + 1) f.0 sizes.0 (omega arith), whole_fits later (b (length xs)) xs k (n + 1 + 1) f.1 sizes.1 (omega arith))), body)
  proc_fits xs (t.inp s m x c p) a r n f w few low =
      let i = here a n w.0 low in let at = i.low in
      let body = proc_fits (x.word ∷ xs) p (below a) _ (n + 1) f.2 (past_binder x c _ (past_msg m _ w.1)) few.1 i.on in
      (omega arith, whole_fits later (b (length xs)) xs m (n + 1) f.0 (typed_small ts xs s m c few.0) (omega arith), body)
  proc_fits xs (t.repeat s m x c p) a r n f w few low =
      let i = here a n w.0 low in let at = i.low in
      let body = proc_fits (x.word ∷ xs) p (below a) _ (n + 1) f.2 (past_binder x c _ (past_msg m _ w.1.1)) few.1 i.on in
      (omega arith, whole_fits later (b (length xs)) xs m (n + 1) f.0 (typed_small ts xs s m c few.0) (omega arith), body)
  proc_fits xs (t.split s m x c y d p) a r n f w few low =
      let i = here a n w.0 low in let at = i.low in
      let behind = past_named y d _ (past_named x c _ (past_msg m _ w.1).1.1).1 in
      let body = proc_fits (y.word ∷ x.word ∷ xs) p (below a) _ (n + 1) f.3 behind.1.1 few.1 i.on in
      (omega arith, whole_fits later (b (length xs)) xs m (n + 1) f.0 (split_small ts xs s m x c d few.0) (omega arith), body)
  proc_fits xs (t.match s m x c k y d p) a r n f w few low =
      let i = here a n w.0 low in let at = i.low in
      let sizes = match_small ts xs s m x c k d few.0 in
      let behind = past_named y d _ (past_msg k _ (past_named x c _ (past_msg m _ w.1).1.1).1).1 in
      let body = proc_fits (y.word ∷ xs) p (below a) _ (n + 1) f.4 behind.1.1 few.1 i.on in
      (omega arith, (whole_fits later (b (length xs)) xs m (n + 1) f.0 sizes.0 (omega arith), whole_fits later (b (length xs)) xs k (n + 1) f.2 sizes.1 (omega arith)), body)
  proc_fits xs (t.case s m x c p y d q) a r n f w few low =
      let i = here a n w.0 low in let at = i.low in
      let left = past_binder x c _ (past_msg m _ w.1).1.1 in
      let right = past_binder y d _ (past_proc (below a) p _ left).1.1 in
      let first = proc_fits (x.word ∷ xs) p (below a) _ (n + 1) f.2 left few.1.0 i.on in
      let rest = proc_fits (y.word ∷ xs) q (below a) _ (n + 1) f.4 right few.1.1.1 i.on in
      (omega arith, whole_fits later (b (length xs)) xs m (n + 1) f.0 (typed_small ts xs s m c few.0) (omega arith), first, rest)
  proc_fits xs (t.decrypt s m x c k p) a r n f w few low =
      let i = here a n w.0 low in let at = i.low in
      let sizes = tested_small ts xs s m c k few.0 in
      let behind = past_msg k _ (past_named x c _ (past_msg m _ w.1).1.1).1 in
      let body = proc_fits (x.word ∷ xs) p (below a) _ (n + 1) f.3 behind.1 few.1 i.on in
      (omega arith, (whole_fits later (b (length xs)) xs m (n + 1) f.0 sizes.0 (omega arith), whole_fits later (b (length xs)) xs k (n + 1) f.2 sizes.1 (omega arith)), body)
  proc_fits xs (t.check s m k p) a r n f w few low =
      let i = here a n w.0 low in let at = i.low in
      let sizes = messages_small xs s m k few.0 in
      let body = proc_fits xs p (below a) _ (n + 1) f.2 (past_msg k _ (past_msg m _ w.1).1).1 few.1 i.on in
      (omega arith, (whole_fits later (b (length xs)) xs m (n + 1) f.0 sizes.0 (omega arith), whole_fits later (b (length xs)) xs k (n + 1) f.1 sizes.1 (omega arith)), body)
  proc_fits xs (t.begin s m p) a r n f w few low =
      let i = here a n w.0 low in let at = i.low in
      (omega arith, tt, proc_fits xs p (below a) _ (n + 1) f.1 (past_msg m _ w.1).1 few.1 i.on)
  proc_fits xs (t.end s m p) a r n f w few low =
      let i = here a n w.0 low in let at = i.low in
      (omega arith, tt, proc_fits xs p (below a) _ (n + 1) f.1 (past_msg m _ w.1).1 few.1 i.on)
  proc_fits xs (t.end_many s m p) a r n f w few low =
      let i = here a n w.0 low in let at = i.low in
      (omega arith, f.0, proc_fits xs p (below a) _ (n + 1) f.2 (past_msg m _ w.1).1 few.1 i.on)
  proc_fits xs (t.cast s m x c p) a r n f w few low =
      let i = here a n w.0 low in let at = i.low in
      let body = proc_fits (x.word ∷ xs) p (below a) _ (n + 1) f.2 (past_binder x c _ (past_msg m _ w.1).1) few.1 i.on in
      (omega arith, whole_fits later (b (length xs)) xs m (n + 1) f.0 (typed_small ts xs s m c few.0) (omega arith), body)
  proc_fits xs (t.new s x c p) a r n f w few low =
      let i = here a n w.0 low in let at = i.low in
      (omega arith, tt, proc_fits (x.word ∷ xs) p (below a) _ (n + 1) f.1 (past_binder x c _ w.1) few.1 i.on)
  proc_fits xs (t.stop s) a r n f w few low = (let i = here a n w.0 low in let at = i.low in (omega arith, tt))
  proc_fits xs (t.group s p q) a r n f w few low =
      let i = here a n w.0 low in let at = i.low in
      let first = proc_fits xs p (below a) _ (n + 1) f.0 w.1 few.0 i.on in
      let rest = proc_fits xs q (beside_place a) _ (n + 1) f.1 (past_proc (below a) p _ w.1).1 few.1.1 i.on in
      (omega arith, tt, first, rest)
