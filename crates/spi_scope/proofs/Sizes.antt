-- Counts of nodes, and what is wrong where they are tested.
use Rattle.std.proofs.Common.{◌≡◌, ℕ, suc, ◌+◌, ◌-◌, ◌<◌, ◌≤◌, List, [], ◌∷◌, length, Bool, true, false, refl, sym, ap, ◌∙◌, arith, add-zero, inl, inr}
use Rattle.std.specs.Prelude.{◌⊎◌, Option, Some, None, Ok, Err, nat_lt, if◌then◌else◌}
use Rattle.std.proofs.lemmas.Bool.{lt-ltb, le-ltb}
use Rattle.spi_text.specs.declared.lines.Span.{Span}
use Rattle.spi_tree.specs.declared.tree.SWord.{SWord}
use Rattle.spi_tree.specs.Trees as t
use Rattle.spi_term.specs.Term.{name, bound, message_size}
use Rattle.spi_term.specs.Spelling.{atom_nodes, effect_nodes, ty_nodes, stopped}
use Rattle.spi_scope.specs.declared.fault.ScopeFault.{ScopeFault}
use Rattle.spi_scope.specs.declared.fault.ScopeFault.TheVariants.{NoMemory as OutOfMemory, UnknownName, MessageTooLarge, TypeTooLarge, FileTooLarge, ScheduleTooLong}
use Rattle.spi_scope.specs.Scope.{Names, number_of, Abbreviations}
use Rattle.spi_scope.specs.Meaning.{name_meant, message_in, messages_in, atom_in, effect_in, type_in, fields_in, last_in, behind}
use Rattle.spi_scope.specs.Points.{msg_nodes, type_nodes, fault_at, uses_name, ends_message, ends_type, adds, starts_step, one, part, whole_type}
use Rattle.spi_scope.specs.Gives.{Ran, FailsWith, after, unless, run}
use Rattle.spi_scope.specs.State.{row_nodes, type_row_nodes}
use Rattle.spi_scope.proofs.Tuples.{nested_nodes, nested_types_nodes}

-- a name is one node
pub name_size : (k s : ℕ) (o : Option ℕ) → message_size (name_meant k s o) ≡ 1
name_size k s None = refl
name_size k s (Some x) = by (nat_lt x k)
  where
    by : (b : Bool) → message_size (if b then name x else bound (s - suc x)) ≡ 1
    by true = refl
    by false = refl

named_size : (k l s : ℕ) (o : Option ℕ) → message_size (name_meant k s o) ≡ message_size (name_meant l s o)
named_size k l s o = name_size k s o ∙ sym (name_size l s o)

mutual
  any_base : (k l : ℕ) (xs : Names) (m : t.Msg) → message_size (message_in k xs m) ≡ message_size (message_in l xs m)
  any_base k l xs (t.name s w) = named_size k l (length xs) (number_of xs w.word)
  any_base k l xs (t.unit s) = refl
  any_base k l xs (t.tuple s a b ms) =
      nested_nodes (message_in k xs a) (message_in k xs b ∷ messages_in k xs ms)
      ∙ omega (arith, any_base k l xs a, any_base k l xs b, any_bases k l xs ms)
      ∙ sym (nested_nodes (message_in l xs a) (message_in l xs b ∷ messages_in l xs ms))
  any_base k l xs (t.inl s a) = omega (arith, any_base k l xs a)
  any_base k l xs (t.inr s a) = omega (arith, any_base k l xs a)
  any_base k l xs (t.enc s a b) = omega (arith, any_base k l xs a, any_base k l xs b)
  any_base k l xs (t.hash s a) = omega (arith, any_base k l xs a)
  any_base k l xs (t.num s i) = refl

  any_bases : (k l : ℕ) (xs : Names) (ms : t.Msgs) → row_nodes (messages_in k xs ms) ≡ row_nodes (messages_in l xs ms)
  any_bases k l xs t.no_msgs = refl
  any_bases k l xs (t.more_msgs m ms) = omega (arith, any_base k l xs m, any_bases k l xs ms)

pub message_sized : (k : ℕ) (xs : Names) (m : t.Msg) → message_size (message_in k xs m) ≡ msg_nodes xs m
message_sized k xs m = any_base k 0 xs m

atom_alike : (k l : ℕ) (xs : Names) (a : t.Atom) → atom_nodes (atom_in k xs a) ≡ atom_nodes (atom_in l xs a)
atom_alike k l xs (t.ends s m) = omega (arith, any_base k l xs m)
atom_alike k l xs (t.checks s m) = omega (arith, any_base k l xs m)
atom_alike k l xs (t.many s m) = omega (arith, any_base k l xs m)

effect_alike : (k l : ℕ) (xs : Names) (es : List t.Atom) → effect_nodes (effect_in k xs es) ≡ effect_nodes (effect_in l xs es)
effect_alike k l xs [] = refl
effect_alike k l xs (a ∷ es) = omega (arith, atom_alike k l xs a, effect_alike k l xs es)

mutual
  any_type : (k l : ℕ) (ts : Abbreviations) (xs : Names) (a : t.Ty) → ty_nodes (type_in k ts xs a) ≡ ty_nodes (type_in l ts xs a)
  any_type k l ts xs (t.un s) = refl
  any_type k l ts xs (t.unit_ty s) = refl
  any_type k l ts xs (t.tuple_ty s w a fs z) =
      let ys = w.word ∷ xs in
      nested_types_nodes (type_in k ts xs a ∷ fields_in k ts ys fs) (last_in k ts (behind ys fs) z)
      ∙ omega (arith, any_type k l ts xs a, any_fields k l ts ys fs, any_last k l ts (behind ys fs) z)
      ∙ sym (nested_types_nodes (type_in l ts xs a ∷ fields_in l ts ys fs) (last_in l ts (behind ys fs) z))
  any_type k l ts xs (t.sum s a b) = omega (arith, any_type k l ts xs a, any_type k l ts xs b)
  any_type k l ts xs (t.key s a) = omega (arith, any_type k l ts xs a)
  any_type k l ts xs (t.nonce s es) = omega (arith, effect_alike k l xs es)
  any_type k l ts xs (t.abbr s w) = refl

  any_fields : (k l : ℕ) (ts : Abbreviations) (xs : Names) (fs : t.Fields) → type_row_nodes (fields_in k ts xs fs) ≡ type_row_nodes (fields_in l ts xs fs)
  any_fields k l ts xs t.no_fields = refl
  any_fields k l ts xs (t.more_fields w a fs) = omega (arith, any_type k l ts xs a, any_fields k l ts (w.word ∷ xs) fs)

  any_last : (k l : ℕ) (ts : Abbreviations) (xs : Names) (z : t.Last) → ty_nodes (last_in k ts xs z) ≡ ty_nodes (last_in l ts xs z)
  any_last k l ts xs (t.bare a) = any_type k l ts xs a
  any_last k l ts xs (t.named w a) = any_type k l ts xs a

pub type_sized : (k : ℕ) (ts : Abbreviations) (xs : Names) (a : t.Ty) → ty_nodes (type_in k ts xs a) ≡ type_nodes ts xs a
type_sized k ts xs a = any_type k 0 ts xs a

-- what comes of the tests
pub small_message : (c n : ℕ) (s : Span) → n ≤ 200 → unless (fault_at c (ends_message n s)) (c + 0) ≡ Ok c
small_message c n s h = ap (λ b. unless (if b then Some (MessageTooLarge s (stopped n)) else None) (c + 0)) (le-ltb 200 n h) ∙ ap (λ d. Ok d) (add-zero c)

pub large_message : (c n : ℕ) (s : Span) → 200 < n → unless (fault_at c (ends_message n s)) (c + 0) ≡ Err (MessageTooLarge s (stopped n))
large_message c n s h = ap (λ b. unless (if b then Some (MessageTooLarge s (stopped n)) else None) (c + 0)) (lt-ltb 200 n h)

pub small_type : (c n : ℕ) (s : Span) → n ≤ 1000 → unless (fault_at c (ends_type n s)) (c + 0) ≡ Ok c
small_type c n s h = ap (λ b. unless (if b then Some (TypeTooLarge s (stopped n)) else None) (c + 0)) (le-ltb 1000 n h) ∙ ap (λ d. Ok d) (add-zero c)

pub large_type : (c n : ℕ) (s : Span) → 1000 < n → unless (fault_at c (ends_type n s)) (c + 0) ≡ Err (TypeTooLarge s (stopped n))
large_type c n s h = ap (λ b. unless (if b then Some (TypeTooLarge s (stopped n)) else None) (c + 0)) (lt-ltb 1000 n h)

pub small_file : (c n : ℕ) (s : Span) → c + n ≤ 100000 → unless (fault_at c (adds n s)) (c + n) ≡ Ok (c + n)
small_file c n s h = ap (λ b. unless (if b then Some (FileTooLarge s (c + n)) else None) (c + n)) (le-ltb 100000 (c + n) h)

pub large_file : (c n : ℕ) (s : Span) → 100000 < c + n → unless (fault_at c (adds n s)) (c + n) ≡ Err (FileTooLarge s (c + n))
large_file c n s h = ap (λ b. unless (if b then Some (FileTooLarge s (c + n)) else None) (c + n)) (lt-ltb 100000 (c + n) h)

pub early_step : (c i n : ℕ) (s : Span) → i ≤ 10000 → unless (fault_at c (starts_step i n s)) (c + 0) ≡ Ok c
early_step c i n s h = ap (λ b. unless (if b then Some (ScheduleTooLong s (stopped n)) else None) (c + 0)) (le-ltb 10000 i h) ∙ ap (λ d. Ok d) (add-zero c)

pub late_step : (c i n : ℕ) (s : Span) → 10000 < i → unless (fault_at c (starts_step i n s)) (c + 0) ≡ Err (ScheduleTooLong s (stopped n))
late_step c i n s h = ap (λ b. unless (if b then Some (ScheduleTooLong s (stopped n)) else None) (c + 0)) (lt-ltb 10000 i h)

pub stopped_small : (n : ℕ) → stopped n ≤ 1000 → stopped n ≡ n
stopped_small n h = omega arith

-- what comes of an outermost message that is a name
pub name_part : (xs : Names) (w : SWord) (c : ℕ) → run (one (uses_name xs w)) c ≡ Ok c → run (part xs (t.name w.span w)) c ≡ run (one (adds 1 w.span)) c
unfolding part
name_part xs w c h =
    let n = msg_nodes xs (t.name w.span w) in
    let e : n ≡ 1 = name_size 0 (length xs) (number_of xs w.word) in
    ap (λ (r : Ran). after (after r (run (one (ends_message n w.span)))) (run (one (adds n w.span)))) h
    ∙ ap (λ (r : Ran). after r (run (one (adds n w.span)))) (small_message c n w.span (omega (arith, e)))
    ∙ ap (λ k. run (one (adds k w.span)) c) e

pub name_part_fails : (xs : Names) (w : SWord) (c : ℕ) (e : ScopeFault) → FailsWith e (run (one (uses_name xs w)) c) → FailsWith e (run (part xs (t.name w.span w)) c)
unfolding part
name_part_fails xs w c e (inl h) = inl h
name_part_fails xs w c e (inr h) =
    let n = msg_nodes xs (t.name w.span w) in
    inr (ap (λ (r : Ran). after (after r (run (one (ends_message n w.span)))) (run (one (adds n w.span)))) h)

-- and of an annotation that is `Un`
pub untrusted_whole : (ts : Abbreviations) (xs : Names) (s : Span) (c : ℕ) → run (whole_type ts xs (t.un s)) c ≡ run (one (adds 1 s)) c
unfolding whole_type
untrusted_whole ts xs s c = ap (λ (r : Ran). after r (run (one (adds 1 s)))) (small_type c 1 s (omega arith))

-- a name that is in scope, and one that isn't
pub name_known : (xs : Names) (w : SWord) (x : List ℕ) (c n : ℕ) → x ≡ w.word → Some n ≡ number_of xs x → run (part xs (t.name w.span w)) c ≡ run (one (adds 1 w.span)) c
name_known xs w x c n e h =
    let f : number_of xs w.word ≡ Some n = ap (number_of xs) (sym e) ∙ sym h in
    name_part xs w c (rw (f, add-zero) refl)

pub name_unknown : (xs : Names) (w : SWord) (x : List ℕ) (c : ℕ) (e : ScopeFault) → x ≡ w.word → None ≡ number_of xs x → (e ≡ OutOfMemory) ⊎ (e ≡ UnknownName w.span w.word) → FailsWith e (run (part xs (t.name w.span w)) c)
name_unknown xs w x c e p h (inl g) = inl g
name_unknown xs w x c e p h (inr g) =
    let f : number_of xs w.word ≡ None = ap (number_of xs) (sym p) ∙ sym h in
    name_part_fails xs w c e (inr (rw (f, g) refl))
