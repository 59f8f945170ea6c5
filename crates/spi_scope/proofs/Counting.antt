-- What the points add, and what they rule out: the process has at most as many nodes as were counted, and its messages
-- and types are small.
use Rattle.std.proofs.Common.{◌≡◌, ℕ, ◌+◌, ◌<◌, ◌≤◌, List, [], ◌∷◌, ◌++◌, length, refl, sym, ap, ◌∙◌, arith, ⊎_elim}
use Rattle.std.specs.Prelude.{Option, Some, None, Ok, Err, if◌then◌else◌, nat_lt}
use Rattle.std.proofs.lemmas.Bool.{cases_lt, lt-ltb}
use Rattle.spi_text.specs.declared.lines.Span.{Span}
use Rattle.spi_tree.specs.declared.tree.SWord.{SWord}
use Rattle.spi_tree.specs.Trees as t
use Rattle.spi_term.specs.Term.{process_size}
use Rattle.spi_term.specs.Spelling.{Shape, flat, stopped, HasFewMessage, HasFewTy, HaveSmallParts}
use Rattle.spi_scope.specs.declared.fault.ScopeFault.{ScopeFault}
use Rattle.spi_scope.specs.declared.fault.ScopeFault.TheVariants.{MessageTooLarge, TypeTooLarge}
use Rattle.spi_scope.specs.Scope.{Names, Abbreviations}
use Rattle.spi_scope.specs.Meaning.{message_in, type_in, process_in}
use Rattle.spi_scope.specs.Points.{uses_name, uses_type, declares_name, declares_type, ends_message, ends_type, adds, starts_step, Points, none, one, ◌⨾◌, fault_at, added, whole_type, part, message_head, messages_head, typed_head, new_head, tested_head, split_head, match_head, process_points, free_points, with_free, decls_points, types_behind, all_names}
use Rattle.spi_scope.specs.Gives.{Ran, after, unless, run}
use Rattle.spi_scope.proofs.Sizes.{message_sized, type_sized}

-- what all these points add
abbrev pub weight : Points → ℕ
weight none = 0
weight (one p) = added p
weight (ps ⨾ qs) = weight ps + weight qs

pub run_weight : (ps : Points) (c d : ℕ) → run ps c ≡ Ok d → d ≡ c + weight ps
run_weight none c d e = let f : c ≡ d = cc in omega (arith, f)
run_weight (one p) c d e = by (fault_at c p) e
  where
    by : (o : Option ScopeFault) → unless o (c + added p) ≡ Ok d → d ≡ c + added p
    by None h = cc
    by (Some f) h = absurd (cc)
run_weight (ps ⨾ qs) c d e = by (run ps c) (λ m. run_weight ps c m) (λ m. run_weight qs m d) e
  where
    by : (r : Ran) → ((m : ℕ) → r ≡ Ok m → m ≡ c + weight ps) → ((m : ℕ) → run qs m ≡ Ok d → d ≡ m + weight qs) → after r (run qs) ≡ Ok d → d ≡ c + (weight ps + weight qs)
    by (Ok m) f g h = omega (arith, f m refl, g m h)
    by (Err x) f g h = absurd (cc)

message_head_weighs : (xs : Names) (s : Span) (m : t.Msg) → 1 ≤ weight (message_head xs s m)
unfolding message_head
message_head_weighs xs s m = omega arith

messages_head_weighs : (xs : Names) (s : Span) (m n : t.Msg) → 1 ≤ weight (messages_head xs s m n)
unfolding messages_head
messages_head_weighs xs s m n = omega arith

typed_head_weighs : (ts : Abbreviations) (xs : Names) (s : Span) (m : t.Msg) (a : t.Ty) → 1 ≤ weight (typed_head ts xs s m a)
unfolding typed_head
typed_head_weighs ts xs s m a = omega arith

new_head_weighs : (ts : Abbreviations) (xs : Names) (s : Span) (a : t.Ty) → 1 ≤ weight (new_head ts xs s a)
unfolding new_head
new_head_weighs ts xs s a = omega arith

tested_head_weighs : (ts : Abbreviations) (xs : Names) (s : Span) (m : t.Msg) (a : t.Ty) (n : t.Msg) → 1 ≤ weight (tested_head ts xs s m a n)
unfolding tested_head
tested_head_weighs ts xs s m a n = omega arith

split_head_weighs : (ts : Abbreviations) (xs : Names) (s : Span) (m : t.Msg) (x : SWord) (a c : t.Ty) → 1 ≤ weight (split_head ts xs s m x a c)
unfolding split_head
split_head_weighs ts xs s m x a c = omega arith

match_head_weighs : (ts : Abbreviations) (xs : Names) (s : Span) (m : t.Msg) (x : SWord) (a : t.Ty) (n : t.Msg) (c : t.Ty) → 1 ≤ weight (match_head ts xs s m x a n c)
unfolding match_head
match_head_weighs ts xs s m x a n c = omega (arith, tested_head_weighs ts xs s m a n)

pub process_weighs : (b : ℕ → ℕ) (ts : Abbreviations) (xs : Names) (p : t.Proc) → process_size (process_in b ts xs p) ≤ weight (process_points ts xs p)
process_weighs b ts xs (t.par s p q) = omega (arith, process_weighs b ts xs p, process_weighs b ts xs q)
process_weighs b ts xs (t.group s p q) = omega (arith, process_weighs b ts xs p, process_weighs b ts xs q)
process_weighs b ts xs (t.out s m n) = messages_head_weighs xs s m n
process_weighs b ts xs (t.out_then s m n p) = omega (arith, messages_head_weighs xs s m n, process_weighs b ts xs p)
process_weighs b ts xs (t.inp s m x a p) = omega (arith, typed_head_weighs ts xs s m a, process_weighs b ts (x.word ∷ xs) p)
process_weighs b ts xs (t.repeat s m x a p) = omega (arith, typed_head_weighs ts xs s m a, process_weighs b ts (x.word ∷ xs) p)
process_weighs b ts xs (t.split s m x a y c p) = omega (arith, split_head_weighs ts xs s m x a c, process_weighs b ts (y.word ∷ x.word ∷ xs) p)
process_weighs b ts xs (t.match s m x a n y c p) = omega (arith, match_head_weighs ts xs s m x a n c, process_weighs b ts (y.word ∷ xs) p)
process_weighs b ts xs (t.case s m x a p y c q) =
    omega (arith, typed_head_weighs ts xs s m a, process_weighs b ts (x.word ∷ xs) p, process_weighs b ts (y.word ∷ xs) q)
process_weighs b ts xs (t.decrypt s m x a n p) = omega (arith, tested_head_weighs ts xs s m a n, process_weighs b ts (x.word ∷ xs) p)
process_weighs b ts xs (t.check s m n p) = omega (arith, messages_head_weighs xs s m n, process_weighs b ts xs p)
process_weighs b ts xs (t.begin s m p) = omega (arith, message_head_weighs xs s m, process_weighs b ts xs p)
process_weighs b ts xs (t.end s m p) = omega (arith, message_head_weighs xs s m, process_weighs b ts xs p)
process_weighs b ts xs (t.end_many s m p) = omega (arith, message_head_weighs xs s m, process_weighs b ts xs p)
process_weighs b ts xs (t.cast s m x a p) = omega (arith, typed_head_weighs ts xs s m a, process_weighs b ts (x.word ∷ xs) p)
process_weighs b ts xs (t.new s x a p) = omega (arith, new_head_weighs ts xs s a, process_weighs b ts (x.word ∷ xs) p)
process_weighs b ts xs (t.stop s) = omega arith

-- the free names
free_weighs : (xs : Names) (ws : List SWord) → length (with_free xs ws) ≡ length xs + weight (free_points xs ws)
free_weighs xs [] = omega arith
free_weighs xs (w ∷ ws) = omega (arith, free_weighs (w.word ∷ xs) ws)

pub names_weigh : (ts : Abbreviations) (xs : Names) (ds : List t.Declared) → length (all_names xs ds) ≤ length xs + weight (decls_points ts xs ds)
names_weigh ts xs [] = omega arith
names_weigh ts xs (t.free s w ws ∷ ds) = omega (arith, free_weighs xs (w ∷ ws), names_weigh ts (with_free xs (w ∷ ws)) ds)
names_weigh ts xs (t.abbreviated s w a ∷ ds) = omega (arith, names_weigh (types_behind ts xs (t.abbreviated s w a)) xs ds)

-- the tests of sizes
abbrev pub PassesTests : Points → Type 0
PassesTests none = Unit {0}
PassesTests (one (uses_name xs w)) = Unit {0}
PassesTests (one (uses_type ts w)) = Unit {0}
PassesTests (one (declares_name xs w)) = Unit {0}
PassesTests (one (declares_type ts w)) = Unit {0}
PassesTests (one (ends_message n s)) = n ≤ 200
PassesTests (one (ends_type n s)) = n ≤ 1000
PassesTests (one (adds n s)) = Unit {0}
PassesTests (one (starts_step i n s)) = Unit {0}
PassesTests (ps ⨾ qs) = PassesTests ps × PassesTests qs

-- what is passed at a limit is within it
pub passed_limit : (c d limit n : ℕ) (f : ScopeFault) → unless (if nat_lt limit n then Some f else None) c ≡ Ok d → n ≤ limit
passed_limit c d limit n f e = ⊎_elim large (λ h. h) (cases_lt limit n)
  where
    large : limit < n → n ≤ limit
    large h =
        let g : Err f ≡ Ok d = sym (ap (λ b. unless (if b then Some f else None) c) (lt-ltb limit n h)) ∙ e in
        absurd (cc)

pub passed : (ps : Points) (c d : ℕ) → run ps c ≡ Ok d → PassesTests ps
passed none c d e = tt
passed (one (uses_name xs w)) c d e = tt
passed (one (uses_type ts w)) c d e = tt
passed (one (declares_name xs w)) c d e = tt
passed (one (declares_type ts w)) c d e = tt
passed (one (ends_message n s)) c d e = passed_limit (c + 0) d 200 n (MessageTooLarge s (stopped n)) e
passed (one (ends_type n s)) c d e = passed_limit (c + 0) d 1000 n (TypeTooLarge s (stopped n)) e
passed (one (adds n s)) c d e = tt
passed (one (starts_step i n s)) c d e = tt
passed (ps ⨾ qs) c d e = by (run ps c) (λ m. passed ps c m) (λ m. passed qs m d) e
  where
    by : (r : Ran) → ((m : ℕ) → r ≡ Ok m → PassesTests ps) → ((m : ℕ) → run qs m ≡ Ok d → PassesTests qs) → after r (run qs) ≡ Ok d → PassesTests ps × PassesTests qs
    by (Ok m) f g h = (f m refl, g m h)
    by (Err x) f g h = absurd (cc)

few_message : (k : ℕ) (xs : Names) (m : t.Msg) → PassesTests (part xs m) → HasFewMessage (message_in k xs m)
unfolding part
few_message k xs m h = omega (arith, h.0.1, message_sized k xs m)

few_type : (k : ℕ) (ts : Abbreviations) (xs : Names) (a : t.Ty) → PassesTests (whole_type ts xs a) → HasFewTy (type_in k ts xs a)
unfolding whole_type
few_type k ts xs a h = omega (arith, h.0.1, type_sized k ts xs a)

few_in_message_head : (k : ℕ) (xs : Names) (s : Span) (m : t.Msg) → PassesTests (message_head xs s m) → HasFewMessage (message_in k xs m)
unfolding message_head
few_in_message_head k xs s m h = few_message k xs m h.1

few_in_messages_head : (k : ℕ) (xs : Names) (s : Span) (m n : t.Msg) → PassesTests (messages_head xs s m n) → HasFewMessage (message_in k xs m) × HasFewMessage (message_in k xs n)
unfolding messages_head
few_in_messages_head k xs s m n h = (few_message k xs m h.1.0, few_message k xs n h.1.1)

few_in_typed_head : (k : ℕ) (ts : Abbreviations) (xs : Names) (s : Span) (m : t.Msg) (a : t.Ty) → PassesTests (typed_head ts xs s m a) → HasFewMessage (message_in k xs m) × HasFewTy (type_in k ts xs a)
unfolding typed_head
few_in_typed_head k ts xs s m a h = (few_message k xs m h.1.0, few_type k ts xs a h.1.1)

few_in_new_head : (k : ℕ) (ts : Abbreviations) (xs : Names) (s : Span) (a : t.Ty) → PassesTests (new_head ts xs s a) → HasFewTy (type_in k ts xs a)
unfolding new_head
few_in_new_head k ts xs s a h = few_type k ts xs a h.1

few_in_tested_head : (k : ℕ) (ts : Abbreviations) (xs : Names) (s : Span) (m : t.Msg) (a : t.Ty) (n : t.Msg) → PassesTests (tested_head ts xs s m a n) → HasFewMessage (message_in k xs m) × HasFewTy (type_in k ts xs a) × HasFewMessage (message_in k xs n)
unfolding tested_head
few_in_tested_head k ts xs s m a n h = (few_message k xs m h.1.0, few_type k ts xs a h.1.1.0, few_message k xs n h.1.1.1)

few_in_split_head : (k : ℕ) (ts : Abbreviations) (xs : Names) (s : Span) (m : t.Msg) (x : SWord) (a c : t.Ty) → PassesTests (split_head ts xs s m x a c) → HasFewMessage (message_in k xs m) × HasFewTy (type_in k ts xs a) × HasFewTy (type_in k ts (x.word ∷ xs) c)
unfolding split_head
few_in_split_head k ts xs s m x a c h = (few_message k xs m h.1.0, few_type k ts xs a h.1.1.0, few_type k ts (x.word ∷ xs) c h.1.1.1)

few_in_match_head : (k : ℕ) (ts : Abbreviations) (xs : Names) (s : Span) (m : t.Msg) (x : SWord) (a : t.Ty) (n : t.Msg) (c : t.Ty) → PassesTests (match_head ts xs s m x a n c) → HasFewMessage (message_in k xs m) × HasFewTy (type_in k ts xs a) × HasFewMessage (message_in k xs n) × HasFewTy (type_in k ts (x.word ∷ xs) c)
unfolding match_head
few_in_match_head k ts xs s m x a n c h = let r = few_in_tested_head k ts xs s m a n h.0 in (r.0, r.1, r.2, few_type k ts (x.word ∷ xs) c h.1)

both_small : (a b : List Shape) → HaveSmallParts a → HaveSmallParts b → HaveSmallParts (a ++ b)
both_small [] b h g = g
both_small (x ∷ a) b h g = (h.0, both_small a b h.1 g)

pub process_small : (b : ℕ → ℕ) (ts : Abbreviations) (xs : Names) (p : t.Proc) (i k : ℕ) → PassesTests (process_points ts xs p) → HaveSmallParts (flat i k (process_in b ts xs p))
process_small b ts xs (t.par s p q) i k h = (tt, both_small _ _ (process_small b ts xs p _ _ h.0) (process_small b ts xs q _ _ h.1.1))
process_small b ts xs (t.group s p q) i k h = (tt, both_small _ _ (process_small b ts xs p _ _ h.0) (process_small b ts xs q _ _ h.1.1))
process_small b ts xs (t.out s m n) i k h = (few_in_messages_head _ xs s m n h, tt)
process_small b ts xs (t.out_then s m n p) i k h = (tt, (few_in_messages_head _ xs s m n h.0, process_small b ts xs p _ _ h.1.1))
process_small b ts xs (t.inp s m x a p) i k h = (few_in_typed_head _ ts xs s m a h.0, process_small b ts (x.word ∷ xs) p _ _ h.1)
process_small b ts xs (t.repeat s m x a p) i k h = (few_in_typed_head _ ts xs s m a h.0, process_small b ts (x.word ∷ xs) p _ _ h.1)
process_small b ts xs (t.split s m x a y c p) i k h = (few_in_split_head _ ts xs s m x a c h.0, process_small b ts (y.word ∷ x.word ∷ xs) p _ _ h.1)
process_small b ts xs (t.match s m x a n y c p) i k h = (few_in_match_head _ ts xs s m x a n c h.0, process_small b ts (y.word ∷ xs) p _ _ h.1)
process_small b ts xs (t.case s m x a p y c q) i k h =
    let r = few_in_typed_head (b (length xs)) ts xs s m a h.0 in
    ((r.0, r.1, few_type (b (length xs)) ts xs c h.1.1.0), both_small _ _ (process_small b ts (x.word ∷ xs) p _ _ h.1.0) (process_small b ts (y.word ∷ xs) q _ _ h.1.1.1))
process_small b ts xs (t.decrypt s m x a n p) i k h = (few_in_tested_head _ ts xs s m a n h.0, process_small b ts (x.word ∷ xs) p _ _ h.1)
process_small b ts xs (t.check s m n p) i k h = (few_in_messages_head _ xs s m n h.0, process_small b ts xs p _ _ h.1)
process_small b ts xs (t.begin s m p) i k h = (few_in_message_head _ xs s m h.0, process_small b ts xs p _ _ h.1)
process_small b ts xs (t.end s m p) i k h = (few_in_message_head _ xs s m h.0, process_small b ts xs p _ _ h.1)
process_small b ts xs (t.end_many s m p) i k h = (few_in_message_head _ xs s m h.0, process_small b ts xs p _ _ h.1)
process_small b ts xs (t.cast s m x a p) i k h = (few_in_typed_head _ ts xs s m a h.0, process_small b ts (x.word ∷ xs) p _ _ h.1)
process_small b ts xs (t.new s x a p) i k h = (few_in_new_head _ ts xs s a h.0, process_small b ts (x.word ∷ xs) p _ _ h.1)
process_small b ts xs (t.stop s) i k h = (tt, tt)
