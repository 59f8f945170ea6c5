-- Points at which nothing is wrong but for the count of the file, and what they add to it.
use Rattle.std.proofs.Common.{◌≡◌, ℕ, ◌+◌, ◌≤◌, Bool, true, ◌∷◌, Option, Some, None, Ok, if◌then◌else◌, is_some, refl, sym, ◌∙◌, ap, arith, add-zero}
use Rattle.spi_text.specs.declared.lines.Span.{Span}
use Rattle.spi_tree.specs.declared.tree.SWord.{SWord}
use Rattle.spi_tree.specs.Trees as t
use Rattle.spi_scope.specs.declared.fault.ScopeFault.TheVariants.{UnknownName, NameTwice}
use Rattle.spi_scope.specs.Scope.{Names, Abbreviations, number_of}
use Rattle.spi_scope.specs.Points.{Point, uses_name, uses_type, declares_name, declares_type, ends_message, ends_type, adds, starts_step, Points, none, one, ◌⨾◌, in_order, fault_at, added, msg_nodes, type_nodes, message_points, type_points, part, whole_type, message_head, messages_head, typed_head, new_head, tested_head, split_head, match_head}
use Rattle.spi_scope.specs.First.{Clean}
use Rattle.spi_scope.specs.Gives.{after, unless, run}
use Rattle.spi_scope.proofs.Counting.{weight}
use Rattle.spi_scope.proofs.Firsts.{run_in_order, clean_from}
use Rattle.spi_scope.proofs.Sizes.{small_message, small_type, small_file, early_step}

-- each name is known, each declared name is new, no abbreviation is used or declared, and sizes are within their limits
abbrev pub IsClear : Point → Type 0
IsClear (uses_name xs w) = is_some (number_of xs w.word) ≡ true
IsClear (uses_type ts w) = ⊥
IsClear (declares_name xs w) = number_of xs w.word ≡ None
IsClear (declares_type ts w) = ⊥
IsClear (ends_message n s) = n ≤ 200
IsClear (ends_type n s) = n ≤ 1000
IsClear (adds n s) = Unit {0}
IsClear (starts_step i n s) = i ≤ 10000

abbrev pub AreClear : Points → Type 0
AreClear none = Unit {0}
AreClear (one p) = IsClear p
AreClear (ps ⨾ qs) = AreClear ps × AreClear qs

-- nothing is wrong at the points, and they add n
pub record AddsPoints (n : ℕ) (ps : Points) : Type 0 where
  pub clear : AreClear ps
  pub weighs : weight ps ≡ n

pub next : {m n : ℕ} {ps qs : Points} → AddsPoints m ps → AddsPoints n qs → AddsPoints (m + n) (ps ⨾ qs)
next f g = record { clear = (f.clear, g.clear); weighs = omega (arith, f.weighs, g.weighs) }

pub regrouped : {n : ℕ} {ps qs rs : Points} → AddsPoints n (ps ⨾ (qs ⨾ rs)) → AddsPoints n ((ps ⨾ qs) ⨾ rs)
regrouped f = record { clear = ((f.clear.0, f.clear.1.0), f.clear.1.1); weighs = omega (arith, f.weighs) }

pub in_all : {m n : ℕ} {ps : Points} → m ≡ n → AddsPoints m ps → AddsPoints n ps
in_all e f = record { clear = f.clear; weighs = f.weighs ∙ e }

pub no_point : AddsPoints 0 none
no_point = record { clear = tt; weighs = refl }

pub counted : (n : ℕ) (s : Span) → AddsPoints n (one (adds n s))
counted n s = record { clear = tt; weighs = refl }

-- ---- the parts of a form, and what stands before its processes

pub message_adds : (n : ℕ) (xs : Names) (m : t.Msg) → AddsPoints 0 (message_points xs m) → msg_nodes xs m ≡ n → n ≤ 200 → AddsPoints n (part xs m)
unfolding part
message_adds n xs m f same low = record { clear = ((f.clear, omega (arith, same, low)), tt); weighs = omega (arith, f.weighs, same) }

pub type_adds : (n : ℕ) (ts : Abbreviations) (xs : Names) (a : t.Ty) → AddsPoints 0 (type_points ts xs a) → type_nodes ts xs a ≡ n → n ≤ 1000 → AddsPoints n (whole_type ts xs a)
unfolding whole_type
type_adds n ts xs a f same low = record { clear = ((f.clear, omega (arith, same, low)), tt); weighs = omega (arith, f.weighs, same) }

module _ (xs : Names) (s : Span) {i : ℕ} (m : t.Msg) (f : AddsPoints i (part xs m)) where
  pub message_head_adds : AddsPoints (1 + i) (message_head xs s m)
  unfolding message_head
  message_head_adds = next (counted 1 s) f

  pub messages_head_adds : {j : ℕ} (n : t.Msg) → AddsPoints j (part xs n) → AddsPoints (1 + (i + j)) (messages_head xs s m n)
  unfolding messages_head
  messages_head_adds n g = next (counted 1 s) (next f g)

  pub typed_head_adds : (ts : Abbreviations) {j : ℕ} (a : t.Ty) → AddsPoints j (whole_type ts xs a) → AddsPoints (1 + (i + j)) (typed_head ts xs s m a)
  unfolding typed_head
  typed_head_adds ts a g = next (counted 1 s) (next f g)

  pub tested_head_adds : (ts : Abbreviations) {j l : ℕ} (a : t.Ty) (n : t.Msg) → AddsPoints j (whole_type ts xs a) → AddsPoints l (part xs n) → AddsPoints (1 + (i + (j + l))) (tested_head ts xs s m a n)
  unfolding tested_head
  tested_head_adds ts a n g h = next (counted 1 s) (next f (next g h))

  pub split_head_adds : (ts : Abbreviations) {j l : ℕ} (x : SWord) (a c : t.Ty) → AddsPoints j (whole_type ts xs a) → AddsPoints l (whole_type ts (x.word ∷ xs) c) → AddsPoints (1 + (i + (j + l))) (split_head ts xs s m x a c)
  unfolding split_head
  split_head_adds ts x a c g h = next (counted 1 s) (next f (next g h))

  pub match_head_adds : (ts : Abbreviations) {j l e : ℕ} (x : SWord) (a : t.Ty) (n : t.Msg) (c : t.Ty) → AddsPoints j (whole_type ts xs a) → AddsPoints l (part xs n) → AddsPoints e (whole_type ts (x.word ∷ xs) c)
      → AddsPoints (1 + (i + (j + (l + e)))) (match_head ts xs s m x a n c)
  unfolding match_head
  match_head_adds ts x a n c g h k = in_all (omega arith) (next (tested_head_adds ts a n g h) k)

pub new_head_adds : (ts : Abbreviations) (xs : Names) (s : Span) {i : ℕ} (a : t.Ty) → AddsPoints i (whole_type ts xs a) → AddsPoints (1 + i) (new_head ts xs s a)
unfolding new_head
new_head_adds ts xs s a f = next (counted 1 s) f

-- ---- what comes of it

one_runs : (p : Point) (c : ℕ) → IsClear p → c + added p ≤ 100000 → unless (fault_at c p) (c + added p) ≡ Ok (c + added p)
one_runs (uses_name xs w) c h low = ap (λ (b : Bool). unless (if b then None else Some (UnknownName w.span w.word)) (c + 0)) h
one_runs (uses_type ts w) c h low = absurd h
one_runs (declares_name xs w) c h low = ap (λ (o : Option ℕ). unless (if is_some o then Some (NameTwice w.span w.word) else None) (c + 0)) h
one_runs (declares_type ts w) c h low = absurd h
one_runs (ends_message n s) c h low = small_message c n s h ∙ ap (λ (d : ℕ). Ok d) (sym (add-zero c))
one_runs (ends_type n s) c h low = small_type c n s h ∙ ap (λ (d : ℕ). Ok d) (sym (add-zero c))
one_runs (adds n s) c h low = small_file c n s low
one_runs (starts_step i n s) c h low = early_step c i n s h ∙ ap (λ (d : ℕ). Ok d) (sym (add-zero c))

all_run : (ps : Points) (c : ℕ) → AreClear ps → c + weight ps ≤ 100000 → run ps c ≡ Ok (c + weight ps)
all_run none c h low = ap (λ (d : ℕ). Ok d) (sym (add-zero c))
all_run (one p) c h low = one_runs p c h low
all_run (ps ⨾ qs) c h low =
    let sums : c + weight ps + weight qs ≡ c + (weight ps + weight qs) = omega arith in
    ap (λ r. after r (run qs)) (all_run ps c h.0 (omega (arith, low))) ∙ all_run qs (c + weight ps) h.1 (omega (arith, low)) ∙ ap (λ (d : ℕ). Ok d) sums

-- points that add little enough are clean
pub clear_clean : (ps : Points) (n : ℕ) → AddsPoints n ps → n ≤ 100000 → Clean 0 (in_order ps)
clear_clean ps n h low =
    (clean_from (in_order ps) 0 (0 + weight ps) (sym (run_in_order ps 0) ∙ all_run ps 0 h.clear (omega (arith, h.weighs, low)))).0
