-- The nodes that are gathered, by the way down to each.
use Rattle.std.proofs.Common.{◌≡◌, refl, sym, ap, ◌∙◌, subst, ℕ, zero, suc, ◌+◌, ◌<◌, ◌≤◌, ◌⊎◌, inl, inr, ⊎_elim, ◌↔◌, Bool, true, false, List, [], ◌∷◌, ◌++◌, length, Option, arith}
use Rattle.spi_infer.specs.Forms.{effect_of}
use Rattle.spi_infer.specs.Passes.{Note, note_of}
use Rattle.spi_message.proofs.Opened.{numbered_prefix, numbered_fork, numbered_leaf, size_enter}
use Rattle.spi_message.specs.Forms.{enter, more, on_first, on_rest}
use Rattle.spi_origin.specs.Gathering.{Aim, all_blocking, all_origins, keeps, picks, with_node, picked}
use Rattle.spi_rules.specs.Environment.{Env}
use Rattle.spi_term.proofs.Lists.{in_append, in_cases}
use Rattle.spi_term.proofs.Numbers.{size_numbered}
use Rattle.spi_term.specs.Lists.{In, in_first, in_later, AreAscending}
use Rattle.spi_term.specs.Spelling.{leaf_at, prefix_at, fork_at, numbered}
use Rattle.spi_term.specs.Term.{Effect, Leaf, Prefix, Fork, Process, leaf, prefix, fork, binds, fork_binds, process_size}

-- the effect that is computed
abbrev pub computed_of : Env → Process → Option Effect
computed_of e p = effect_of (numbered [] (length e) p) e

-- the node itself is one
abbrev pub is_own : Aim → Env → Process → Bool
is_own w e (leaf l) = picks w (leaf_at (length e) l) (note_of e (leaf_at (length e) l)) []
is_own w e (prefix s p) =
    let x = prefix_at (length e) s 1 in
    picks w x (note_of e x) (computed_of (e ++ more e s) (enter (binds s) (length e) p) ∷ [])
is_own w e (fork f p q) =
    let x = fork_at (length e) f 1 1 in
    picks w x (note_of e x) (computed_of (e ++ on_first f) (enter (fork_binds f) (length e) p) ∷ (computed_of (e ++ on_rest f) (enter (fork_binds f) (length e) q) ∷ []))

abbrev pub KeepsAim : Aim → Env → Process → Type 0
KeepsAim w e p = keeps w (computed_of e p) ≡ true

pub data Chosen (w : Aim) : Env → Process → ℕ → Type 0 where
  chosen_here : {e : Env} {p : Process} → KeepsAim w e p → is_own w e p ≡ true → Chosen w e p 0
  chosen_prefix : {e : Env} {s : Prefix} {p : Process} {i : ℕ} → KeepsAim w e (prefix s p) → Chosen w (e ++ more e s) (enter (binds s) (length e) p) i → Chosen w e (prefix s p) (suc i)
  chosen_first : {e : Env} {f : Fork} {p q : Process} {i : ℕ} → KeepsAim w e (fork f p q) → Chosen w (e ++ on_first f) (enter (fork_binds f) (length e) p) i → Chosen w e (fork f p q) (suc i)
  chosen_rest : {e : Env} {f : Fork} {p q : Process} {i j : ℕ} → KeepsAim w e (fork f p q) → Chosen w (e ++ on_rest f) (enter (fork_binds f) (length e) q) i → j ≡ process_size p + i → Chosen w e (fork f p q) (suc j)

-- lists with a node
in_with : (a b : Bool) (i j : ℕ) (l : List ℕ) → In j (with_node a b i l) → (a ≡ true) × (((b ≡ true) × (j ≡ i)) ⊎ In j l)
in_with false b i j l h = elim h [ ]
in_with true false i j l h = (refl, inr h)
in_with true true i j l h = (refl, ⊎_elim (λ e. inl (refl, e)) (λ k. inr k) (in_cases h))

with_here : (a b : Bool) (i : ℕ) (l : List ℕ) → a ≡ true → b ≡ true → In i (with_node a b i l)
with_here true true i l e f = in_first
with_here true false i l e f = absurd (cc f)
with_here false b i l e f = absurd (cc e)

with_later : (a b : Bool) (i j : ℕ) (l : List ℕ) → a ≡ true → In j l → In j (with_node a b i l)
with_later true true i j l e h = in_later h
with_later true false i j l e h = h
with_later false b i j l e h = absurd (cc e)

in_left_of : {j : ℕ} (l l' : List ℕ) → In j l → In j (l ++ l')
in_left_of _ l' in_first = in_first
in_left_of _ l' (in_later h) = in_later (in_left_of _ l' h)

in_right_of : {j : ℕ} (l l' : List ℕ) → In j l' → In j (l ++ l')
in_right_of [] l' h = h
in_right_of (x ∷ l) l' h = in_later (in_right_of l l' h)

-- what is picked doesn't look at the places of processes
prefix_place : (w : Aim) (k b c : ℕ) (s : Prefix) (n : Note) (st : List (Option Effect)) → picks w (prefix_at k s b) n st ≡ picks w (prefix_at k s c) n st
prefix_place all_blocking k b c s n st = refl
prefix_place (all_origins a) k b c s n st = refl

fork_place : (w : Aim) (k a r b q : ℕ) (f : Fork) (n : Note) (st : List (Option Effect)) → picks w (fork_at k f a r) n st ≡ picks w (fork_at k f b q) n st
fork_place all_blocking k a r b q f n st = refl
fork_place (all_origins x) k a r b q f n st = refl

-- the nodes of a list, counted from its first
abbrev pub IsBelowAim : Aim → Env → Process → ℕ → ℕ → Type 0
IsBelowAim w e p i j = (m : ℕ) × (j ≡ i + m) × Chosen w e p m

abbrev pub Listed : Aim → Env → Process → ℕ → List ℕ → Type 0
Listed w e p i l = (j : ℕ) → In j l ↔ IsBelowAim w e p i j

listed_as : {w : Aim} {e : Env} {p : Process} (i : ℕ) {l l' : List ℕ} → l ≡ l' → Listed w e p i l' → Listed w e p i l
listed_as {w} {e} {p} i f h = subst (Listed w e p i) (sym f) h

leaf_listed : (w : Aim) (e : Env) (l : Leaf) (i : ℕ) → Listed w e (leaf l) i (with_node (keeps w (computed_of e (leaf l))) (is_own w e (leaf l)) i [])
leaf_listed w e l i j = (to, from)
  where
    to : In j (with_node (keeps w (computed_of e (leaf l))) (is_own w e (leaf l)) i []) → IsBelowAim w e (leaf l) i j
    to h =
        let r = in_with (keeps w (computed_of e (leaf l))) (is_own w e (leaf l)) i j [] h in
        ⊎_elim (λ b. (0, omega (arith, b.1), chosen_here r.0 b.0)) (λ k. elim k [ ]) r.1

    at : (m : ℕ) → j ≡ i + m → Chosen w e (leaf l) m → In j (with_node (keeps w (computed_of e (leaf l))) (is_own w e (leaf l)) i [])
    at _ f (chosen_here k b) =
        let z : i ≡ j = omega (arith, f) in
        subst (λ j. In j (with_node (keeps w (computed_of e (leaf l))) (is_own w e (leaf l)) i [])) z (with_here (keeps w (computed_of e (leaf l))) (is_own w e (leaf l)) i [] k b)

    from : IsBelowAim w e (leaf l) i j → In j (with_node (keeps w (computed_of e (leaf l))) (is_own w e (leaf l)) i [])
    from h = at h.0 h.1 h.2

prefix_listed : (w : Aim) (e : Env) (s : Prefix) (p : Process) (i : ℕ) (inner : List ℕ) → Listed w (e ++ more e s) (enter (binds s) (length e) p) (suc i) inner → Listed w e (prefix s p) i (with_node (keeps w (computed_of e (prefix s p))) (is_own w e (prefix s p)) i inner)
prefix_listed w e s p i inner below j = (to, λ h. at h.0 h.1 h.2)
  where
    to : In j (with_node (keeps w (computed_of e (prefix s p))) (is_own w e (prefix s p)) i inner) → IsBelowAim w e (prefix s p) i j
    to h =
        let r = in_with (keeps w (computed_of e (prefix s p))) (is_own w e (prefix s p)) i j inner h in
        ⊎_elim (λ b. (0, omega (arith, b.1), chosen_here r.0 b.0)) (λ k. let c = (below j).0 k in (suc c.0, omega (arith, c.1), chosen_prefix r.0 c.2)) r.1

    at : (m : ℕ) → j ≡ i + m → Chosen w e (prefix s p) m → In j (with_node (keeps w (computed_of e (prefix s p))) (is_own w e (prefix s p)) i inner)
    at _ f (chosen_here k b) =
        let z : i ≡ j = omega (arith, f) in
        subst (λ j. In j (with_node (keeps w (computed_of e (prefix s p))) (is_own w e (prefix s p)) i inner)) z (with_here (keeps w (computed_of e (prefix s p))) (is_own w e (prefix s p)) i inner k b)
    at _ f (chosen_prefix {i = m} k c) =
        with_later (keeps w (computed_of e (prefix s p))) (is_own w e (prefix s p)) i j inner k ((below j).1 (m, omega (arith, f), c))

abbrev forked : Aim → Env → Fork → Process → Process → ℕ → List ℕ → List ℕ
forked w e f p q i l = with_node (keeps w (computed_of e (fork f p q))) (is_own w e (fork f p q)) i l

fork_listed : (w : Aim) (e : Env) (f : Fork) (p q : Process) (i r : ℕ) (a b : List ℕ) → r ≡ suc i + process_size p → Listed w (e ++ on_first f) (enter (fork_binds f) (length e) p) (suc i) a → Listed w (e ++ on_rest f) (enter (fork_binds f) (length e) q) r b
    → Listed w e (fork f p q) i (with_node (keeps w (computed_of e (fork f p q))) (is_own w e (fork f p q)) i (a ++ b))
fork_listed w e f p q i r a b n first rest j = (to, λ h. at h.0 h.1 h.2)
  where
    to : In j (forked w e f p q i (a ++ b)) → IsBelowAim w e (fork f p q) i j
    to h =
        let s = in_with (keeps w (computed_of e (fork f p q))) (is_own w e (fork f p q)) i j (a ++ b) h in
        ⊎_elim (λ b. (0, omega (arith, b.1), chosen_here s.0 b.0)) (λ k. ⊎_elim (λ k. let c = (first j).0 k in (suc c.0, omega (arith, c.1), chosen_first s.0 c.2)) (λ k. let c = (rest j).0 k in (suc (process_size p + c.0), omega (arith, c.1, n), chosen_rest s.0 c.2 refl)) (in_append a k)) s.1

    at : (m : ℕ) → j ≡ i + m → Chosen w e (fork f p q) m → In j (forked w e f p q i (a ++ b))
    at _ g (chosen_here k o) =
        let z : i ≡ j = omega (arith, g) in
        subst (λ j. In j (forked w e f p q i (a ++ b))) z (with_here (keeps w (computed_of e (fork f p q))) (is_own w e (fork f p q)) i (a ++ b) k o)
    at _ g (chosen_first {i = m} k c) =
        with_later (keeps w (computed_of e (fork f p q))) (is_own w e (fork f p q)) i j (a ++ b) k (in_left_of a b ((first j).1 (m, omega (arith, g), c)))
    at _ g (chosen_rest {i = m} k c h) =
        with_later (keeps w (computed_of e (fork f p q))) (is_own w e (fork f p q)) i j (a ++ b) k (in_right_of a b ((rest j).1 (m, omega (arith, g, h, n), c)))

listed_by : (n : ℕ) (w : Aim) (p : Process) (e : Env) (i : ℕ) → process_size p ≤ n → Listed w e p i (picked w (numbered [] (length e) p) e i)
listed_by zero w (leaf l) e i h = absurd (omega arith)
listed_by zero w (prefix s p) e i h = absurd (omega arith)
listed_by zero w (fork f p q) e i h = absurd (omega arith)
listed_by (suc n) w (leaf l) e i h =
    let t = numbered_leaf (length e) l in
    listed_as i (ap (λ q. picked w q e i) t ∙ ap (λ o. with_node (keeps w o) (is_own w e (leaf l)) i []) (sym (ap (λ q. effect_of q e) t))) (leaf_listed w e l i)
listed_by (suc n) w (prefix s p) e i h =
    let e' = e ++ more e s in
    let p' = enter (binds s) (length e) p in
    let t = numbered_prefix e s p in
    let x = prefix_at (length e) s (suc i) in
    let l = picked w (numbered [] (length e') p') e' (suc i) in
    let st = computed_of e' p' ∷ [] in
    let below = listed_by n w p' e' (suc i) (omega (arith, size_enter (binds s) (length e) p)) in
    listed_as i (ap (λ q. picked w q e i) t ∙ ap (λ o. with_node (keeps w o) (picks w x (note_of e x) st) i l) (sym (ap (λ q. effect_of q e) t)) ∙ ap (λ b. with_node (keeps w (computed_of e (prefix s p))) b i l) (prefix_place w (length e) (suc i) 1 s (note_of e x) st)) (prefix_listed w e s p i l below)
listed_by (suc n) w (fork f p q) e i h =
    let e1 = e ++ on_first f in
    let e2 = e ++ on_rest f in
    let p' = enter (fork_binds f) (length e) p in
    let q' = enter (fork_binds f) (length e) q in
    let t = numbered_fork e f p q in
    let r = suc i + process_size (numbered [] (length e1) p') in
    let x = fork_at (length e) f (suc i) r in
    let st = computed_of e1 p' ∷ (computed_of e2 q' ∷ []) in
    let a = picked w (numbered [] (length e1) p') e1 (suc i) in
    let b = picked w (numbered [] (length e2) q') e2 r in
    let m : r ≡ suc i + process_size p = omega (arith, size_numbered p' [] (length e1), size_enter (fork_binds f) (length e) p) in
    let first = listed_by n w p' e1 (suc i) (omega (arith, size_enter (fork_binds f) (length e) p)) in
    let rest = listed_by n w q' e2 r (omega (arith, size_enter (fork_binds f) (length e) q)) in
    listed_as i (ap (λ q. picked w q e i) t ∙ ap (λ o. with_node (keeps w o) (picks w x (note_of e x) st) i (a ++ b)) (sym (ap (λ q. effect_of q e) t)) ∙ ap (λ o. with_node (keeps w (computed_of e (fork f p q))) o i (a ++ b)) (fork_place w (length e) (suc i) r 1 1 f (note_of e x) st)) (fork_listed w e f p q i r a b m first rest)

pub listed : (w : Aim) (p : Process) (e : Env) (i : ℕ) → Listed w e p i (picked w (numbered [] (length e) p) e i)
listed w p e i = listed_by (process_size p) w p e i (omega arith)

-- the list ascends
abbrev Range : ℕ → ℕ → List ℕ → Type 0
Range i n l = (j : ℕ) → In j l → (i ≤ j) × (j < n)

range_with : (a b : Bool) (i n : ℕ) (l : List ℕ) → i < n → Range (suc i) n l → Range i n (with_node a b i l)
range_with a b i n l h r j k =
    ⊎_elim (λ c. (omega (arith, c.1), omega (arith, c.1, h))) (λ k. let z = r j k in (omega (arith, z.0), z.1)) (in_with a b i j l k).1

range_both : {i m k n' n : ℕ} {a b : List ℕ} → Range i m a → Range k n' b → i ≤ k → m ≤ n → n' ≤ n → Range i n (a ++ b)
range_both {a = a} r t low first rest j k =
    ⊎_elim (λ k. let z = r j k in (z.0, omega (arith, z.1, first))) (λ k. let z = t j k in (omega (arith, z.0, low), omega (arith, z.1, rest))) (in_append a k)

pub ranges : (w : Aim) (q : Process) (e : Env) (i : ℕ) → Range i (i + process_size q) (picked w q e i)
ranges w (leaf l) e i = range_with _ _ i (i + 1) [] (omega arith) (λ j k. elim k [ ])
ranges w (prefix s p) e i =
    let r = ranges w p (e ++ more e s) (suc i) in
    range_with _ _ i (i + suc (process_size p)) (picked w p (e ++ more e s) (suc i)) (omega arith) (λ j k. let z = r j k in (z.0, omega (arith, z.1)))
ranges w (fork f p q) e i =
    let m = suc i + process_size p in
    range_with _ _ i (i + suc (process_size p + process_size q)) _ (omega arith)
    (range_both (ranges w p (e ++ on_first f) (suc i)) (ranges w q (e ++ on_rest f) m) (omega arith) (omega arith) (omega arith))

ascends_with : (a b : Bool) (i : ℕ) (l : List ℕ) → ((j : ℕ) → In j l → i < j) → AreAscending l → AreAscending (with_node a b i l)
ascends_with false b i l h k = tt
ascends_with true false i l h k = k
ascends_with true true i l h k = (h, k)

ascends_append : (l l' : List ℕ) → AreAscending l → AreAscending l' → ((j k : ℕ) → In j l → In k l' → j < k) → AreAscending (l ++ l')
ascends_append [] l' a b h = b
ascends_append (x ∷ l) l' a b h =
    (λ j k. ⊎_elim (λ k. a.0 j k) (λ k. h x j in_first k) (in_append l k), ascends_append l l' a.1 b (λ j k i i'. h j k (in_later i) i'))

pub ascends : (w : Aim) (q : Process) (e : Env) (i : ℕ) → AreAscending (picked w q e i)
ascends w (leaf l) e i = ascends_with _ _ i [] (λ j k. elim k [ ]) tt
ascends w (prefix s p) e i =
    let r = ranges w p (e ++ more e s) (suc i) in
    ascends_with _ _ i (picked w p (e ++ more e s) (suc i)) (λ j k. omega (arith, (r j k).0)) (ascends w p (e ++ more e s) (suc i))
ascends w (fork f p q) e i =
    let m = suc i + process_size p in
    let a = picked w p (e ++ on_first f) (suc i) in
    let b = picked w q (e ++ on_rest f) m in
    let r = ranges w p (e ++ on_first f) (suc i) in
    let t = ranges w q (e ++ on_rest f) m in
    ascends_with _ _ i (a ++ b) (λ j k. ⊎_elim (λ k. omega (arith, (r j k).0)) (λ k. omega (arith, (t j k).0)) (in_append a k)) (ascends_append a b (ascends w p (e ++ on_first f) (suc i)) (ascends w q (e ++ on_rest f) m) (λ j k h h'. omega (arith, (r j h).1, (t k h').0)))
