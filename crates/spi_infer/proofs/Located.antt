-- Where the nodes of a node's process stand, and what the passes see of them.
use Rattle.std.proofs.Common.{◌≡◌, ℕ, zero, suc, ◌+◌, ◌≤◌, List, [], ◌∷◌, ◌++◌, length, drop, refl, sym, ap, ◌∙◌, subst, arith, Option, append-nil, append_assoc, length-append}
use Rattle.std.proofs.lemmas.List.{take_all}
use Rattle.spi_term.specs.Term.{Effect, Process, leaf, prefix, fork, binds, fork_binds, process_size}
use Rattle.spi_term.specs.Names.{MessageOver, OfProcess, ProcessOver}
use Rattle.spi_term.specs.Spelling.{Shape, flat, numbered, spelled}
use Rattle.spi_term.proofs.Numbers.{size_numbered}
use Rattle.spi_term.proofs.Rows.{length_flat}
use Rattle.spi_term.proofs.Terms.{over_more_process}
use Rattle.spi_rules.specs.Environment.{Env}
use Rattle.spi_message.specs.Forms.{enter, more, on_first, on_rest}
use Rattle.spi_infer.specs.Forms.{effect_of}
use Rattle.spi_infer.specs.Passes.{Note, scan, run_notes}
use Rattle.spi_message.proofs.Opened.{length_more, length_first, length_rest, numbered_prefix, numbered_fork, size_enter, over_enter}
use Rattle.spi_infer.proofs.Passes.{notes, scan_flat, run_flat}
use Rattle.spi_infer.proofs.Reach.{ReachesNode, reach_root, reach_prefix, reach_first, reach_rest}
use Rattle.spi_infer.proofs.Blocked.{reach_within}

-- lists
length_notes : (q : Process) (e : Env) → length (notes q e) ≡ process_size q
length_notes (leaf l) e = refl
length_notes (prefix s p) e = ap suc (length_notes p (e ++ more e s))
length_notes (fork f p q) e =
    omega (arith, length-append (notes p (e ++ on_first f)) (notes q (e ++ on_rest f)), length_notes p (e ++ on_first f), length_notes q (e ++ on_rest f))

drop_left : {A : Type 0} (xs ys : List A) (i : ℕ) → i ≤ length xs → drop i (xs ++ ys) ≡ drop i xs ++ ys
drop_left xs ys zero h = refl
drop_left [] ys (suc i) h = absurd (omega arith)
drop_left (x ∷ xs) ys (suc i) h = drop_left xs ys i (omega arith)

drop_right : {A : Type 0} (xs ys : List A) (i j : ℕ) → j ≡ length xs + i → drop j (xs ++ ys) ≡ drop i ys
drop_right [] ys i j h = let e : j ≡ i = omega (arith, h) in ap (λ n. drop n ys) e
drop_right (x ∷ xs) ys i zero h = absurd (omega (arith, h))
drop_right (x ∷ xs) ys i (suc j) h = drop_right xs ys i j (omega (arith, h))

-- a process in a form that binds b names of the types g, with its own names by their numbers
abbrev inside : Env → Env → ℕ → Process → Process
inside e g b p = numbered [] (length (e ++ g)) (enter b (length e) p)

-- the nodes of a process, from place `at` on, and its notes, from node i on begin with those of the process of node i
pub record StandsAtNode (at : ℕ) (e : Env) (p : Process) (i : ℕ) (e' : Env) (q : Process) : Type 0 where
  pub rest : List Shape
  pub behind : List Note
  pub shapes : drop i (flat at (length e) (numbered [] (length e) p)) ≡ flat (at + i) (length e') (numbered [] (length e') q) ++ rest
  pub seen : drop i (notes (numbered [] (length e) p) e) ≡ notes (numbered [] (length e') q) e' ++ behind

pub located : {e e' : Env} {p q : Process} {i : ℕ} (at : ℕ) → ReachesNode e p i e' q → StandsAtNode at e p i e' q
located {e = e} {p = p} at reach_root =
    let tree = numbered [] (length e) p in
    let z : at ≡ at + 0 = omega arith in
    record {
      rest = [];
      behind = [];
      shapes = ap (λ n. flat n (length e) tree) z ∙ sym (append-nil (flat (at + 0) (length e) tree));
      seen = sym (append-nil (notes tree e));
    }
located {e = e} {e' = e'} {q = q} at (reach_prefix {s = s} {p = p} {i = i} r) =
    let k = length e in
    let inner = e ++ more e s in
    let a = inside e (more e s) (binds s) p in
    let n : k + binds s ≡ length inner = omega (arith, length-append e (more e s), length_more e s) in
    let z : suc at + i ≡ at + suc i = omega arith in
    let w = located (suc at) r in
    record {
      rest = w.rest;
      behind = w.behind;
      shapes =
          ap (λ t. drop (suc i) (flat at k t)) (numbered_prefix e s p)
          ∙ ap (λ m. drop i (flat (suc at) m a)) n
          ∙ w.shapes
          ∙ ap (λ m. flat m (length e') (numbered [] (length e') q) ++ w.rest) z;
      seen = ap (λ t. drop (suc i) (notes t e)) (numbered_prefix e s p) ∙ w.seen;
    }
located {e = e} {e' = e'} {q = p'} at (reach_first {f = f} {p = p} {q = q} {i = i} r) =
    let m = length e + fork_binds f in
    let e1 = e ++ on_first f in
    let e2 = e ++ on_rest f in
    let a = inside e (on_first f) (fork_binds f) p in
    let b = inside e (on_rest f) (fork_binds f) q in
    let fq = flat (suc at + process_size a) m b in
    let tree = numbered [] (length e') p' in
    let n : m ≡ length e1 = omega (arith, length-append e (on_first f), length_first f) in
    let size = size_numbered (enter (fork_binds f) (length e) p) [] (length e1) in
    let l : i ≤ length (flat (suc at) m a) = omega (arith, reach_within r, size, length_flat a (suc at) m) in
    let l' : i ≤ length (notes a e1) = omega (arith, reach_within r, size, length_notes a e1) in
    let z : suc at + i ≡ at + suc i = omega arith in
    let w = located (suc at) r in
    record {
      rest = w.rest ++ fq;
      behind = w.behind ++ notes b e2;
      shapes =
          ap (λ t. drop (suc i) (flat at (length e) t)) (numbered_fork e f p q)
          ∙ drop_left (flat (suc at) m a) fq i l
          ∙ ap (λ m. drop i (flat (suc at) m a) ++ fq) n
          ∙ ap (λ l. l ++ fq) w.shapes
          ∙ append_assoc (flat (suc at + i) (length e') tree) w.rest fq
          ∙ ap (λ m. flat m (length e') tree ++ (w.rest ++ fq)) z;
      seen =
          ap (λ t. drop (suc i) (notes t e)) (numbered_fork e f p q)
          ∙ drop_left (notes a e1) (notes b e2) i l'
          ∙ ap (λ l. l ++ notes b e2) w.seen
          ∙ append_assoc (notes tree e') w.behind (notes b e2);
    }
located {e = e} {e' = e'} {q = p'} at (reach_rest {f = f} {p = p} {q = q} {i = i} {j = j} r g) =
    let m = length e + fork_binds f in
    let e1 = e ++ on_first f in
    let e2 = e ++ on_rest f in
    let a = inside e (on_first f) (fork_binds f) p in
    let b = inside e (on_rest f) (fork_binds f) q in
    let from = suc at + process_size a in
    let tree = numbered [] (length e') p' in
    let n : m ≡ length e2 = omega (arith, length-append e (on_rest f), length_rest f) in
    let size = size_numbered (enter (fork_binds f) (length e) p) [] (length e1) in
    let l : j ≡ length (flat (suc at) m a) + i = omega (arith, g, size, size_enter (fork_binds f) (length e) p, length_flat a (suc at) m) in
    let l' : j ≡ length (notes a e1) + i = omega (arith, g, size, size_enter (fork_binds f) (length e) p, length_notes a e1) in
    let z : from + i ≡ at + suc j = omega (arith, g, size, size_enter (fork_binds f) (length e) p) in
    let w = located from r in
    record {
      rest = w.rest;
      behind = w.behind;
      shapes =
          ap (λ t. drop (suc j) (flat at (length e) t)) (numbered_fork e f p q)
          ∙ drop_right (flat (suc at) m a) (flat from m b) i j l
          ∙ ap (λ m. drop i (flat from m b)) n
          ∙ w.shapes
          ∙ ap (λ m. flat m (length e') tree ++ w.rest) z;
      seen =
          ap (λ t. drop (suc j) (notes t e)) (numbered_fork e f p q)
          ∙ drop_right (notes a e1) (notes b e2) i j l'
          ∙ w.seen;
    }

-- what the forward pass notes
pub scan_is : (k : ℕ) (p : Process) (env : Env) → k ≡ length env → scan 0 env [] (spelled k p) ≡ notes (numbered [] k p) env
scan_is k p env names =
    let nodes = spelled k p in
    let tree = numbered [] k p in
    let s = scan_flat tree env env [] [] 0 k [] names (take_all k env (omega (arith, names))) refl tt in
    ap (scan 0 env []) (sym (append-nil nodes)) ∙ s.is ∙ append-nil (notes tree env)

-- the backward pass has come to the effect of node i's process there
pub record RunsTo (k : ℕ) (p : Process) (env : Env) (i : ℕ) (e : Env) (q : Process) : Type 0 where
  pub others : List (Option Effect)
  pub is : run_notes (drop i (spelled k p)) (drop i (scan 0 env [] (spelled k p))) ≡ effect_of (numbered [] (length e) q) e ∷ others

runs_at : {env e : Env} {p q : Process} {i : ℕ} → ReachesNode env p i e q → RunsTo (length env) p env i e q
runs_at {env = env} {e = e} {p = p} {q = q} {i = i} r =
    let w = located 0 r in
    let tree = numbered [] (length e) q in
    record {
      others = run_notes w.rest w.behind;
      is =
          ap (λ ns. run_notes (drop i (spelled (length env) p)) (drop i ns)) (scan_is (length env) p env refl)
          ∙ ap (λ ss. run_notes ss (drop i (notes (numbered [] (length env) p) env))) w.shapes
          ∙ ap (run_notes (flat (0 + i) (length e) tree ++ w.rest)) w.seen
          ∙ run_flat tree e (0 + i) (length e) w.rest w.behind refl;
    }

pub runs_to : {env e : Env} {p q : Process} {i : ℕ} (k : ℕ) → k ≡ length env → ReachesNode env p i e q → RunsTo k p env i e q
runs_to {env = env} {e = e} {p = p} {q = q} {i = i} k n r =
    subst (λ k. RunsTo k p env i e q) (sym n) (runs_at r)

-- the process of a node is over the names in scope there
over_inside : (e g : Env) (b : ℕ) (p : Process) → length g ≡ b → OfProcess (MessageOver (length e)) (0 + b) p → ProcessOver (length (e ++ g)) (enter b (length e) p)
over_inside e g b p n o =
    let m = length-append e g in
    let z : 0 + b ≡ b = omega arith in
    over_enter b (length e) (length (e ++ g)) p (omega (arith, m, n)) (over_more_process (length e) (length (e ++ g)) (omega (arith, m)) b p (subst (λ j. OfProcess (MessageOver (length e)) j p) z o))

pub over_reached : {e e' : Env} {p q : Process} {i : ℕ} → ReachesNode e p i e' q → ProcessOver (length e) p → ProcessOver (length e') q
over_reached reach_root o = o
over_reached {e = e} (reach_prefix {s = s} {p = p} r) o = over_reached r (over_inside e (more e s) (binds s) p (length_more e s) o.1)
over_reached {e = e} (reach_first {f = f} {p = p} r) o = over_reached r (over_inside e (on_first f) (fork_binds f) p (length_first f) o.1)
over_reached {e = e} (reach_rest {f = f} {q = q} r g) o = over_reached r (over_inside e (on_rest f) (fork_binds f) q (length_rest f) o.2)
