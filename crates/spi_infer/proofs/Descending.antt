-- From the root down to a node.
use Rattle.std.proofs.Common.{◌≡◌, refl, sym, ap, ◌∙◌, subst, ℕ, zero, suc, ◌+◌, ◌-◌, ◌<◌, ◌≤◌, ⊎_elim, List, [], ◌∷◌, ◌++◌, drop, length, Some, arith}
use Rattle.std.specs.Prelude.{slice_get}
use Rattle.std.proofs.lemmas.Bool.{cases_lt}
use Rattle.spi_term.specs.Term.{Prefix, Fork, Leaf, Process, leaf, prefix, fork, binds, fork_binds, process_size}
use Rattle.spi_term.specs.Spelling.{Shape, prefix_at, fork_at, flat, numbered, spelled, IsSmall}
use Rattle.spi_term.specs.Arena.{scope_of}
use Rattle.spi_term.proofs.Lists.{head_is, drop_get}
use Rattle.spi_term.proofs.Numbers.{size_numbered, small_node}
use Rattle.spi_rules.specs.Environment.{Env, untrusted}
use Rattle.spi_rules.specs.Blocking.{NodeOf}
use Rattle.spi_message.specs.Forms.{enter, more, on_first, on_rest}
use Rattle.spi_infer.specs.Inferring.{IsReached}
use Rattle.spi_infer.specs.Reaching.{Descends}
use Rattle.spi_message.proofs.Opened.{numbered_leaf, numbered_prefix, numbered_fork, size_enter}
use Rattle.spi_infer.proofs.Reach.{ReachesNode, reach_root, reach_prefix, reach_first, reach_rest}
use Rattle.spi_infer.proofs.Blocked.{reach_within}
use Rattle.spi_infer.proofs.Nodes.{node_of, reached_of, at_number}
use Rattle.spi_infer.proofs.Located.{located}

-- node i is on the way to `node`
pub record Toward (env : Env) (p : Process) (node i : ℕ) (e : Env) : Type 0 where
  pub process : Process
  pub reached : ReachesNode env p i e process
  pub from : i ≤ node
  pub before : node < i + process_size process

-- node j is too, and nearer than node i
pub record Nearer (env : Env) (p : Process) (node i j : ℕ) (e : Env) : Type 0 where
  pub later : i < j
  pub toward : Toward env p node j e

pub toward_root : (env : Env) (p : Process) (node : ℕ) → node < process_size p → Toward env p node 0 env
toward_root env p node l = record { process = p; reached = reach_root; from = omega arith; before = omega (arith, l) }

reach_then : {e e' e'' : Env} {p p' p'' : Process} {i j : ℕ} → ReachesNode e p i e' p' → ReachesNode e' p' j e'' p'' → ReachesNode e p (i + j) e'' p''
reach_then {j = j} reach_root s = at_number (let z : j ≡ 0 + j = omega arith in z) s
reach_then {j = j} (reach_prefix {s = f} {i = i} r) s = at_number (let z : suc (i + j) ≡ suc i + j = omega arith in z) (reach_prefix {s = f} (reach_then r s))
reach_then {j = j} (reach_first {f = f} {i = i} r) s = at_number (let z : suc (i + j) ≡ suc i + j = omega arith in z) (reach_first {f = f} (reach_then r s))
reach_then {j = j} (reach_rest {f = f} {p = p} {i = i} {j = n} r g) s =
    at_number (let z : suc (n + j) ≡ suc n + j = omega arith in z) (reach_rest {f = f} (reach_then r s) (let z : n + j ≡ process_size p + (i + j) = omega (arith, g) in z))

module _ (k : ℕ) (p : Process) (env : Env) (names : k ≡ length env) (node i : ℕ) (e : Env) (x : Shape) (at : slice_get (spelled k p) i ≡ Some x) where
  first_is : {q : Process} → ReachesNode env p i e q → (rest : List Shape) × (x ∷ drop (suc i) (spelled k p) ≡ flat (0 + i) (length e) (numbered [] (length e) q) ++ rest)
  first_is {q} r =
      let w = located 0 r in
      (w.rest, sym (drop_get (spelled k p) i x at) ∙ ap (λ k. drop i (spelled k p)) names ∙ w.shapes)

  scope_at : (q : Process) → ReachesNode env p i e q → scope_of x ≡ length e
  scope_at (leaf l) r =
      let w = first_is r in
      ap scope_of (head_is (w.1 ∙ ap (λ t. flat (0 + i) (length e) t ++ w.0) (numbered_leaf (length e) l)))
  scope_at (prefix s q) r =
      let w = first_is r in
      ap scope_of (head_is (w.1 ∙ ap (λ t. flat (0 + i) (length e) t ++ w.0) (numbered_prefix e s q)))
  scope_at (fork f q q') r =
      let w = first_is r in
      ap scope_of (head_is (w.1 ∙ ap (λ t. flat (0 + i) (length e) t ++ w.0) (numbered_fork e f q q')))

  pub few_names : Toward env p node i e → IsSmall k p → length e ≤ 300000
  few_names t s = let n = scope_at t.process t.reached in let l = (small_node k p i x s at).1 in omega (arith, n, l)

  module _ (less : i < node) (j : ℕ) (e' : Env) where
    abbrev Next : Type 0
    Next = Nearer env p node i j e'

    -- node j stands in a process of node i that has `node`
    nearer_in : {inner : Env} {q : Process} → e' ≡ inner → ReachesNode env p j inner q → i < j → j ≤ node → node < j + process_size q → Next
    nearer_in {q = q} z r l f b = record {
      later = l;
      toward = record { process = q; reached = subst (λ e'. ReachesNode env p j e' q) (sym z) r; from = f; before = b };
    }

    nearer_leaf : (l : Leaf) → node < i + process_size (leaf l) → Next
    nearer_leaf l b = absurd (omega (arith, b))

    nearer_prefix : (s : Prefix) (q : Process) → ReachesNode env p i e (prefix s q) → node < i + process_size (prefix s q) → Descends (prefix_at (length e) s (suc (0 + i))) node e j e' → Next
    nearer_prefix s q r b d =
        let z : i + 1 ≡ j = omega (arith, d.0) in
        let n = size_enter (binds s) (length e) q in
        nearer_in d.1 (at_number z (reach_then r (at_number (let o : suc 0 ≡ 1 = omega arith in o) (reach_prefix {s = s} reach_root)))) (omega (arith, d.0)) (omega (arith, d.0)) (omega (arith, d.0, b, n))

    nearer_fork : (f : Fork) (q q' : Process) (r : ℕ) → r ≡ suc (0 + i) + process_size q → ReachesNode env p i e (fork f q q') → node < i + process_size (fork f q q') → Descends (fork_at (length e) f (suc (0 + i)) r) node e j e' → Next
    nearer_fork f q q' r n w b d = ⊎_elim here there (cases_lt node r)
      where
        here : node < r → Next
        here l =
            let g = d.0 l in
            let z : i + 1 ≡ j = omega (arith, g.0) in
            let m = size_enter (fork_binds f) (length e) q in
            nearer_in g.1 (at_number z (reach_then w (reach_first {f = f} {q = q'} reach_root))) (omega (arith, g.0)) (omega (arith, g.0)) (omega (arith, g.0, l, n, m))

        there : r ≤ node → Next
        there l =
            let g = d.1 l in
            let z : i + suc (process_size q) ≡ j = omega (arith, g.0, n) in
            let m = size_enter (fork_binds f) (length e) q' in
            let o : process_size q ≡ process_size q + 0 = omega arith in
            nearer_in g.1 (at_number z (reach_then w (reach_rest {f = f} {p = q} reach_root o))) (omega (arith, g.0, n)) (omega (arith, g.0, l)) (omega (arith, g.0, n, b, m))

    nearer_by : (q : Process) → ReachesNode env p i e q → node < i + process_size q → Descends x node e j e' → Next
    nearer_by (leaf l) r b d = nearer_leaf l b
    nearer_by (prefix s q) r b d =
        let w = first_is r in
        let h = head_is (w.1 ∙ ap (λ t. flat (0 + i) (length e) t ++ w.0) (numbered_prefix e s q)) in
        nearer_prefix s q r b (subst (λ x. Descends x node e j e') h d)
    nearer_by (fork f q q') r b d =
        let w = first_is r in
        let h = head_is (w.1 ∙ ap (λ t. flat (0 + i) (length e) t ++ w.0) (numbered_fork e f q q')) in
        let a = numbered [] (length (e ++ on_first f)) (enter (fork_binds f) (length e) q) in
        let n : suc (0 + i) + process_size a ≡ suc (0 + i) + process_size q
        = ap (λ m. suc (0 + i) + m) (size_numbered (enter (fork_binds f) (length e) q) [] (length (e ++ on_first f)) ∙ size_enter (fork_binds f) (length e) q) in
        nearer_fork f q q' (suc (0 + i) + process_size a) n r b (subst (λ x. Descends x node e j e') h d)

    pub nearer : Toward env p node i e → Descends x node e j e' → Next
    nearer t d = nearer_by t.process t.reached t.before d

-- the node itself
pub toward_end : (k : ℕ) (p : Process) (node i : ℕ) (e : Env) → Toward (untrusted k) p node i e → node ≤ i → IsReached k p node e
toward_end k p node i e t l =
    let z : i ≡ node = omega (arith, t.from) in
    (t.process, node_of (at_number z t.reached))

-- each node is reached
abbrev pub HasNodeAt : Env → Process → ℕ → Type 0
HasNodeAt e p i = (e' : Env) × (q : Process) × ReachesNode e p i e' q

reached_fork : (e : Env) (f : Fork) (p q : Process) (i : ℕ) → i < process_size p + process_size q → ((j : ℕ) → j < process_size p → HasNodeAt (e ++ on_first f) (enter (fork_binds f) (length e) p) j)
    → ((j : ℕ) → j < process_size q → HasNodeAt (e ++ on_rest f) (enter (fork_binds f) (length e) q) j) → HasNodeAt e (fork f p q) (suc i)
reached_fork e f p q i l first rest = ⊎_elim here there (cases_lt i (process_size p))
  where
    here : i < process_size p → HasNodeAt e (fork f p q) (suc i)
    here g = let w = first i g in (w.0, w.1, reach_first {f = f} {q = q} w.2)

    there : process_size p ≤ i → HasNodeAt e (fork f p q) (suc i)
    there g =
        let w = rest (i - process_size p) (omega arith) in
        (w.0, w.1, reach_rest {f = f} {p = p} w.2 (omega arith))

reached_by : (n : ℕ) (p : Process) (e : Env) (i : ℕ) → process_size p ≤ n → i < process_size p → HasNodeAt e p i
reached_by zero p e i h l = absurd (omega (arith, h, l))
reached_by (suc n) p e zero h l = (e, p, reach_root)
reached_by (suc n) (leaf b) e (suc i) h l = absurd (omega (arith, l))
reached_by (suc n) (prefix s p) e (suc i) h l =
    let m = size_enter (binds s) (length e) p in
    let w = reached_by n (enter (binds s) (length e) p) (e ++ more e s) i (omega (arith, m, h)) (omega (arith, m, l)) in
    (w.0, w.1, reach_prefix {s = s} w.2)
reached_by (suc n) (fork f p q) e (suc i) h l =
    let m = size_enter (fork_binds f) (length e) p in
    let m' = size_enter (fork_binds f) (length e) q in
    reached_fork e f p q i (omega (arith, l)) (λ j g. reached_by n (enter (fork_binds f) (length e) p) (e ++ on_first f) j (omega (arith, m, h)) (omega (arith, m, g))) (λ j g. reached_by n (enter (fork_binds f) (length e) q) (e ++ on_rest f) j (omega (arith, m', h)) (omega (arith, m', g)))

each_reached : (p : Process) (e : Env) (i : ℕ) → i < process_size p → HasNodeAt e p i
each_reached p e i l = reached_by (process_size p) p e i (omega arith) l

-- and at one environment and process only
reached_one : {e e1 e2 : Env} {p q1 q2 : Process} {i j : ℕ} → ReachesNode e p i e1 q1 → ReachesNode e p j e2 q2 → i ≡ j → (e1 ≡ e2) × (q1 ≡ q2)
reached_one reach_root reach_root h = (refl, refl)
reached_one reach_root (reach_prefix s) h = absurd (omega (arith, h))
reached_one reach_root (reach_first s) h = absurd (omega (arith, h))
reached_one reach_root (reach_rest s g) h = absurd (omega (arith, h))
reached_one (reach_prefix r) reach_root h = absurd (omega (arith, h))
reached_one (reach_prefix r) (reach_prefix s) h = reached_one r s (omega (arith, h))
reached_one (reach_first r) reach_root h = absurd (omega (arith, h))
reached_one (reach_first r) (reach_first s) h = reached_one r s (omega (arith, h))
reached_one (reach_first {e = e} {f = f} {p = p} r) (reach_rest s g) h =
    let l = reach_within r in
    let m = size_enter (fork_binds f) (length e) p in
    absurd (omega (arith, h, g, l, m))
reached_one (reach_rest r g) reach_root h = absurd (omega (arith, h))
reached_one (reach_rest {e = e} {f = f} {p = p} r g) (reach_first s) h =
    let l = reach_within s in
    let m = size_enter (fork_binds f) (length e) p in
    absurd (omega (arith, h, g, l, m))
reached_one (reach_rest r g) (reach_rest s g') h = reached_one r s (omega (arith, h, g, g'))

pub one_node : {env e1 e2 : Env} {p q1 q2 : Process} {i : ℕ} → NodeOf env p i e1 q1 → NodeOf env p i e2 q2 → (e1 ≡ e2) × (q1 ≡ q2)
one_node m n = reached_one (reached_of m) (reached_of n) refl

pub some_node : (p : Process) (env : Env) (i : ℕ) → i < process_size p → (e : Env) × (q : Process) × NodeOf env p i e q
some_node p env i l = let w = each_reached p env i l in (w.0, w.1, node_of w.2)
