-- The way through the nodes of a process, against the process.
use Rattle.std.proofs.Common.{◌≡◌, ℕ, suc, ◌+◌, ◌-◌, ◌≤◌, List, [], ◌∷◌, ◌++◌, Some, replicate, length, take, drop, refl, sym, ap, ◌∙◌, subst, arith, append-nil, append_assoc, length-append}
use Rattle.std.specs.Prelude.{slice_get}
use Rattle.std.proofs.Math.Seq.{take-length}
use Rattle.std.proofs.lemmas.List.{take-take, take-append-le, length-take-le, drop_all}
use Rattle.spi_term.specs.Term.{Ty, un, Leaf, Prefix, Fork, Process, leaf, prefix, fork, binds, fork_binds, process_size, Recvs}
use Rattle.spi_term.specs.Spelling.{Shape, leaf_at, prefix_at, fork_at, flat, numbered, spelled}
use Rattle.spi_term.specs.Arena.{scope_of}
use Rattle.spi_term.proofs.Lists.{drop_get}
use Rattle.spi_rules.specs.Environment.{untrusted}
use Rattle.spi_rules.specs.Derivations.{RuleUse}
use Rattle.spi_rules.proofs.Typing.{length_untrusted}
use Rattle.spi_message.specs.Forms.{on_first, on_rest}
use Rattle.spi_message.proofs.Opened.{length_first, length_rest}
use Rattle.spi_show.proofs.Passing.{flat_at}
use Rattle.spi_deriv.specs.Agenda.{next_types, node_uses, IsPassed}
use Rattle.spi_deriv.specs.Uses.{leaf_uses, prefix_uses, fork_uses, binding, process_uses}

-- a process that is to be done, and the types of the names in scope in it
pub data Task : Type 0 where
  task : Process → List Ty → Task

-- their nodes from place i on, and their uses
abbrev pub nodes_of : ℕ → List Task → List Shape
nodes_of i [] = []
nodes_of i (task q e ∷ ts) = flat i (length e) q ++ nodes_of (i + process_size q) ts

abbrev pub task_uses : List Task → List RuleUse
task_uses [] = []
task_uses (task q e ∷ ts) = process_uses q e ++ task_uses ts

-- Each has its own names on top of the first k of those in scope now, and k grows towards the first task, up to n.
pub data AreTasks (now : List Ty) : ℕ → List Task → List (List Ty) → Type 0 where
  tasks_none : {n : ℕ} → AreTasks now n [] []
  tasks_next : {n k : ℕ} {q : Process} {e b : List Ty} {ts : List Task} {bs : List (List Ty)} → k ≤ n → e ≡ take k now ++ b → AreTasks now k ts bs → AreTasks now n (task q e ∷ ts) (b ∷ bs)

tasks_moved : {now later : List Ty} {n m : ℕ} {ts : List Task} {bs : List (List Ty)} → n ≤ m → ((j : ℕ) → j ≤ n → take j now ≡ take j later) → AreTasks now n ts bs → AreTasks later m ts bs
tasks_moved l f tasks_none = tasks_none
tasks_moved l f (tasks_next {k = k} {b = b} h g r) =
    tasks_next {k = k} (omega (arith, l, h)) (g ∙ ap (λ l. l ++ b) (f k h)) (tasks_moved (omega arith) (λ j i. f j (omega (arith, i, h))) r)

-- the nodes before place i are passed
pub record PassesNodes (ss : List Shape) (all : List RuleUse) (i : ℕ) (now : List Ty) (bs : List (List Ty)) (us : List RuleUse) : Type 0 where
  pub tasks : List Task
  pub are : AreTasks now (length now) tasks bs
  pub nodes : drop i ss ≡ nodes_of i tasks
  pub uses : us ++ task_uses tasks ≡ all

whole : (e b : List Ty) → e ++ b ≡ take (length e) e ++ b
whole e b = ap (λ l. l ++ b) (sym (take-length e))

pub passes_start : (q : Process) (e : List Ty) → PassesNodes (flat 0 (length e) q) (process_uses q e) 0 e ([] ∷ []) []
passes_start q e = record {
  tasks = task q e ∷ [];
  are = tasks_next {k = length e} (omega arith) (sym (append-nil e) ∙ whole e []) tasks_none;
  nodes = sym (append-nil (flat 0 (length e) q));
  uses = append-nil (process_uses q e);
}

-- at the root, with so many names of type Un
pub passes_from : (k n : ℕ) (p : Process) (t : Ty) (now : List Ty) (bs : List (List Ty)) (us : List RuleUse) → n ≡ k → t ≡ un → now ≡ replicate n t → bs ≡ [] ∷ [] → us ≡ [] → PassesNodes (spelled k p) (process_uses (numbered [] k p) (untrusted k)) 0 now bs us
passes_from k n p t now bs us h g e b u =
    let q = numbered [] k p in
    let all = process_uses q (untrusted k) in
    let f : now ≡ untrusted k = e ∙ ap (λ t. replicate n t) g ∙ ap (λ n. replicate n un) h in
    let s = subst (λ m. PassesNodes (flat 0 m q) all 0 (untrusted k) ([] ∷ []) []) (length_untrusted k) (passes_start q (untrusted k)) in
    subst (λ us. PassesNodes (spelled k p) all 0 now bs us) (sym u) (subst (λ bs. PassesNodes (spelled k p) all 0 now bs []) (sym b) (subst (λ e. PassesNodes (spelled k p) all 0 e ([] ∷ []) []) (sym f) s))

length_binding : (s : Prefix) → length (binding s) ≡ binds s
length_binding (Recvs m t) = refl
length_binding _ = refl

-- processes at another place
nodes_at : (ts : List Task) {i j : ℕ} → i ≡ j → nodes_of i ts ≡ nodes_of j ts
nodes_at ts h = ap (λ i. nodes_of i ts) h

module _ (ss : List Shape) (all : List RuleUse) (i : ℕ) (e : List Ty) (bs : List (List Ty)) (us : List RuleUse) (ts : List Task) (more : AreTasks e (length e) ts bs) where
  abbrev Next : Shape → Type 0
  Next x = (scope_of x ≡ length e) × PassesNodes ss all (i + 1) e (next_types x ++ bs) (us ++ node_uses e x)

  next_leaf : (l : Leaf) → drop (i + 1) ss ≡ nodes_of (i + 1) ts → us ++ (leaf_uses e l ++ task_uses ts) ≡ all → Next (leaf_at (length e) l)
  next_leaf l h u = (
    refl,
    record {
      tasks = ts;
      are = more;
      nodes = h;
      uses = append_assoc us (leaf_uses e l) (task_uses ts) ∙ u;
    },
  )

  next_prefix : (s : Prefix) (p : Process) → drop (i + 1) ss ≡ flat (suc i) (length e + binds s) p ++ nodes_of (i + suc (process_size p)) ts → us ++ ((prefix_uses e s ++ process_uses p (e ++ binding s)) ++ task_uses ts) ≡ all → Next (prefix_at (length e) s (suc i))
  next_prefix s p h u =
      let f = e ++ binding s in
      let a : suc i ≡ i + 1 = omega arith in
      let n : length e + binds s ≡ length f = omega (arith, length-append e (binding s), length_binding s) in
      let z : i + suc (process_size p) ≡ i + 1 + process_size p = omega arith in (
        refl,
        record {
          tasks = task p f ∷ ts;
          are = tasks_next {k = length e} (omega arith) (whole e (binding s)) more;
          nodes = h ∙ ap (λ l. l ++ nodes_of (i + suc (process_size p)) ts) (flat_at p a n) ∙ ap (λ l. flat (i + 1) (length f) p ++ l) (nodes_at ts z);
          uses =
              append_assoc us (prefix_uses e s) (process_uses p f ++ task_uses ts)
              ∙ ap (λ l. us ++ l) (sym (append_assoc (prefix_uses e s) (process_uses p f) (task_uses ts)))
              ∙ u;
        },
      )

  next_fork : (f : Fork) (p q : Process) → drop (i + 1) ss ≡ (flat (suc i) (length e + fork_binds f) p ++ flat (suc i + process_size p) (length e + fork_binds f) q) ++ nodes_of (i + suc (process_size p + process_size q)) ts → us ++ ((fork_uses e f ++ (process_uses p (e ++ on_first f) ++ process_uses q (e ++ on_rest f))) ++ task_uses ts) ≡ all → Next (fork_at (length e) f (suc i) (suc i + process_size p))
  next_fork f p q h u =
      let g = e ++ on_first f in
      let k = e ++ on_rest f in
      let a : suc i ≡ i + 1 = omega arith in
      let c : suc i + process_size p ≡ i + 1 + process_size p = omega arith in
      let n : length e + fork_binds f ≡ length g = omega (arith, length-append e (on_first f), length_first f) in
      let m : length e + fork_binds f ≡ length k = omega (arith, length-append e (on_rest f), length_rest f) in
      let z : i + suc (process_size p + process_size q) ≡ i + 1 + process_size p + process_size q = omega arith in
      let fp = flat (suc i) (length e + fork_binds f) p in
      let fq = flat (suc i + process_size p) (length e + fork_binds f) q in
      let up = process_uses p g in
      let uq = process_uses q k in (
        refl,
        record {
          tasks = task p g ∷ (task q k ∷ ts);
          are = tasks_next {k = length e} (omega arith) (whole e (on_first f)) (tasks_next {k = length e} (omega arith) (whole e (on_rest f)) more);
          nodes =
              h
              ∙ append_assoc fp fq (nodes_of (i + suc (process_size p + process_size q)) ts)
              ∙ ap (λ l. l ++ (fq ++ nodes_of (i + suc (process_size p + process_size q)) ts)) (flat_at p a n)
              ∙ ap (λ l. flat (i + 1) (length g) p ++ (l ++ nodes_of (i + suc (process_size p + process_size q)) ts)) (flat_at q c m)
              ∙ ap (λ l. flat (i + 1) (length g) p ++ (flat (i + 1 + process_size p) (length k) q ++ l)) (nodes_at ts z);
          uses =
              append_assoc us (fork_uses e f) (up ++ (uq ++ task_uses ts))
              ∙ ap (λ l. us ++ (fork_uses e f ++ l)) (sym (append_assoc up uq (task_uses ts)))
              ∙ ap (λ l. us ++ l) (sym (append_assoc (fork_uses e f) (up ++ uq) (task_uses ts)))
              ∙ u;
        },
      )

  next_by : (q : Process) (x : Shape) → x ∷ drop (i + 1) ss ≡ nodes_of i (task q e ∷ ts) → us ++ (process_uses q e ++ task_uses ts) ≡ all → Next x
  next_by (leaf l) x h u =
      let a : x ≡ leaf_at (length e) l = cc in
      let b : drop (i + 1) ss ≡ nodes_of (i + 1) ts = cc in
      subst Next (sym a) (next_leaf l b u)
  next_by (prefix s p) x h u =
      let a : x ≡ prefix_at (length e) s (suc i) = cc in
      let b : drop (i + 1) ss ≡ flat (suc i) (length e + binds s) p ++ nodes_of (i + suc (process_size p)) ts = cc in
      subst Next (sym a) (next_prefix s p b u)
  next_by (fork f p q) x h u =
      let a : x ≡ fork_at (length e) f (suc i) (suc i + process_size p) = cc in
      let b : drop (i + 1) ss ≡ (flat (suc i) (length e + fork_binds f) p ++ flat (suc i + process_size p) (length e + fork_binds f) q) ++ nodes_of (i + suc (process_size p + process_size q)) ts = cc in
      subst Next (sym a) (next_fork f p q b u)

-- one more node
next_from : (ss : List Shape) (all : List RuleUse) (i : ℕ) (x : Shape) {now later : List Ty} {bs cs : List (List Ty)} {us vs : List RuleUse} (ts : List Task) → AreTasks now (length now) ts bs → x ∷ drop (i + 1) ss ≡ nodes_of i ts → us ++ task_uses ts ≡ all → ((b : List Ty) (rest : List (List Ty)) → bs ≡ b ∷ rest → IsPassed (scope_of x) x b rest now later cs us vs) → PassesNodes ss all (i + 1) later cs vs
next_from ss all i x [] tasks_none h u p = absurd (cc h)
next_from ss all i x {now} {later} {cs = cs} {us = us} {vs = vs} (task q e ∷ ts) (tasks_next {k = k} {b = b} {bs = rest} l g r) h u p =
    let w = p b rest refl in
    let low = length-take-le k now l in
    let n : length e ≡ k + length b = omega (arith, ap length g, length-append (take k now) b, low) in
    let more : AreTasks e (length e) ts rest = tasks_moved (omega (arith, n)) (λ j m. sym (ap (take j) g ∙ take-append-le j (take k now) b (omega (arith, m, low)) ∙ take-take j k now m)) r in
    let d = next_by ss all i e rest us ts more q x h u in
    let z : scope_of x - length b ≡ k = omega (arith, d.0, n) in
    let t : later ≡ e = w.types ∙ ap (λ k. take k now ++ b) z ∙ sym g in
    let v = w.uses ∙ ap (λ l. us ++ node_uses l x) t in
    subst (λ vs. PassesNodes ss all (i + 1) later cs vs) (sym v) (subst (λ cs. PassesNodes ss all (i + 1) later cs (us ++ node_uses e x)) (sym w.left) (subst (λ l. PassesNodes ss all (i + 1) l (next_types x ++ rest) (us ++ node_uses e x)) (sym t) d.1))

pub passes_next : {ss : List Shape} {all : List RuleUse} {i : ℕ} {now later : List Ty} {bs cs : List (List Ty)} {us vs : List RuleUse} (x : Shape) (n : ℕ) → PassesNodes ss all i now bs us → slice_get ss i ≡ Some x → n ≡ scope_of x → ((b : List Ty) (rest : List (List Ty)) → bs ≡ b ∷ rest → IsPassed n x b rest now later cs us vs) → PassesNodes ss all (i + 1) later cs vs
passes_next {ss} {all} {i} {now} {later} {bs} {cs} {us} {vs} x n w at h p =
    let q : (b : List Ty) (rest : List (List Ty)) → bs ≡ b ∷ rest → IsPassed (scope_of x) x b rest now later cs us vs
    = λ b rest e. subst (λ n. IsPassed n x b rest now later cs us vs) h (p b rest e) in
    next_from ss all i x w.tasks w.are (ap (λ n. x ∷ drop n ss) (let z : i + 1 ≡ suc i = omega arith in z) ∙ sym (drop_get ss i x at) ∙ w.nodes) w.uses q

-- behind the last node nothing is left
none_left : (i : ℕ) (ts : List Task) → [] ≡ nodes_of i ts → task_uses ts ≡ []
none_left i [] h = refl
none_left i (task (leaf l) e ∷ ts) h = absurd (cc h)
none_left i (task (prefix s p) e ∷ ts) h = absurd (cc h)
none_left i (task (fork f p q) e ∷ ts) h = absurd (cc h)

pub passes_end : {ss : List Shape} {all : List RuleUse} {i : ℕ} {now : List Ty} {bs : List (List Ty)} {us : List RuleUse} → PassesNodes ss all i now bs us → length ss ≤ i → us ≡ all
passes_end {ss} {all} {i} {us = us} w l =
    sym (append-nil us) ∙ ap (λ l. us ++ l) (sym (none_left i w.tasks (sym (drop_all i ss l) ∙ w.nodes))) ∙ w.uses
