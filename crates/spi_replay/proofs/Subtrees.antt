-- What stands at the nodes of a process.
use Rattle.std.proofs.Common.{◌≡◌, ℕ, zero, suc, ◌+◌, List, [], ◌∷◌, drop, Some, slice_get, refl, sym, ap, ◌∙◌, subst, arith, drop-drop}
use Rattle.spi_term.specs.Term.{Leaf, Prefix, Fork, Process, leaf, prefix, fork, binds, fork_binds, process_size}
use Rattle.spi_term.specs.Names.{MessageOver, OfLeaf, OfPrefix, OfFork, ProcessOver}
use Rattle.spi_term.specs.Spelling.{Shape, leaf_at, prefix_at, fork_at, numbered, spelled, on_one, on_two, built, first_of_all}
use Rattle.spi_term.specs.Arena.{InScope, ScopedProcess, item, ReadsProcesses, no_node, leaf_on, prefix_on, fork_on, IsArena, scope_of}
use Rattle.spi_term.proofs.Lists.{get_first, drop_get}
use Rattle.spi_term.proofs.Rows.{reads_rest, reads_sound, arena_reads, arena_readable}
use Rattle.spi_term.proofs.Numbers.{numbered_in_scope}
use Rattle.spi_replay.specs.Holding.{subtree}

next_drop : (ss : List Shape) (i : ℕ) (x : Shape) (r : List Shape) → drop i ss ≡ x ∷ r → drop (suc i) ss ≡ r
next_drop [] zero x r e = absurd cc
next_drop [] (suc i) x r e = absurd cc
next_drop (y ∷ ss) zero x r e = cc
next_drop (y ∷ ss) (suc i) x r e = next_drop ss i x r e

abbrev trees : List ScopedProcess → List Process
trees [] = []
trees (item k q ∷ st) = q ∷ trees st

built_reads : {i : ℕ} {ss : List Shape} {st : List ScopedProcess} → ReadsProcesses i ss st → built ss ≡ trees st
built_reads no_node = refl
built_reads (leaf_on {l = l} h r) = ap (λ x. leaf l ∷ x) (built_reads r)
built_reads (prefix_on {s = s} h e r) = ap (on_one s) (built_reads r)
built_reads (fork_on {f = f} h e g r) = ap (on_two f) (built_reads r)

-- the first node of a process that is read
record Heads (ss : List Shape) (s : ℕ) : Type 0 where
  pub shape : Shape
  pub rest : List Shape
  pub is : ss ≡ shape ∷ rest
  pub scope : scope_of shape ≡ s

heads : {i s : ℕ} {p : Process} {ss : List Shape} {st : List ScopedProcess} → ReadsProcesses i ss (item s p ∷ st) → Heads ss s
heads (leaf_on {k = k} {l = l} {ss = ss} h r) = record { shape = leaf_at k l; rest = ss; is = refl; scope = refl }
heads (prefix_on {k = k} {b = b} {s = s} {ss = ss} h e r) = record { shape = prefix_at k s b; rest = ss; is = refl; scope = refl }
heads (fork_on {k = k} {a = a} {r = r'} {f = f} {ss = ss} h e g r) = record { shape = fork_at k f a r'; rest = ss; is = refl; scope = refl }

-- a node with s names in scope
pub record FollowsNode (ss : List Shape) (i s : ℕ) : Type 0 where
  pub shape : Shape
  pub there : slice_get ss i ≡ Some shape
  pub scope : scope_of shape ≡ s
  pub within : InScope s (subtree ss i)

-- the process at a node by its form
pub data IsNode (ss : List Shape) (i : ℕ) : Shape → Type 0 where
  node_leaf : {s : ℕ} {l : Leaf} → OfLeaf (MessageOver s) 0 l → subtree ss i ≡ leaf l → IsNode ss i (leaf_at s l)
  node_prefix : {s b : ℕ} {t : Prefix} → OfPrefix (MessageOver s) 0 t → subtree ss i ≡ prefix t (subtree ss b) → FollowsNode ss b (s + binds t) → IsNode ss i (prefix_at s t b)
  node_fork : {s a r : ℕ} {f : Fork} → OfFork (MessageOver s) 0 f → subtree ss i ≡ fork f (subtree ss a) (subtree ss r) → FollowsNode ss a (s + fork_binds f) → FollowsNode ss r (s + fork_binds f) → IsNode ss i (fork_at s f a r)

tree_at : (ss : List Shape) (i s : ℕ) (p : Process) (st : List ScopedProcess) → ReadsProcesses i (drop i ss) (item s p ∷ st) → subtree ss i ≡ p
tree_at ss i s p st r = ap first_of_all (built_reads r)

follows : (ss : List Shape) (i s : ℕ) (p : Process) (st : List ScopedProcess) → ReadsProcesses i (drop i ss) (item s p ∷ st) → FollowsNode ss i s
follows ss i s p st r =
    let h = heads r in
    record {
      shape = h.shape;
      there = get_first ss i h.shape h.rest h.is;
      scope = h.scope;
      within = subst (InScope s) (sym (tree_at ss i s p st r)) (reads_sound r).0.0;
    }

read_at : {i j : ℕ} {ss ss' : List Shape} {st : List ScopedProcess} → i ≡ j → ss ≡ ss' → ReadsProcesses i ss st → ReadsProcesses j ss' st
read_at {i} {j} {ss} {ss'} {st} e f r = subst (λ n. ReadsProcesses n ss' st) e (subst (λ l. ReadsProcesses i l st) f r)

node_from : (ss : List Shape) (i : ℕ) (x : Shape) (rest : List Shape) (st : List ScopedProcess) → drop i ss ≡ x ∷ rest → ReadsProcesses i (x ∷ rest) st → IsNode ss i x
node_from ss i _ rest _ d (leaf_on {k = k} {l = l} h r) = node_leaf h (ap (λ x. first_of_all (built x)) d)
node_from ss i _ rest _ d (prefix_on {k = k} {b = b} {s = s} {p = p} {st = st} h e r) =
    let n = next_drop ss i (prefix_at k s b) rest d in
    let r' = read_at (sym e) (sym n ∙ ap (λ j. drop j ss) (sym e)) r in
    let t : subtree ss b ≡ p = tree_at ss b (k + binds s) p st r' in
    node_prefix h (ap (λ x. first_of_all (built x)) d ∙ ap (λ x. first_of_all (on_one s x)) (built_reads r) ∙ ap (prefix s) (sym t)) (follows ss b (k + binds s) p st r')
node_from ss i _ rest _ d (fork_on {k = k} {a = a} {r = r0} {f = f} {p = p} {q = q} {st = st} h e g r) =
    let m = k + fork_binds f in
    let n = next_drop ss i (fork_at k f a r0) rest d in
    let r' = read_at (sym e) (sym n ∙ ap (λ j. drop j ss) (sym e)) r in
    let second = reads_rest p (suc i) m rest (item m q ∷ st) r in
    let w : drop (process_size p) rest ≡ drop r0 ss = ap (drop (process_size p)) (sym n) ∙ drop-drop (process_size p) (suc i) ss ∙ ap (λ j. drop j ss) (sym g) in
    let r'' = read_at (sym g) w second in
    let t : p ≡ subtree ss a = sym (tree_at ss a m p (item m q ∷ st) r') in
    let u : q ≡ subtree ss r0 = sym (tree_at ss r0 m q st r'') in
    node_fork h (ap (λ x. first_of_all (built x)) d ∙ ap (λ x. first_of_all (on_two f x)) (built_reads r) ∙ (λ i. fork f (t i) (u i))) (follows ss a m p (item m q ∷ st) r') (follows ss r0 m q st r'')

spelled_arena : (k : ℕ) (p : Process) → ProcessOver k p → IsArena k (spelled k p)
spelled_arena k p h = (numbered [] k p, numbered_in_scope k 0 k (omega arith) p h, refl)

pub node_at : (k : ℕ) (p : Process) → ProcessOver k p → (i : ℕ) (x : Shape) → slice_get (spelled k p) i ≡ Some x → IsNode (spelled k p) i x
node_at k p h i x e =
    let a = arena_readable k (spelled k p) i (spelled_arena k p h) in
    let d = drop_get (spelled k p) i x e in
    node_from (spelled k p) i x (drop (suc i) (spelled k p)) a.0 d (read_at refl d a.1)

-- the first node
pub root_tree : (k : ℕ) (p : Process) → ProcessOver k p → subtree (spelled k p) 0 ≡ numbered [] k p
unfolding spelled_arena
root_tree k p h =
    let a = spelled_arena k p h in
    tree_at (spelled k p) 0 k (numbered [] k p) [] (arena_reads k (spelled k p) (numbered [] k p) a.1 refl)

pub root_follows : (k : ℕ) (p : Process) → ProcessOver k p → FollowsNode (spelled k p) 0 k
unfolding spelled_arena
root_follows k p h =
    let a = spelled_arena k p h in
    follows (spelled k p) 0 k (numbered [] k p) [] (arena_reads k (spelled k p) (numbered [] k p) a.1 refl)
