-- The backward pass against the process: what is gathered from a node's place on.
use Rattle.std.proofs.Common.{◌≡◌, refl, sym, ap, ◌∙◌, subst, ℕ, suc, ◌+◌, List, [], ◌∷◌, ◌++◌, length, drop, Option, arith, append_assoc, length-append}
use Rattle.spi_infer.proofs.Located.{located, scan_is}
use Rattle.spi_infer.proofs.Nodes.{reached_of}
use Rattle.spi_infer.proofs.Passes.{notes, run_flat}
use Rattle.spi_infer.proofs.Reach.{ReachesNode}
use Rattle.spi_infer.specs.Forms.{effect_of}
use Rattle.spi_infer.specs.Passes.{Note, note_of, act, run_notes, scan}
use Rattle.spi_message.proofs.Opened.{length_more, length_first, length_rest}
use Rattle.spi_message.specs.Forms.{more, on_first, on_rest}
use Rattle.spi_origin.specs.Gathering.{Aim, all_blocking, all_origins, keeps, picks, with_node, at_top, joined_lists, top_sum, gather, picked}
use Rattle.spi_rules.specs.Blocking.{NodeOf}
use Rattle.spi_rules.specs.Environment.{Env}
use Rattle.spi_term.specs.Spelling.{Shape, leaf_at, prefix_at, fork_at, flat, numbered, spelled}
use Rattle.spi_term.specs.Term.{Effect, Leaf, Prefix, Fork, Process, leaf, prefix, fork, binds, fork_binds, process_size}

-- what is picked looks at the effects behind the node alone
leaf_picks : (w : Aim) (j k : ℕ) (l : Leaf) (n : Note) (st : List (Option Effect)) → picks w (leaf_at j l) n st ≡ picks w (leaf_at k l) n []
leaf_picks all_blocking j k l n st = refl
leaf_picks (all_origins a) j k l n st = refl

prefix_picks : (w : Aim) (x : Shape) (k b : ℕ) (s : Prefix) (n : Note) (o : Option Effect) (st : List (Option Effect)) → x ≡ prefix_at k s b → picks w x n (o ∷ st) ≡ picks w x n (o ∷ [])
prefix_picks all_blocking x k b s n o st e = rw e refl
prefix_picks (all_origins a) x k b s n o st e = refl

fork_picks : (w : Aim) (x : Shape) (k a r : ℕ) (f : Fork) (n : Note) (o o' : Option Effect) (st : List (Option Effect)) → x ≡ fork_at k f a r → picks w x n (o ∷ (o' ∷ st)) ≡ picks w x n (o ∷ (o' ∷ []))
fork_picks all_blocking x k a r f n o o' st e = rw e refl
fork_picks (all_origins b) x k a r f n o o' st e = refl

pub lists_flat : (w : Aim) (q : Process) (e : Env) (i k : ℕ) (ss : List Shape) (bs : List Note) → k ≡ length e → gather w i (flat i k q ++ ss) (notes q e ++ bs) ≡ picked w q e i ∷ gather w (i + process_size q) ss bs
lists_flat w (leaf l) e i k ss bs n =
    let x = leaf_at (length e) l in
    let z : suc i ≡ i + 1 = omega arith in
    ap (λ b. with_node (keeps w (effect_of (leaf l) e)) b i [] ∷ gather w (suc i) ss bs) (leaf_picks w k (length e) l (note_of e x) (run_notes ss bs))
    ∙ ap (λ j. picked w (leaf l) e i ∷ gather w j ss bs) z
lists_flat w (prefix s p) e i k ss bs n =
    let e' = e ++ more e s in
    let n' : k + binds s ≡ length e' = omega (arith, length-append e (more e s), length_more e s) in
    let m = note_of e (prefix_at k s (suc i)) in
    let z : suc i + process_size p ≡ i + suc (process_size p) = omega arith in
    let st = effect_of p e' ∷ run_notes ss bs in
    let l = picked w p e' (suc i) in
    let rest = gather w (suc i + process_size p) ss bs in
    let go = λ (j : ℕ) (st : List (Option Effect)) (ls : List (List ℕ)). at_top (with_node (keeps w (top_sum (act (prefix_at j s (suc i)) m st))) (picks w (prefix_at j s (suc i)) m st) i) ls in
    let x = prefix_at (length e) s (suc i) in
    ap (λ st. go k st (gather w (suc i) (flat (suc i) (k + binds s) p ++ ss) (notes p e' ++ bs))) (run_flat p e' (suc i) (k + binds s) ss bs n')
    ∙ ap (go k st) (lists_flat w p e' (suc i) (k + binds s) ss bs n')
    ∙ ap (λ j. go j st (l ∷ rest)) n
    ∙ ap (λ b. with_node (keeps w (effect_of (prefix s p) e)) b i l ∷ rest) (prefix_picks w x (length e) (suc i) s m (effect_of p e') (run_notes ss bs) refl)
    ∙ ap (λ j. picked w (prefix s p) e i ∷ gather w j ss bs) z
lists_flat w (fork f p q) e i k ss bs n =
    let m = k + fork_binds f in
    let e1 = e ++ on_first f in
    let e2 = e ++ on_rest f in
    let n1 : m ≡ length e1 = omega (arith, length-append e (on_first f), length_first f) in
    let n2 : m ≡ length e2 = omega (arith, length-append e (on_rest f), length_rest f) in
    let r = suc i + process_size p in
    let fp = flat (suc i) m p in
    let fq = flat r m q in
    let note = note_of e (fork_at k f (suc i) r) in
    let z : r + process_size q ≡ i + suc (process_size p + process_size q) = omega arith in
    let st = effect_of p e1 ∷ (effect_of q e2 ∷ run_notes ss bs) in
    let l = picked w p e1 (suc i) in
    let l' = picked w q e2 r in
    let rest = gather w (r + process_size q) ss bs in
    let x = fork_at (length e) f (suc i) r in
    let go = λ (j : ℕ) (st : List (Option Effect)) (ls : List (List ℕ)). at_top (with_node (keeps w (top_sum (act (fork_at j f (suc i) r) note st))) (picks w (fork_at j f (suc i) r) note st) i) (joined_lists (fork_at j f (suc i) r) ls) in
    ap (λ l. go k (run_notes l ((notes p e1 ++ notes q e2) ++ bs)) (gather w (suc i) l ((notes p e1 ++ notes q e2) ++ bs))) (append_assoc fp fq ss)
    ∙ ap (λ l. go k (run_notes (fp ++ (fq ++ ss)) l) (gather w (suc i) (fp ++ (fq ++ ss)) l)) (append_assoc (notes p e1) (notes q e2) bs)
    ∙ ap (λ st. go k st (gather w (suc i) (fp ++ (fq ++ ss)) (notes p e1 ++ (notes q e2 ++ bs)))) (run_flat p e1 (suc i) m (fq ++ ss) (notes q e2 ++ bs) n1 ∙ ap (λ l. effect_of p e1 ∷ l) (run_flat q e2 r m ss bs n2))
    ∙ ap (go k st) (lists_flat w p e1 (suc i) m (fq ++ ss) (notes q e2 ++ bs) n1 ∙ ap (λ ls. l ∷ ls) (lists_flat w q e2 r m ss bs n2))
    ∙ ap (λ j. go j st (l ∷ (l' ∷ rest))) n
    ∙ ap (λ b. with_node (keeps w (effect_of (fork f p q) e)) b i (l ++ l') ∷ rest) (fork_picks w x (length e) (suc i) r f note (effect_of p e1) (effect_of q e2) (run_notes ss bs) refl)
    ∙ ap (λ j. picked w (fork f p q) e i ∷ gather w j ss bs) z

-- from the place of node i on, what is gathered in its process comes first
pub record GathersTo (w : Aim) (k : ℕ) (p : Process) (env : Env) (i : ℕ) (e : Env) (q : Process) : Type 0 where
  pub others : List (List ℕ)
  pub is : gather w i (drop i (spelled k p)) (drop i (scan 0 env [] (spelled k p))) ≡ picked w (numbered [] (length e) q) e i ∷ others

gathers_at : (w : Aim) {env e : Env} {p q : Process} {i : ℕ} → ReachesNode env p i e q → GathersTo w (length env) p env i e q
gathers_at w {env} {e} {p} {q} {i} r =
    let s = located 0 r in
    let tree = numbered [] (length e) q in
    let z : 0 + i ≡ i = omega arith in
    record {
      others = gather w (i + process_size tree) s.rest s.behind;
      is =
          ap (λ ns. gather w i (drop i (spelled (length env) p)) (drop i ns)) (scan_is (length env) p env refl)
          ∙ ap (λ ss. gather w i ss (drop i (notes (numbered [] (length env) p) env))) s.shapes
          ∙ ap (gather w i (flat (0 + i) (length e) tree ++ s.rest)) s.seen
          ∙ ap (λ j. gather w i (flat j (length e) tree ++ s.rest) (notes tree e ++ s.behind)) z
          ∙ lists_flat w tree e i (length e) s.rest s.behind refl;
    }

pub gathers_to : (w : Aim) {env e : Env} {p q : Process} {i : ℕ} (k : ℕ) → k ≡ length env → NodeOf env p i e q → GathersTo w k p env i e q
gathers_to w {env} {e} {p} {q} {i} k n r =
    subst (λ k. GathersTo w k p env i e q) (sym n) (gathers_at w (reached_of r))
