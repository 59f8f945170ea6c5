-- The checks of a node's process are those of its shape, and can be asked.
use Rattle.std.proofs.Common.{◌≡◌, sym, ap, ◌∙◌, ℕ, suc, ◌+◌, ◌-◌, ◌<◌, ◌≤◌, ◌^◌, List, [], ◌∷◌, ◌++◌, drop, length, Some, arith}
use Rattle.std.specs.Prelude.{slice_get, ⊤}
use Rattle.spi_term.specs.Lists.{In, in_first, in_later}
use Rattle.spi_term.proofs.Lists.{head_is, drop_get}
use Rattle.spi_term.specs.Term.{Ty, pair_ty, Sends, Stops, Prefix, Recvs, Serves, Splits, Selects, Decrypts, Checks, Begins, Ends, EndManys, Casts, Freshes, Branches, Pars, Process, leaf, prefix, fork, fork_binds, process_size}
use Rattle.spi_term.specs.Spelling.{Shape, leaf_at, prefix_at, fork_at, flat, numbered, spelled, IsSmall, HasSmallParts, ty_nodes}
use Rattle.spi_term.specs.Arena.{scope_of}
use Rattle.spi_term.proofs.Numbers.{size_numbered, small_node}
use Rattle.spi_rules.specs.Environment.{Env, untrusted}
use Rattle.spi_rules.specs.Blocking.{child_recv, child_serve, child_split, child_select, child_left, child_right, child_decrypt, child_cast, child_fresh, NodeOf}
use Rattle.spi_rules.proofs.Typing.{length_untrusted}
use Rattle.spi_message.specs.Forms.{enter, on_first}
use Rattle.spi_message.proofs.Opened.{numbered_leaf, numbered_prefix, numbered_fork, size_enter}
use Rattle.spi_infer.proofs.Nodes.{reached_of}
use Rattle.spi_infer.proofs.Located.{located}
use Rattle.spi_fault.specs.Checks.{Check, prefix_checks, fork_checks, checks, shape_checks}
use Rattle.spi_fault.specs.Trying.{IsAskedOf, CanBeCounted}

-- the shape of a node with n names in scope
abbrev Shapes : ℕ → ℕ → Process → Shape → Type 0
Shapes id n (leaf l) x = x ≡ leaf_at n l
Shapes id n (prefix s p) x = x ≡ prefix_at n s (suc id)
Shapes id n (fork f p q) x = x ≡ fork_at n f (suc id) (suc id + process_size p)

shape_is : (id : ℕ) (e : Env) (q : Process) (x : Shape) (xs rest : List Shape) → x ∷ xs ≡ flat id (length e) (numbered [] (length e) q) ++ rest → Shapes id (length e) q x
shape_is id e (leaf l) x xs rest h = head_is (h ∙ ap (λ t. flat id (length e) t ++ rest) (numbered_leaf (length e) l))
shape_is id e (prefix s p) x xs rest h = head_is (h ∙ ap (λ t. flat id (length e) t ++ rest) (numbered_prefix e s p))
shape_is id e (fork f p q) x xs rest h =
    let k = length e in
    let size = size_numbered (enter (fork_binds f) k p) [] (length (e ++ on_first f)) ∙ size_enter (fork_binds f) k p in
    head_is (h ∙ ap (λ t. flat id k t ++ rest) (numbered_fork e f p q)) ∙ ap (λ s. fork_at k f (suc id) (suc id + s)) size

module _ (k : ℕ) (p : Process) (id : ℕ) (e : Env) (q : Process) (x : Shape) (node : NodeOf (untrusted k) p id e q) (at : slice_get (spelled k p) id ≡ Some x) where
  has_shape : Shapes id (length e) q x
  has_shape =
      let w = located 0 (reached_of node) in
      let z : 0 + id ≡ id = omega arith in
      shape_is id e q x (drop (suc id) (spelled k p)) w.rest (sym (drop_get (spelled k p) id x at) ∙ ap (λ k. drop id (spelled k p)) (sym (length_untrusted k)) ∙ w.shapes ∙ ap (λ j. flat j (length e) (numbered [] (length e) q) ++ w.rest) z)

checks_of : (id n : ℕ) (q : Process) (x : Shape) → Shapes id n q x → shape_checks id x ≡ checks q
checks_of id n (leaf l) x h = ap (shape_checks id) h
checks_of id n (prefix s p) x h = ap (shape_checks id) h
checks_of id n (fork f p q) x h =
    let z : (suc id + process_size p) - id ≡ suc (process_size p) = omega arith in
    ap (shape_checks id) h ∙ ap (fork_checks f) z

pub checks_at : (k : ℕ) (p : Process) (id : ℕ) (e : Env) (q : Process) (x : Shape) → NodeOf (untrusted k) p id e q → slice_get (spelled k p) id ≡ Some x → shape_checks id x ≡ checks q
checks_at k p id e q x node at = checks_of id (length e) q x (has_shape k p id e q x node at)

pub scope_at : (k : ℕ) (p : Process) (id : ℕ) (e : Env) (q : Process) (x : Shape) → NodeOf (untrusted k) p id e q → slice_get (spelled k p) id ≡ Some x → scope_of x ≡ length e
scope_at k p id e q x node at = scope_is q (has_shape k p id e q x node at)
  where
    scope_is : (q : Process) → Shapes id (length e) q x → scope_of x ≡ length e
    scope_is (leaf l) h = ap scope_of h
    scope_is (prefix s p) h = ap scope_of h
    scope_is (fork f p q) h = ap scope_of h

-- what can be asked
abbrev EachCheck : (Check → Type 0) → List Check → Type 0
EachCheck P [] = ⊤
EachCheck P (c ∷ cs) = P c × EachCheck P cs

each_in : (P : Check → Type 0) (cs : List Check) → EachCheck P cs → (c : Check) → In c cs → P c
each_in P [] h d i = elim i [ ]
each_in P (c ∷ cs) h _ in_first = h.0
each_in P (c ∷ cs) h d (in_later i) = each_in P cs h.1 d i

asked_prefix : (env : Env) (s : Prefix) (p : Process) → EachCheck (IsAskedOf env (prefix s p)) (prefix_checks s)
asked_prefix env (Recvs m t) p = (tt, (tt, ((_, _, child_recv), tt)))
asked_prefix env (Serves m t) p = (tt, (tt, ((_, _, child_serve), ((_, _, child_serve), tt))))
asked_prefix env (Splits m t u) p = (tt, (tt, ((_, _, child_split), tt)))
asked_prefix env (Selects m t r u) p = (tt, (tt, (tt, ((_, _, child_select), tt))))
asked_prefix env (Decrypts m t r) p = (tt, (tt, (tt, ((_, _, child_decrypt), tt))))
asked_prefix env (Checks m r) p = (tt, (tt, tt))
asked_prefix env (Begins m) p = (tt, tt)
asked_prefix env (Ends m) p = (tt, tt)
asked_prefix env (EndManys m) p = (tt, tt)
asked_prefix env (Casts m t) p = (tt, (tt, (tt, ((_, _, child_cast), tt))))
asked_prefix env (Freshes t) p = (tt, (tt, ((_, _, child_fresh), tt)))

asked_all : (env : Env) (q : Process) → EachCheck (IsAskedOf env q) (checks q)
asked_all env (leaf (Sends m n)) = (tt, (tt, tt))
asked_all env (leaf Stops) = tt
asked_all env (prefix s p) = asked_prefix env s p
asked_all env (fork (Branches m t u) p q) = (tt, (tt, (tt, ((_, _, child_left), ((_, _, child_right), tt)))))
asked_all env (fork Pars p q) = tt

pub asked : (env : Env) (q : Process) (c : Check) → In c (checks q) → IsAskedOf env q c
asked env q c i = each_in (IsAskedOf env q) (checks q) (asked_all env q) c i

few : (n : ℕ) (t : Ty) → n ≤ 300000 → ty_nodes t ≤ 20001 → n + ty_nodes t < 2 ^ 32
few n t l m = omega (arith, l, m)

one : 1 ≤ 2
one = omega arith

two : 2 ≤ 2
two = omega arith

module _ (n : ℕ) (l : n ≤ 300000) where
  fits_prefix : (k b : ℕ) (s : Prefix) → HasSmallParts (prefix_at k s b) → EachCheck (CanBeCounted n) (prefix_checks s)
  fits_prefix k b (Recvs m t) h = (tt, (tt, (one, tt)))
  fits_prefix k b (Serves m t) h = (tt, (tt, (tt, (one, tt))))
  fits_prefix k b (Splits m t u) h = (few n (pair_ty t u) l (omega (arith, h.1, h.2)), (tt, (two, tt)))
  fits_prefix k b (Selects m t r u) h = (few n (pair_ty t u) l (omega (arith, h.1, h.3)), (tt, (tt, (one, tt))))
  fits_prefix k b (Decrypts m t r) h = (few n t l (omega (arith, h.1)), (tt, (tt, (one, tt))))
  fits_prefix k b (Checks m r) h = (tt, (tt, tt))
  fits_prefix k b (Begins m) h = (tt, tt)
  fits_prefix k b (Ends m) h = (tt, tt)
  fits_prefix k b (EndManys m) h = (tt, tt)
  fits_prefix k b (Casts m t) h = (tt, (few n t l (omega (arith, h.1)), (tt, (one, tt))))
  fits_prefix k b (Freshes t) h = (tt, (few n t l (omega (arith, h)), (tt, tt)))

  fits_shape : (id : ℕ) (x : Shape) → HasSmallParts x → EachCheck (CanBeCounted n) (shape_checks id x)
  fits_shape id (leaf_at k (Sends m r)) h = (tt, (tt, tt))
  fits_shape id (leaf_at k Stops) h = tt
  fits_shape id (prefix_at k s b) h = fits_prefix k b s h
  fits_shape id (fork_at k (Branches m t u) a r) h = (few n t l (omega (arith, h.1)), (few n u l (omega (arith, h.2)), (tt, (one, (one, tt)))))
  fits_shape id (fork_at k Pars a r) h = tt

pub fits_at : (k : ℕ) (p : Process) (id : ℕ) (e : Env) (q : Process) (x : Shape) → IsSmall k p → NodeOf (untrusted k) p id e q → slice_get (spelled k p) id ≡ Some x → (c : Check) → In c (shape_checks id x) → CanBeCounted (length e) c
fits_at k p id e q x small node at =
    let m = small_node k p id x small at in
    let l : length e ≤ 300000 = omega (arith, m.1, scope_at k p id e q x node at) in
    each_in (CanBeCounted (length e)) (shape_checks id x) (fits_shape (length e) l id x m.0)

pub few_at : (k : ℕ) (p : Process) (id : ℕ) (e : Env) (q : Process) (x : Shape) → IsSmall k p → NodeOf (untrusted k) p id e q → slice_get (spelled k p) id ≡ Some x → length e ≤ 300000
few_at k p id e q x small node at = omega (arith, (small_node k p id x small at).1, scope_at k p id e q x node at)
