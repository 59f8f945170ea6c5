-- A process held with one message more is the process held before it, opened with the message.
use Rattle.std.proofs.Common.{◌≡◌, ℕ, suc, ◌+◌, ◌-◌, ◌<◌, ◌≤◌, List, [], ◌∷◌, length, refl, sym, ap, ◌∙◌, subst, arith, ⊎_elim, eq-eqb}
use Rattle.std.proofs.lemmas.Bool.{cases_lt, cases_eq, ne_eqb}
use Rattle.spi_term.specs.Term.{Message, bound, name, unit, pair, in_left, in_right, enc, hash, ends, checks, many, Effect, Ty, un, unit_ty, pair_ty, sum_ty, key, nonce, Leaf, Sends, Stops, Prefix, Recvs, Serves, Splits, Selects, Decrypts, Checks, Begins, Ends, EndManys, Casts, Freshes, Fork, Branches, Pars, Process, leaf, prefix, fork, binds, fork_binds}
use Rattle.spi_term.specs.Substitution.{effect_map, ty_map, leaf_map, prefix_map, fork_map, process_map, process_put, process_put_two, put, replace}
use Rattle.spi_term.specs.Names.{MessageOver, OfEffect, OfTy, OfLeaf, OfPrefix, OfFork, ProcessOver}
use Rattle.spi_term.specs.Spelling.{index_message, indexed, numbered, flat}
use Rattle.spi_term.specs.Arena.{InScope}
use Rattle.spi_term.proofs.Choices.{if_yes, if_no}
use Rattle.spi_term.proofs.Terms.{binds_map, fork_binds_map}
use Rattle.spi_term.proofs.Mapped.{mapped_to_itself}
use Rattle.spi_term.proofs.Numbers.{index_low, index_high, index_kept, numbered_in_scope, over_indexed, number_index}
use Rattle.spi_term.proofs.Unique.{spelled_one}
use Rattle.spi_replay.specs.Holding.{value, held_message, held, IsClosed, AllClosed}

-- two maps one after the other, as one. The first is x binders deeper
module _ (f g h : ℕ → Message → Message) (P : ℕ → Message → Type 0) (x : ℕ) (ok : (d c : ℕ) → d ≡ c + x → (m : Message) → P c m → f d (g c m) ≡ h c m) where
  outer_effect : (d c : ℕ) → d ≡ c + x → (b : Effect) → OfEffect (P c) b → effect_map (f d) (effect_map (g c) b) ≡ effect_map (h c) b
  outer_effect d c e [] p = refl
  outer_effect d c e (ends m ∷ es) p = rw (ok d c e m p.0, outer_effect d c e es p.1)
  outer_effect d c e (checks m ∷ es) p = rw (ok d c e m p.0, outer_effect d c e es p.1)
  outer_effect d c e (many m ∷ es) p = rw (ok d c e m p.0, outer_effect d c e es p.1)

  outer_ty : (d c : ℕ) → d ≡ c + x → (b : Ty) → OfTy P c b → ty_map f d (ty_map g c b) ≡ ty_map h c b
  outer_ty d c e un p = refl
  outer_ty d c e unit_ty p = refl
  outer_ty d c e (pair_ty t u) p = rw (outer_ty d c e t p.0, outer_ty (suc d) (suc c) (omega arith) u p.1)
  outer_ty d c e (sum_ty t u) p = rw (outer_ty d c e t p.0, outer_ty d c e u p.1)
  outer_ty d c e (key t) p = rw (outer_ty d c e t p)
  outer_ty d c e (nonce es) p = rw (outer_effect d c e es p)

  outer_leaf : (d c : ℕ) → d ≡ c + x → (b : Leaf) → OfLeaf P c b → leaf_map f d (leaf_map g c b) ≡ leaf_map h c b
  outer_leaf d c e (Sends m n) p = rw (ok d c e m p.0, ok d c e n p.1)
  outer_leaf d c e Stops p = refl

  outer_prefix : (d c : ℕ) → d ≡ c + x → (b : Prefix) → OfPrefix P c b → prefix_map f d (prefix_map g c b) ≡ prefix_map h c b
  outer_prefix d c e (Recvs m t) p = rw (ok d c e m p.0, outer_ty d c e t p.1)
  outer_prefix d c e (Serves m t) p = rw (ok d c e m p.0, outer_ty d c e t p.1)
  outer_prefix d c e (Splits m t u) p = rw (ok d c e m p.0, outer_ty d c e t p.1, outer_ty (suc d) (suc c) (omega arith) u p.2)
  outer_prefix d c e (Selects m t n u) p = rw (ok d c e m p.0, outer_ty d c e t p.1, ok d c e n p.2, outer_ty (suc d) (suc c) (omega arith) u p.3)
  outer_prefix d c e (Decrypts m t n) p = rw (ok d c e m p.0, outer_ty d c e t p.1, ok d c e n p.2)
  outer_prefix d c e (Checks m n) p = rw (ok d c e m p.0, ok d c e n p.1)
  outer_prefix d c e (Begins m) p = rw (ok d c e m p)
  outer_prefix d c e (Ends m) p = rw (ok d c e m p)
  outer_prefix d c e (EndManys m) p = rw (ok d c e m p)
  outer_prefix d c e (Casts m t) p = rw (ok d c e m p.0, outer_ty d c e t p.1)
  outer_prefix d c e (Freshes t) p = rw (outer_ty d c e t p)

  outer_fork : (d c : ℕ) → d ≡ c + x → (b : Fork) → OfFork P c b → fork_map f d (fork_map g c b) ≡ fork_map h c b
  outer_fork d c e (Branches m t u) p = rw (ok d c e m p.0, outer_ty d c e t p.1, outer_ty d c e u p.2)
  outer_fork d c e Pars p = refl

-- closed messages
pub put_closed : (a : Message) (k : ℕ) (m : Message) → IsClosed m → put a k m ≡ m
put_closed a k (bound i) h = absurd h
put_closed a k (name x) h = refl
put_closed a k unit h = refl
put_closed a k (pair m n) h = rw (put_closed a k m h.0, put_closed a k n h.1)
put_closed a k (in_left m) h = rw (put_closed a k m h)
put_closed a k (in_right m) h = rw (put_closed a k m h)
put_closed a k (enc m n) h = rw (put_closed a k m h.0, put_closed a k n h.1)
put_closed a k (hash m) h = rw (put_closed a k m h)

pub closed_replace : (f : ℕ → Message) → ((x : ℕ) → IsClosed (f x)) → (s : ℕ) (m : Message) → MessageOver s 0 m → IsClosed (replace f m)
closed_replace f ok s (bound i) h = absurd (omega arith)
closed_replace f ok s (name x) h = ok x
closed_replace f ok s unit h = tt
closed_replace f ok s (pair m n) h = (closed_replace f ok s m h.0, closed_replace f ok s n h.1)
closed_replace f ok s (in_left m) h = closed_replace f ok s m h
closed_replace f ok s (in_right m) h = closed_replace f ok s m h
closed_replace f ok s (enc m n) h = (closed_replace f ok s m h.0, closed_replace f ok s n h.1)
closed_replace f ok s (hash m) h = closed_replace f ok s m h

-- the messages of names
pub value_here : (k : ℕ) (m : Message) (ms : List Message) → value k (m ∷ ms) (k + length ms) ≡ m
value_here k m ms = if_yes m (value k ms (k + length ms)) (eq-eqb (k + length ms) (k + length ms) refl)

pub value_other : (k : ℕ) (m : Message) (ms : List Message) (x : ℕ) → (x ≡ k + length ms → ⊥) → value k (m ∷ ms) x ≡ value k ms x
value_other k m ms x h = if_no m (value k ms x) (ne_eqb x (k + length ms) h)

pub closed_value : (k : ℕ) (ms : List Message) → AllClosed ms → (x : ℕ) → IsClosed (value k ms x)
closed_value k [] h x = tt
closed_value k (m ∷ ms) h x =
    ⊎_elim (λ e. subst IsClosed (sym (ap (value k (m ∷ ms)) e ∙ value_here k m ms)) h.0) (λ n. subst IsClosed (sym (value_other k m ms x n)) (closed_value k ms h.1 x)) (cases_eq x (k + length ms))

-- a message at a node, whose names are all in scope
pub held_here : (f : ℕ → Message) (s : ℕ) (m : Message) → MessageOver s 0 m → held_message f s s 0 m ≡ replace f m
held_here f s m h = ap (replace f) (index_kept s s 0 0 m h)

-- the message a for the name s
module _ (f g : ℕ → Message) (s : ℕ) (a : Message) (closed : (x : ℕ) → IsClosed (f x)) (low : (x : ℕ) → x < s → g x ≡ f x) (here : g s ≡ a) where
  put_name : (j c d n x : ℕ) → n ≡ suc s + j → d ≡ c + j → x < n → put a d (held_message f s n c (name x)) ≡ held_message g (suc s) n c (name x)
  put_name j c d n x e p h = ⊎_elim below above (cases_lt x s)
    where
      below : x < s → put a d (held_message f s n c (name x)) ≡ held_message g (suc s) n c (name x)
      below l =
          ap (λ m. put a d (replace f m)) (index_low s n c x l) ∙ put_closed a d (f x) (closed x) ∙ sym (low x l) ∙ sym (ap (replace g) (index_low (suc s) n c x (omega arith)))

      above : s ≤ x → put a d (held_message f s n c (name x)) ≡ held_message g (suc s) n c (name x)
      above l = ap (λ m. put a d (replace f m)) (index_high s n c x l) ∙ ⊎_elim same other (cases_eq x s)
        where
          same : x ≡ s → put a d (bound (c + (n - suc x))) ≡ held_message g (suc s) n c (name x)
          same q =
              let i : c + (n - suc x) ≡ d = omega arith in
              if_yes a (bound (c + (n - suc x))) (eq-eqb (c + (n - suc x)) d i) ∙ sym here ∙ sym (ap g q) ∙ sym (ap (replace g) (index_low (suc s) n c x (omega arith)))

          other : (x ≡ s → ⊥) → put a d (bound (c + (n - suc x))) ≡ held_message g (suc s) n c (name x)
          other q =
              let i : c + (n - suc x) ≡ d → ⊥ = λ r. q (omega arith) in
              let u : suc s ≤ x = ⊎_elim (λ v. absurd (q (let w : x ≡ s = omega arith in w))) (λ v. v) (cases_lt x (suc s)) in
              if_no a (bound (c + (n - suc x))) (ne_eqb (c + (n - suc x)) d i) ∙ sym (ap (replace g) (index_high (suc s) n c x u))

  put_message : (j c d n : ℕ) → n ≡ suc s + j → d ≡ c + j → (m : Message) → MessageOver n c m → put a d (held_message f s n c m) ≡ held_message g (suc s) n c m
  put_message j c d n e p (bound i) h = let q : i ≡ d → ⊥ = λ r. omega arith in if_no a (bound i) (ne_eqb i d q)
  put_message j c d n e p (name x) h = put_name j c d n x e p h
  put_message j c d n e p unit h = refl
  put_message j c d n e p (pair m q) h = rw (put_message j c d n e p m h.0, put_message j c d n e p q h.1)
  put_message j c d n e p (in_left m) h = rw (put_message j c d n e p m h)
  put_message j c d n e p (in_right m) h = rw (put_message j c d n e p m h)
  put_message j c d n e p (enc m q) h = rw (put_message j c d n e p m h.0, put_message j c d n e p q h.1)
  put_message j c d n e p (hash m) h = rw (put_message j c d n e p m h)

  pub put_held : (q : Process) (j n : ℕ) → n ≡ suc s + j → InScope n q → process_map (put a) j (held f s n q) ≡ held g (suc s) n q
  put_held (leaf l) j n e h =
      ap leaf (outer_leaf (put a) (held_message f s n) (held_message g (suc s) n) (MessageOver n) j (λ d c p m. put_message j c d n e p m) j 0 (omega arith) l h)
  put_held (prefix t p) j n e h =
      let b = binds t in
      let x = outer_prefix (put a) (held_message f s n) (held_message g (suc s) n) (MessageOver n) j (λ d c p m. put_message j c d n e p m) j 0 (omega arith) t h.0 in
      let y = ap (λ k. process_map (put a) (j + k) (held f s (n + b) p)) (binds_map (held_message f s n) 0 t) ∙ put_held p (j + b) (n + b) (omega arith) h.1 in
      λ i. prefix (x i) (y i)
  put_held (fork t p q) j n e h =
      let b = fork_binds t in
      let x = outer_fork (put a) (held_message f s n) (held_message g (suc s) n) (MessageOver n) j (λ d c p m. put_message j c d n e p m) j 0 (omega arith) t h.0 in
      let y = ap (λ k. process_map (put a) (j + k) (held f s (n + b) p)) (fork_binds_map (held_message f s n) 0 t) ∙ put_held p (j + b) (n + b) (omega arith) h.1.0 in
      let z = ap (λ k. process_map (put a) (j + k) (held f s (n + b) q)) (fork_binds_map (held_message f s n) 0 t) ∙ put_held q (j + b) (n + b) (omega arith) h.1.1 in
      λ i. fork (x i) (y i) (z i)

-- a process with one more name, and with two
module _ (k : ℕ) (ms : List Message) (closed : AllClosed ms) where
  low_value : (a : Message) (x : ℕ) → x < k + length ms → value k (a ∷ ms) x ≡ value k ms x
  low_value a x h = value_other k a ms x (λ e. omega arith)

  pub put_one : (a : Message) (q : Process) → InScope (k + length ms + 1) q → process_put a (held (value k ms) (k + length ms) (k + length ms + 1) q) ≡ held (value k (a ∷ ms)) (k + length (a ∷ ms)) (k + length (a ∷ ms)) q
  put_one a q h =
      let s = k + length ms in
      let e : suc s ≡ k + suc (length ms) = omega arith in
      let e' : s + 1 ≡ k + suc (length ms) = omega arith in
      put_held (value k ms) (value k (a ∷ ms)) s a (closed_value k ms closed) (low_value a) (value_here k a ms) q 0 (s + 1) (omega arith) h ∙ (λ i. held (value k (a ∷ ms)) (e i) (e' i) q)

module _ (k : ℕ) (ms : List Message) (closed : AllClosed ms) where
  pub put_two : (a b : Message) → IsClosed a → (q : Process) → InScope (k + length ms + 2) q → process_put_two a b (held (value k ms) (k + length ms) (k + length ms + 2) q) ≡ held (value k (b ∷ (a ∷ ms))) (k + length (b ∷ (a ∷ ms))) (k + length (b ∷ (a ∷ ms))) q
  put_two a b ca q h =
      let s = k + length ms in
      let e : suc s ≡ k + suc (length ms) = omega arith in
      let e' : s + 2 ≡ k + length (a ∷ ms) + 1 = omega arith in
      let first = put_held (value k ms) (value k (a ∷ ms)) s a (closed_value k ms closed) (low_value k ms closed a) (value_here k a ms) q 1 (s + 2) (omega arith) h ∙ (λ i. held (value k (a ∷ ms)) (e i) (e' i) q) in
      ap (process_map (put b) 0) first ∙ put_one k (a ∷ ms) (ca, closed) b q (subst (λ n. InScope n q) e' h)

-- a process with no name bound yet
held_index : (k s : ℕ) → held_message name k s ≡ index_message k s
held_index k s = λ i d m. mapped_to_itself (index_message k s d m) i

held_indexed : (k s : ℕ) (q : Process) → held name k s q ≡ indexed k s q
held_indexed k s (leaf l) = ap (λ g. leaf (leaf_map g 0 l)) (held_index k s)
held_indexed k s (prefix t p) = λ i. prefix (prefix_map (held_index k s i) 0 t) (held_indexed k (s + binds t) p i)
held_indexed k s (fork t p q) = λ i. fork (fork_map (held_index k s i) 0 t) (held_indexed k (s + fork_binds t) p i) (held_indexed k (s + fork_binds t) q i)

pub held_first : (k : ℕ) (p : Process) → ProcessOver k p → held name k k (numbered [] k p) ≡ p
held_first k p h =
    let z : k ≡ k + 0 = omega arith in
    let n = numbered [] k p in
    let s = numbered_in_scope k 0 k z p h in
    held_indexed k k n ∙ spelled_one k (indexed k k n) p (over_indexed k 0 k z n s) h (ap (flat 0 k) (number_index k 0 k z n s))
