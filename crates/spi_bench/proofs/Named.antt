-- A name as the index of a binder, and back.
use Rattle.std.proofs.Common.{◌≡◌, refl, sym, subst, ℕ, suc, ◌+◌, ◌<◌, ◌≢◌, Bool, true, false, [], ◌∷◌, if◌then◌else◌, ◌==◌, arith, ap, ne_eqb, eq-eqb}
use Rattle.std.proofs.lemmas.Bool.{eqb-false, eqb-true}
use Rattle.spi_term.specs.Term.{Message, bound, name, ends, checks, many, Effect, Ty, un, unit_ty, pair_ty, sum_ty, key, nonce, Process, Leaf, Sends, Stops, Prefix, Recvs, Serves, Splits, Selects, Decrypts, Checks, Begins, Ends, EndManys, Casts, Freshes, Fork, Branches, Pars, leaf, prefix, fork, binds, fork_binds}
use Rattle.spi_term.specs.Substitution.{effect_map, ty_map, process_map, leaf_map, prefix_map, fork_map, put}
use Rattle.spi_term.specs.Names.{OfLeaf, OfPrefix, OfFork, MessageOver, OfEffect, OfTy, OfProcess}
use Rattle.spi_term.proofs.Mapped.{over_mapped, mapped_back}
use Rattle.spi_term.proofs.Terms.{binds_map, fork_binds_map}
use Rattle.spi_bench.specs.Whole.{indexed_message}

-- a map that undoes another on the messages of which P holds undoes it on the whole
module _ (P : ℕ → Message → Type 0) (f g : ℕ → Message → Message) (ok : (d : ℕ) (m : Message) → P d m → g d (f d m) ≡ m) where
  undone_effect : (d : ℕ) (es : Effect) → OfEffect (P d) es → effect_map (g d) (effect_map (f d) es) ≡ es
  undone_effect d [] h = refl
  undone_effect d (ends m ∷ es) h = rw (ok d m h.0, undone_effect d es h.1)
  undone_effect d (checks m ∷ es) h = rw (ok d m h.0, undone_effect d es h.1)
  undone_effect d (many m ∷ es) h = rw (ok d m h.0, undone_effect d es h.1)

  undone_ty : (d : ℕ) (t : Ty) → OfTy P d t → ty_map g d (ty_map f d t) ≡ t
  undone_ty d un h = refl
  undone_ty d unit_ty h = refl
  undone_ty d (pair_ty t u) h = rw (undone_ty d t h.0, undone_ty (suc d) u h.1)
  undone_ty d (sum_ty t u) h = rw (undone_ty d t h.0, undone_ty d u h.1)
  undone_ty d (key t) h = rw (undone_ty d t h)
  undone_ty d (nonce es) h = rw (undone_effect d es h)

  undone_leaf : (d : ℕ) (b : Leaf) → OfLeaf P d b → leaf_map g d (leaf_map f d b) ≡ b
  undone_leaf d (Sends m n) h = rw (ok d m h.0, ok d n h.1)
  undone_leaf d Stops h = refl

  undone_prefix : (d : ℕ) (b : Prefix) → OfPrefix P d b → prefix_map g d (prefix_map f d b) ≡ b
  undone_prefix d (Recvs m t) h = rw (ok d m h.0, undone_ty d t h.1)
  undone_prefix d (Serves m t) h = rw (ok d m h.0, undone_ty d t h.1)
  undone_prefix d (Splits m t u) h = rw (ok d m h.0, undone_ty d t h.1, undone_ty (suc d) u h.2)
  undone_prefix d (Selects m t n u) h = rw (ok d m h.0, undone_ty d t h.1, ok d n h.2, undone_ty (suc d) u h.3)
  undone_prefix d (Decrypts m t n) h = rw (ok d m h.0, undone_ty d t h.1, ok d n h.2)
  undone_prefix d (Checks m n) h = rw (ok d m h.0, ok d n h.1)
  undone_prefix d (Begins m) h = rw (ok d m h)
  undone_prefix d (Ends m) h = rw (ok d m h)
  undone_prefix d (EndManys m) h = rw (ok d m h)
  undone_prefix d (Casts m t) h = rw (ok d m h.0, undone_ty d t h.1)
  undone_prefix d (Freshes t) h = rw (undone_ty d t h)

  undone_fork : (d : ℕ) (b : Fork) → OfFork P d b → fork_map g d (fork_map f d b) ≡ b
  undone_fork d (Branches m t u) h = rw (ok d m h.0, undone_ty d t h.1, undone_ty d u h.2)
  undone_fork d Pars h = refl

  pub undone : (d : ℕ) (p : Process) → OfProcess P d p → process_map g d (process_map f d p) ≡ p
  undone d (leaf l) h = rw (undone_leaf d l h)
  undone d (prefix b p) h = rw (undone_prefix d b h.0, binds_map f d b, undone (d + binds b) p h.1)
  undone d (fork b p q) h = rw (undone_fork d b h.0, fork_binds_map f d b, undone (d + fork_binds b) p h.1, undone (d + fork_binds b) q h.2)

-- the name put back for the index
back_name : (k d x : ℕ) (t : Bool) → (x == k) ≡ t → put (name k) d (if t then bound d else name x) ≡ name x
back_name k d x true e = let f : x ≡ k = eqb-true x k e in rw (eq-eqb d d refl) (ap (λ n. name n) (sym f))
back_name k d x false e = refl

put_inner : (k d i : ℕ) → i < d → put (name k) d (bound i) ≡ bound i
put_inner k d i l = let ne : i ≢ d = omega arith in rw (ne_eqb i d ne)

back : (n k d : ℕ) (m : Message) → MessageOver n d m → put (name k) d (indexed_message k d m) ≡ m
back n k d m h =
    mapped_back (λ i. if i == d then name k else bound i) name bound (λ x. if x == k then bound d else name x) n d (λ i l. put_inner k d i l) (λ x l. back_name k d x (x == k) refl) m h

pub opened_back : (n k : ℕ) (p : Process) → OfProcess (MessageOver n) 0 p → process_map (put (name k)) 0 (process_map (indexed_message k) 0 p) ≡ p
opened_back n k p h = undone (MessageOver n) (indexed_message k) (λ d. put (name k) d) (back n k) 0 p h

zero_less : (d : ℕ) → d < suc d
zero_less d = omega arith

-- what was over one name more is under one binder
over_name : (k d x : ℕ) (t : Bool) → (x == k) ≡ t → x < suc k → MessageOver k (suc d) (if t then bound d else name x)
over_name k d x true e h = zero_less d
over_name k d x false e h = let f : x ≢ k = eqb-false x k e in omega arith

over_indexed : (k d : ℕ) (m : Message) → MessageOver (suc k) d m → MessageOver k (suc d) (indexed_message k d m)
over_indexed k d m h =
    over_mapped bound (λ x. if x == k then bound d else name x) (suc k) d k (suc d) (λ i l. omega arith) (λ x l. over_name k d x (x == k) refl l) m h

over_effect : (k d : ℕ) (es : Effect) → OfEffect (MessageOver (suc k) d) es → OfEffect (MessageOver k (suc d)) (effect_map (indexed_message k d) es)
over_effect k d [] h = tt
over_effect k d (ends m ∷ es) h = (over_indexed k d m h.0, over_effect k d es h.1)
over_effect k d (checks m ∷ es) h = (over_indexed k d m h.0, over_effect k d es h.1)
over_effect k d (many m ∷ es) h = (over_indexed k d m h.0, over_effect k d es h.1)

over_ty : (k d : ℕ) (t : Ty) → OfTy (MessageOver (suc k)) d t → OfTy (MessageOver k) (suc d) (ty_map (indexed_message k) d t)
over_ty k d un h = tt
over_ty k d unit_ty h = tt
over_ty k d (pair_ty t u) h = (over_ty k d t h.0, over_ty k (suc d) u h.1)
over_ty k d (sum_ty t u) h = (over_ty k d t h.0, over_ty k d u h.1)
over_ty k d (key t) h = over_ty k d t h
over_ty k d (nonce es) h = over_effect k d es h

over_leaf : (k d : ℕ) (b : Leaf) → OfLeaf (MessageOver (suc k)) d b → OfLeaf (MessageOver k) (suc d) (leaf_map (indexed_message k) d b)
over_leaf k d (Sends m n) h = (over_indexed k d m h.0, over_indexed k d n h.1)
over_leaf k d Stops h = tt

over_prefix : (k d : ℕ) (b : Prefix) → OfPrefix (MessageOver (suc k)) d b → OfPrefix (MessageOver k) (suc d) (prefix_map (indexed_message k) d b)
over_prefix k d (Recvs m t) h = (over_indexed k d m h.0, over_ty k d t h.1)
over_prefix k d (Serves m t) h = (over_indexed k d m h.0, over_ty k d t h.1)
over_prefix k d (Splits m t u) h = (over_indexed k d m h.0, over_ty k d t h.1, over_ty k (suc d) u h.2)
over_prefix k d (Selects m t n u) h = (over_indexed k d m h.0, over_ty k d t h.1, over_indexed k d n h.2, over_ty k (suc d) u h.3)
over_prefix k d (Decrypts m t n) h = (over_indexed k d m h.0, over_ty k d t h.1, over_indexed k d n h.2)
over_prefix k d (Checks m n) h = (over_indexed k d m h.0, over_indexed k d n h.1)
over_prefix k d (Begins m) h = over_indexed k d m h
over_prefix k d (Ends m) h = over_indexed k d m h
over_prefix k d (EndManys m) h = over_indexed k d m h
over_prefix k d (Casts m t) h = (over_indexed k d m h.0, over_ty k d t h.1)
over_prefix k d (Freshes t) h = over_ty k d t h

over_fork : (k d : ℕ) (b : Fork) → OfFork (MessageOver (suc k)) d b → OfFork (MessageOver k) (suc d) (fork_map (indexed_message k) d b)
over_fork k d (Branches m t u) h = (over_indexed k d m h.0, over_ty k d t h.1, over_ty k d u h.2)
over_fork k d Pars h = tt

suc_add : (k b : ℕ) → suc (k + b) ≡ suc k + b
suc_add k b = omega arith

pub over_bound : (k d : ℕ) (p : Process) → OfProcess (MessageOver (suc k)) d p → OfProcess (MessageOver k) (suc d) (process_map (indexed_message k) d p)
over_bound k d (leaf l) h = over_leaf k d l h
over_bound k d (prefix b p) h =
    (over_prefix k d b h.0, rw (binds_map (indexed_message k) d b) (subst (λ j. OfProcess (MessageOver k) j (process_map (indexed_message k) (d + binds b) p)) (suc_add d (binds b)) (over_bound k (d + binds b) p h.1)))
over_bound k d (fork b p q) h =
    (over_fork k d b h.0, rw (fork_binds_map (indexed_message k) d b) (subst (λ j. OfProcess (MessageOver k) j (process_map (indexed_message k) (d + fork_binds b) p)) (suc_add d (fork_binds b)) (over_bound k (d + fork_binds b) p h.1)), rw (fork_binds_map (indexed_message k) d b) (subst (λ j. OfProcess (MessageOver k) j (process_map (indexed_message k) (d + fork_binds b) q)) (suc_add d (fork_binds b)) (over_bound k (d + fork_binds b) q h.2)))
