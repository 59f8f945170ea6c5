-- The origins of an atom are the nodes that are gathered for it.
use Rattle.std.proofs.Common.{◌≡◌, refl, sym, ap, subst, ℕ, suc, ◌+◌, true, [], length, Option, Some, None, arith, append-nil}
use Rattle.std.proofs.lemmas.Bool.{and_parts, and_from, ltb-true, lt-ltb}
use Rattle.std.specs.Prelude.{is_some, slice_get}
use Rattle.spi_infer.proofs.Least.{sound, nothing_paid}
use Rattle.spi_infer.proofs.Located.{over_reached}
use Rattle.spi_infer.proofs.Nodes.{inside, inside_first, inside_rest, two_more, one_more}
use Rattle.spi_infer.proofs.Reach.{reach_root, reach_prefix, reach_first, reach_rest}
use Rattle.spi_infer.specs.Forms.{paid_by}
use Rattle.spi_message.proofs.Deciding.{nonce_in_some}
use Rattle.spi_message.specs.Forms.{cast_effect_of}
use Rattle.spi_message.specs.Tests.{nonce_in, nonce_of}
use Rattle.spi_origin.proofs.Chosen.{computed_of, is_own, KeepsAim, Chosen, chosen_here, chosen_prefix, chosen_first, chosen_rest}
use Rattle.spi_origin.specs.Gathering.{all_origins, has_left, adds_by}
use Rattle.spi_origin.specs.Origins.{AddsToEffect, adds_check, adds_end, adds_end_many, adds_cast, IsLeft, IsOrigin, origin_here, origin_below}
use Rattle.spi_rules.proofs.Least.{least_of}
use Rattle.spi_rules.proofs.Paying.{has_pays}
use Rattle.spi_rules.specs.Blocking.{Child, child_recv, child_serve, child_split, child_select, child_left, child_right, child_decrypt, child_check, child_begin, child_end, child_end_many, child_cast, child_fresh, child_first, child_rest}
use Rattle.spi_rules.specs.Environment.{Env}
use Rattle.spi_rules.specs.Processes.{IsNonce, nonce_name, nonce_cast}
use Rattle.spi_term.proofs.Counting.{same_atom_true, same_atom_refl, count_in, in_count}
use Rattle.spi_term.proofs.Lists.{get_at, at_get}
use Rattle.spi_term.specs.Counts.{count}
use Rattle.spi_term.specs.Lists.{In}
use Rattle.spi_term.specs.Names.{ProcessOver}
use Rattle.spi_term.specs.Substitution.{ty_put}
use Rattle.spi_term.specs.Term.{Message, name, Atom, ends, checks, many, same_atom, Effect, Ty, nonce, Prefix, Recvs, Serves, Splits, Selects, Decrypts, Checks, Begins, Ends, EndManys, Casts, Freshes, Branches, Pars, Process, leaf, prefix, fork, process_size}

-- the atom is left
left_as : (a : Atom) (e : Env) (p : Process) (o : Option Effect) → ProcessOver (length e) p → computed_of e p ≡ o → has_left a o ≡ true → IsLeft a e p
left_as a e p None over f h = absurd (cc h)
left_as a e p (Some es) over f h = record { effect = es; least = least_of over (sound f); some = ltb-true 0 (count a es) h }

pub kept_left : (a : Atom) (e : Env) (p : Process) → ProcessOver (length e) p → KeepsAim (all_origins a) e p → IsLeft a e p
kept_left a e p over h = left_as a e p (computed_of e p) over refl h

left_has : (a : Atom) (e : Env) (p : Process) (o : Option Effect) → computed_of e p ≡ o → IsLeft a e p → has_left a o ≡ true
left_has a e p None f l = absurd (nothing_paid f (has_pays l.least.derivable.has))
left_has a e p (Some es) f l =
    let w = l.least.least es (record { over = l.least.derivable.over; has = (sound f).has }) in
    lt-ltb 0 (count a es) (let z = w.at a in omega (arith, z, l.some))

pub left_kept : (a : Atom) (e : Env) (p : Process) → IsLeft a e p → KeepsAim (all_origins a) e p
left_kept a e p l = left_has a e p (computed_of e p) refl l

-- what a form adds
is_nonce : (e : Env) (n : Message) (o : Option Effect) → nonce_of e n ≡ o → is_some o ≡ true → (fs : Effect) × IsNonce [] e n fs
is_nonce e n None f h = absurd (cc h)
is_nonce e (name x) (Some fs) f h = (fs, nonce_name (get_at e x (nonce_in_some (slice_get e x) fs f)))
is_nonce e _ (Some fs) f h = absurd (cc f)

nonce_is : {e : Env} {n : Message} {fs : Effect} → IsNonce [] e n fs → is_some (nonce_of e n) ≡ true
nonce_is (nonce_name a) = ap (λ o. is_some (nonce_in o)) (at_get a)
nonce_is (nonce_cast i) = elim i [ ]

adds_same : {e : Env} {p : Process} {a b : Atom} → a ≡ b → AddsToEffect e p b → AddsToEffect e p a
adds_same {e} {p} f h = subst (AddsToEffect e p) (sym f) h

cast_adds : (e : Env) (m : Message) (t : Ty) (p : Process) (a : Atom) → In a (cast_effect_of t) → AddsToEffect e (prefix (Casts m t) p) a
cast_adds e m (nonce es) p a i = adds_cast i
cast_adds e m _ p a i = elim i [ ]

by_adds : (e : Env) (s : Prefix) (p : Process) (a : Atom) → adds_by a s (paid_by e s) ≡ true → AddsToEffect e (prefix s p) a
by_adds e (Recvs m t) p a h = absurd (cc h)
by_adds e (Serves m t) p a h = absurd (cc h)
by_adds e (Splits m t u) p a h = absurd (cc h)
by_adds e (Selects m t n u) p a h = absurd (cc h)
by_adds e (Decrypts m t n) p a h = absurd (cc h)
by_adds e (Checks m n) p a h =
    let c = and_parts (is_some (nonce_of e n)) (same_atom a (checks m)) h in
    let w = is_nonce e n (nonce_of e n) refl c.0 in
    adds_same (same_atom_true a (checks m) c.1) (adds_check w.1)
by_adds e (Begins m) p a h = absurd (cc h)
by_adds e (Ends m) p a h = adds_same (same_atom_true a (ends m) h) adds_end
by_adds e (EndManys m) p a h = adds_same (same_atom_true a (many m) h) adds_end_many
by_adds e (Casts m t) p a h = cast_adds e m t p a (count_in a (cast_effect_of t) (let z = ltb-true 0 (count a (cast_effect_of t)) h in omega (arith, z)))
by_adds e (Freshes t) p a h = absurd (cc h)

own_adds : (a : Atom) (e : Env) (p : Process) → is_own (all_origins a) e p ≡ true → AddsToEffect e p a
own_adds a e (leaf l) h = absurd (cc h)
own_adds a e (prefix s p) h = by_adds e s p a h
own_adds a e (fork f p q) h = absurd (cc h)

adds_own : (a : Atom) (e : Env) (p : Process) → AddsToEffect e p a → is_own (all_origins a) e p ≡ true
adds_own _ e _ (adds_check {m = m} {n = n} i) = and_from (is_some (nonce_of e n)) (same_atom (checks m) (checks m)) (nonce_is i) (same_atom_refl (checks m))
adds_own _ e _ (adds_end {m = m}) = same_atom_refl (ends m)
adds_own _ e _ (adds_end_many {m = m}) = same_atom_refl (many m)
adds_own a e _ (adds_cast {fs = fs} i) = lt-ltb 0 (count a fs) (let z = in_count a fs i in omega (arith, z))

-- the way down
child_origin : {a : Atom} {e e1 e2 : Env} {p p1 : Process} {i j n : ℕ} → n ≡ i + j → IsLeft a e p → Child e p i e2 p1 → e1 ≡ e2 → IsOrigin a e1 p1 j → IsOrigin a e p n
child_origin {a} {e} {e1} {e2} {p} {p1} {i} {j} {n} f l c g o =
    subst (IsOrigin a e p) (sym f) (origin_below l c (subst (λ e. IsOrigin a e p1 j) g o))

pub chosen_origin : {a : Atom} {e : Env} {p : Process} {i : ℕ} → ProcessOver (length e) p → Chosen (all_origins a) e p i → IsOrigin a e p i
chosen_origin {a} {e} {p} over (chosen_here k o) = origin_here (kept_left a e p over k) (own_adds a e p o)
chosen_origin {a} {e} over (chosen_prefix {s = s} {p = p} {i = i} k c) =
    let w = inside e s p in
    child_origin (let z : suc i ≡ 1 + i = omega arith in z) (kept_left a e (prefix s p) over k) w.child w.same (chosen_origin (over_reached (reach_prefix {s = s} reach_root) over) c)
chosen_origin {a} {e} over (chosen_first {f = f} {p = p} {q = q} {i = i} k c) =
    let w = inside_first e f p q in
    child_origin (let z : suc i ≡ 1 + i = omega arith in z) (kept_left a e (fork f p q) over k) w.child w.same (chosen_origin (over_reached (reach_first {f = f} {q = q} reach_root) over) c)
chosen_origin {a} {e} over (chosen_rest {f = f} {p = p} {q = q} {i = i} {j = j} k c g) =
    let w = inside_rest e f p q in
    child_origin (let z : suc j ≡ suc (process_size p) + i = omega (arith, g) in z) (kept_left a e (fork f p q) over k) w.child w.same (chosen_origin (over_reached (reach_rest {f = f} {p = p} reach_root refl) over) c)

module _ (a : Atom) where
  abbrev Is : Env → Process → ℕ → Type 0
  Is e p i = Chosen (all_origins a) e p i

  at_number : {e : Env} {p : Process} {i j : ℕ} → i ≡ j → Is e p i → Is e p j
  at_number {e} {p} f c = subst (Is e p) f c

  at_env : {e e1 : Env} {p : Process} {i : ℕ} → e ≡ e1 → Is e p i → Is e1 p i
  at_env {p = p} {i = i} f c = subst (λ e. Is e p i) f c

  chosen_below : {e e1 : Env} {p p1 : Process} {i j : ℕ} → Child e p i e1 p1 → KeepsAim (all_origins a) e p → Is e1 p1 j → Is e p (i + j)
  chosen_below {j = j} (child_recv {m = m} {t = t}) k c = at_number (one_more j) (chosen_prefix {s = Recvs m t} k c)
  chosen_below {j = j} (child_serve {m = m} {t = t}) k c = at_number (one_more j) (chosen_prefix {s = Serves m t} k c)
  chosen_below {e = e} {j = j} (child_split {m = m} {t = t} {u = u}) k c = at_number (one_more j) (chosen_prefix {s = Splits m t u} k (at_env (sym (two_more e t (ty_put (name (length e)) u))) c))
  chosen_below {j = j} (child_select {m = m} {n = n} {t = t} {u = u}) k c = at_number (one_more j) (chosen_prefix {s = Selects m t n u} k c)
  chosen_below {j = j} (child_left {m = m} {t = t} {u = u}) k c = at_number (one_more j) (chosen_first {f = Branches m t u} k c)
  chosen_below {j = j} (child_right {m = m} {t = t} {u = u} {p = p}) k c = at_number (let h : suc (process_size p + j) ≡ suc (process_size p) + j = omega arith in h) (chosen_rest {f = Branches m t u} k c refl)
  chosen_below {j = j} (child_decrypt {m = m} {n = n} {t = t}) k c = at_number (one_more j) (chosen_prefix {s = Decrypts m t n} k c)
  chosen_below {e = e} {j = j} (child_check {m = m} {n = n}) k c = at_number (one_more j) (chosen_prefix {s = Checks m n} k (at_env (sym (append-nil e)) c))
  chosen_below {e = e} {j = j} (child_begin {m = m}) k c = at_number (one_more j) (chosen_prefix {s = Begins m} k (at_env (sym (append-nil e)) c))
  chosen_below {e = e} {j = j} (child_end {m = m}) k c = at_number (one_more j) (chosen_prefix {s = Ends m} k (at_env (sym (append-nil e)) c))
  chosen_below {e = e} {j = j} (child_end_many {m = m}) k c = at_number (one_more j) (chosen_prefix {s = EndManys m} k (at_env (sym (append-nil e)) c))
  chosen_below {j = j} (child_cast {m = m} {t = t}) k c = at_number (one_more j) (chosen_prefix {s = Casts m t} k c)
  chosen_below {j = j} (child_fresh {t = t}) k c = at_number (one_more j) (chosen_prefix {s = Freshes t} k c)
  chosen_below {e = e} {j = j} child_first k c = at_number (one_more j) (chosen_first {f = Pars} k (at_env (sym (append-nil e)) c))
  chosen_below {e = e} {j = j} (child_rest {p = p}) k c = at_number (let h : suc (process_size p + j) ≡ suc (process_size p) + j = omega arith in h) (chosen_rest {f = Pars} k (at_env (sym (append-nil e)) c) refl)

  pub origin_chosen : {e : Env} {p : Process} {i : ℕ} → IsOrigin a e p i → Is e p i
  origin_chosen (origin_here {env = e} {p = p} l d) = chosen_here (left_kept a e p l) (adds_own a e p d)
  origin_chosen (origin_below {env = e} {p = p} l c o) = chosen_below c (left_kept a e p l) (origin_chosen o)
