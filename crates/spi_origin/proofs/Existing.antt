-- An atom that is left has an origin.
use Rattle.std.proofs.Common.{◌≡◌, refl, sym, ap, ◌∙◌, subst, ℕ, zero, suc, ◌+◌, ◌<◌, ◌≤◌, ◌⊎◌, inl, inr, ⊎_elim, max, Bool, true, false, ◌||◌, [], ◌∷◌, ◌++◌, length, Option, Some, None, arith}
use Rattle.spi_count.proofs.Below.{in_minus}
use Rattle.spi_effect.proofs.Made.{greater_is}
use Rattle.spi_effect.specs.Made.{are_many, minus, greater, mentions}
use Rattle.spi_infer.proofs.Least.{keep_some, after_some, both_some}
use Rattle.spi_infer.specs.Forms.{leaf_ok, prefix_ok, fork_ok, paid_by, unless_blocked, keep, checked, after_prefix, by_effect, by_effects, both, effect_of}
use Rattle.spi_message.proofs.Opened.{numbered_leaf, numbered_prefix, numbered_fork, size_enter}
use Rattle.spi_message.specs.Forms.{enter, more, on_first, on_rest, cast_effect_of}
use Rattle.std.specs.Prelude.{nat_lt}
use Rattle.std.proofs.lemmas.Bool.{ltb-true, ltb-false, lt-ltb}
use Rattle.spi_origin.proofs.Chosen.{computed_of, KeepsAim, Chosen, chosen_here, chosen_prefix, chosen_first, chosen_rest}
use Rattle.spi_origin.proofs.OriginNodes.{left_kept, chosen_origin}
use Rattle.spi_origin.specs.Gathering.{all_origins, has_left, adds_by}
use Rattle.spi_origin.specs.Origins.{IsLeft, IsOrigin, origin_here, origin_below}
use Rattle.spi_rules.specs.Environment.{Env}
use Rattle.spi_term.proofs.Counting.{same_atom_refl, count_in, in_count}
use Rattle.spi_term.proofs.Lists.{in_append, in_cases}
use Rattle.spi_term.specs.Counts.{count}
use Rattle.spi_term.specs.Lists.{In}
use Rattle.spi_term.specs.Term.{Message, name, Atom, ends, checks, many, same_atom, Effect, Prefix, Recvs, Serves, Splits, Selects, Decrypts, Checks, Begins, Ends, EndManys, Casts, Freshes, Fork, Branches, Pars, Process, leaf, prefix, fork, binds, fork_binds, process_size}

in_greater : (a : Atom) (fs gs : Effect) → In a (greater fs gs) → In a fs ⊎ In a gs
in_greater a fs gs i =
    let h = in_count a (greater fs gs) i in
    let d = (greater_is fs gs).at a in
    by (nat_lt 0 (count a fs)) refl (omega (arith, h, d))
  where
    by : (b : Bool) → nat_lt 0 (count a fs) ≡ b → 0 < max (count a fs) (count a gs) → In a fs ⊎ In a gs
    by true e m = inl (count_in a fs (let z = ltb-true 0 (count a fs) e in omega (arith, z)))
    by false e m = inr (count_in a gs (let z = ltb-false 0 (count a fs) e in omega (arith, z, m)))

in_unless : (a : Atom) (b : Bool) (fs es : Effect) → unless_blocked b fs ≡ Some es → In a es → In a fs
in_unless a true fs es e i = absurd (cc e)
in_unless a false fs es e i = let z : fs ≡ es = cc e in subst (In a) (sym z) i

some_is : (a : Atom) (fs es : Effect) → Some fs ≡ Some es → In a es → In a fs
some_is a fs es e i = let z : fs ≡ es = cc e in subst (In a) (sym z) i

-- what is in the effect of a form is in that of its process, or the form adds it
one_more : (a b : Atom) (fs : Effect) → In a (fs ++ b ∷ []) → (same_atom a b ≡ true) ⊎ In a fs
one_more a b fs i =
    ⊎_elim (λ j. inr j) (λ j. ⊎_elim (λ e. inl (subst (λ b. same_atom a b ≡ true) e (same_atom_refl a))) (λ k. elim k [ ]) (in_cases j)) (in_append fs i)

in_checked : (a : Atom) (paid : Option Effect) (m n : Message) (fs es : Effect) → checked paid m fs ≡ Some es → In a es → (adds_by a (Checks m n) paid ≡ true) ⊎ In a fs
in_checked a None m n fs es e i = inr (some_is a fs es e i)
in_checked a (Some gs) m n fs es e i =
    ⊎_elim (λ h. inl h) (λ j. inr (in_minus a fs gs j)) (one_more a (checks m) (minus fs gs) (some_is a (minus fs gs ++ checks m ∷ []) es e i))

in_after : (a : Atom) (k : ℕ) (paid : Option Effect) (s : Prefix) (fs es : Effect) → after_prefix k paid s fs ≡ Some es → In a es → (adds_by a s paid ≡ true) ⊎ In a fs
in_after a k paid (Recvs m t) fs es e i = inr (in_unless a (mentions k fs) fs es e i)
in_after a k paid (Serves m t) fs es e i = inr (in_unless a (mentions k fs) fs es (keep_some (are_many fs) (unless_blocked (mentions k fs) fs) es e).1 i)
in_after a k paid (Splits m t u) fs es e i = inr (in_unless a (mentions k fs || mentions (suc k) fs) fs es e i)
in_after a k paid (Selects m t n u) fs es e i = inr (in_unless a (mentions k fs) fs es e i)
in_after a k paid (Decrypts m t n) fs es e i = inr (in_unless a (mentions k fs) fs es e i)
in_after a k paid (Checks m n) fs es e i = in_checked a paid m n fs es e i
in_after a k paid (Begins m) fs es e i = inr (in_minus a fs (ends m ∷ (many m ∷ [])) (some_is a (minus fs (ends m ∷ (many m ∷ []))) es e i))
in_after a k paid (Ends m) fs es e i = one_more a (ends m) fs (some_is a (fs ++ ends m ∷ []) es e i)
in_after a k paid (EndManys m) fs es e i = one_more a (many m) fs (some_is a (fs ++ many m ∷ []) es e i)
in_after a k paid (Casts m t) fs es e i =
    ⊎_elim (λ j. inr j) (λ j. inl (lt-ltb 0 (count a (cast_effect_of t)) (let z = in_count a (cast_effect_of t) j in omega (arith, z)))) (in_append fs (in_unless a (mentions k fs) (fs ++ cast_effect_of t) es e i))
in_after a k paid (Freshes t) fs es e i = inr (in_minus a fs (checks (name k) ∷ []) (in_unless a (mentions k (minus fs (checks (name k) ∷ []))) (minus fs (checks (name k) ∷ [])) es e i))

in_both : (a : Atom) (k : ℕ) (f : Fork) (fs gs es : Effect) → both k f fs gs ≡ Some es → In a es → In a fs ⊎ In a gs
in_both a k Pars fs gs es e i = in_append fs (some_is a (fs ++ gs) es e i)
in_both a k (Branches m t u) fs gs es e i = in_greater a fs gs (in_unless a (mentions k fs || mentions k gs) (greater fs gs) es e i)

has_some : (a : Atom) (o : Option Effect) → has_left a o ≡ true → (es : Effect) × (o ≡ Some es) × In a es
has_some a None h = absurd (cc h)
has_some a (Some es) h = (es, refl, count_in a es (let z = ltb-true 0 (count a es) h in omega (arith, z)))

has_of : (a : Atom) (o : Option Effect) (es : Effect) → o ≡ Some es → In a es → has_left a o ≡ true
has_of a o es e i = ap (has_left a) e ∙ lt-ltb 0 (count a es) (let z = in_count a es i in omega (arith, z))

none_left : (a : Atom) (b : Bool) (o : Option Effect) → o ≡ keep b (Some []) → has_left a o ≡ true → ⊥
none_left a true o e h =
    let w : nat_lt 0 (count a []) ≡ true = sym (ap (has_left a) e) ∙ h in
    elim (count_in a [] (let z = ltb-true 0 (count a []) w in omega (arith, z))) [ ]
none_left a false o e h = let w : false ≡ true = sym (ap (has_left a) e) ∙ h in absurd (cc w)

abbrev Some_in : Atom → Env → Process → Type 0
Some_in a e p = (i : ℕ) × Chosen (all_origins a) e p i

exists_by : (n : ℕ) (a : Atom) (p : Process) (e : Env) → process_size p ≤ n → KeepsAim (all_origins a) e p → Some_in a e p
exists_by zero a (leaf l) e h k = absurd (omega arith)
exists_by zero a (prefix s p) e h k = absurd (omega arith)
exists_by zero a (fork f p q) e h k = absurd (omega arith)
exists_by (suc n) a (leaf l) e h k =
    absurd (none_left a (leaf_ok e l) (computed_of e (leaf l)) (ap (λ q. effect_of q e) (numbered_leaf (length e) l)) k)
exists_by (suc n) a (prefix s p) e h k =
    let e' = e ++ more e s in
    let p' = enter (binds s) (length e) p in
    let w = has_some a (computed_of e (prefix s p)) k in
    let c = sym (ap (λ q. effect_of q e) (numbered_prefix e s p)) ∙ w.1 in
    let d = keep_some (prefix_ok e s) (by_effect (after_prefix (length e) (paid_by e s) s) (computed_of e' p')) w.0 c in
    let g = after_some (after_prefix (length e) (paid_by e s) s) (computed_of e' p') w.0 d.1 in
    ⊎_elim (λ b. (0, chosen_here k b)) (λ j. let r = exists_by n a p' e' (omega (arith, h, size_enter (binds s) (length e) p)) (has_of a (computed_of e' p') g.0 g.1 j) in (suc r.0, chosen_prefix k r.1)) (in_after a (length e) (paid_by e s) s g.0 w.0 g.2 w.2)
exists_by (suc n) a (fork f p q) e h k =
    let e1 = e ++ on_first f in
    let e2 = e ++ on_rest f in
    let p' = enter (fork_binds f) (length e) p in
    let q' = enter (fork_binds f) (length e) q in
    let w = has_some a (computed_of e (fork f p q)) k in
    let c = sym (ap (λ q. effect_of q e) (numbered_fork e f p q)) ∙ w.1 in
    let d = keep_some (fork_ok e f) (by_effects (both (length e) f) (computed_of e1 p') (computed_of e2 q')) w.0 c in
    let g = both_some (both (length e) f) (computed_of e1 p') (computed_of e2 q') w.0 d.1 in
    ⊎_elim (λ j. let r = exists_by n a p' e1 (omega (arith, h, size_enter (fork_binds f) (length e) p)) (has_of a (computed_of e1 p') g.0 g.2 j) in (suc r.0, chosen_first k r.1)) (λ j. let r = exists_by n a q' e2 (omega (arith, h, size_enter (fork_binds f) (length e) q)) (has_of a (computed_of e2 q') g.1 g.3 j) in (suc (process_size p + r.0), chosen_rest k r.1 refl)) (in_both a (length e) f g.0 g.1 w.0 g.4 w.2)

pub left_has_origin : (a : Atom) (env : Env) (p : Process) → IsLeft a env p → (i : ℕ) × IsOrigin a env p i
left_has_origin a env p l =
    let r = exists_by (process_size p) a p env (omega arith) (left_kept a env p l) in
    (r.0, chosen_origin l.least.derivable.over r.1)

pub origin_left : {a : Atom} {env : Env} {p : Process} {i : ℕ} → IsOrigin a env p i → IsLeft a env p
origin_left (origin_here l d) = l
origin_left (origin_below l c o) = l
