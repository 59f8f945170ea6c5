-- The names of an effect are those in scope.
use Rattle.std.proofs.Common.{◌≡◌, refl, ap, ◌∙◌, subst, ℕ, suc, ◌+◌, ◌≤◌, Bool, true, false, ◌||◌, [], ◌∷◌, ◌++◌, length, Option, Some, None, arith, length-append}
use Rattle.spi_term.specs.Term.{Message, name, ends, checks, many, Effect, Ty, nonce, Prefix, Recvs, Serves, Splits, Selects, Decrypts, Checks, Begins, Ends, EndManys, Casts, Freshes, Fork, Branches, Pars, Process, leaf, prefix, fork, binds, fork_binds}
use Rattle.spi_term.specs.Names.{MessageOver, OfTy, OfPrefix}
use Rattle.spi_term.specs.Arena.{InScope}
use Rattle.spi_effect.specs.Made.{are_many, minus, greater, mentions}
use Rattle.spi_effect.proofs.Made.{or_false}
use Rattle.spi_rules.specs.Environment.{Env}
use Rattle.spi_count.specs.Sums.{name_bound, Below}
use Rattle.spi_message.specs.Forms.{more, on_first, on_rest, cast_effect_of}
use Rattle.spi_infer.specs.Forms.{unless_blocked, keep, checked, after_prefix, both, by_effect, by_effects, effect_of, prefix_ok, fork_ok, leaf_ok, paid_by}
use Rattle.spi_message.proofs.Opened.{length_more, length_first, length_rest}
use Rattle.spi_count.proofs.Below.{bound_over, below_joined, below_one, below_minus, below_over, below_bound, below_more}
use Rattle.spi_infer.proofs.Least.{after_some, unless_some}

next : (k : ℕ) (es : Effect) → Below (k + 1) es → Below (suc k) es
next k es = below_more (k + 1) (suc k) es (omega arith)

keep_yes : (b : Bool) (o : Option Effect) (fs : Effect) → keep b o ≡ Some fs → o ≡ Some fs
keep_yes true o fs h = h
keep_yes false o fs h = cc

below_unless : (k : ℕ) (es fs gs : Effect) → Below (k + 1) es → (Below k es → Below k fs) → unless_blocked (mentions k es) fs ≡ Some gs → Below k gs
below_unless k es fs gs h f e =
    let u = unless_some (mentions k es) fs gs e in
    subst (Below k) u.1 (f (below_bound k es (next k es h) u.0))

below_cast : (k : ℕ) (t : Ty) → OfTy (MessageOver k) 0 t → Below k (cast_effect_of t)
below_cast k (nonce es) h = below_over 0 es h
below_cast k _ h = λ a n. elim n [ ]

below_same : {n : ℕ} {es fs : Effect} → Some es ≡ Some fs → Below n es → Below n fs
below_same {n} {es} {fs} e h = subst (Below n) (let f : es ≡ fs = cc in f) h

below_zero : {k : ℕ} (es : Effect) → Below (k + 0) es → Below k es
below_zero {k} es h a n = let l = h a n in omega (arith, l)

below_checked : (k : ℕ) (paid : Option Effect) (m n : Message) (es fs : Effect) → name_bound m ≤ k → Below k es → checked paid m es ≡ Some fs → Below k fs
below_checked k None m n es fs o h e = below_same e h
below_checked k (Some gs) m n es fs o h e = below_same e (below_joined (minus es gs) (checks m ∷ []) (below_minus es gs h) (below_one (checks m) o))

pub below_after : (k : ℕ) (paid : Option Effect) (s : Prefix) (es fs : Effect) → OfPrefix (MessageOver k) 0 s → Below (k + binds s) es → after_prefix k paid s es ≡ Some fs → Below k fs
below_after k paid (Recvs m t) es fs o h e = below_unless k es es fs h (λ x. x) e
below_after k paid (Serves m t) es fs o h e = below_unless k es es fs h (λ x. x) (keep_yes (are_many es) (unless_blocked (mentions k es) es) fs e)
below_after k paid (Splits m t u) es fs o h e =
    let x = unless_some (mentions k es || mentions (suc k) es) es fs e in
    let y = or_false (mentions k es) (mentions (suc k) es) x.0 in
    let h' : Below (suc (suc k)) es = λ a n. let l = h a n in omega (arith, l) in
    let g : Below (suc k) es = below_bound (suc k) es h' y.1 in
    subst (Below k) x.1 (below_bound k es g y.0)
below_after k paid (Selects m t n u) es fs o h e = below_unless k es es fs h (λ x. x) e
below_after k paid (Decrypts m t n) es fs o h e = below_unless k es es fs h (λ x. x) e
below_after k paid (Checks m n) es fs o h e = below_checked k paid m n es fs (bound_over k 0 m o.0) (below_zero es h) e
below_after k paid (Begins m) es fs o h e = below_same e (below_minus es (ends m ∷ (many m ∷ [])) (below_zero es h))
below_after k paid (Ends m) es fs o h e = below_same e (below_joined es (ends m ∷ []) (below_zero es h) (below_one (ends m) (bound_over k 0 m o)))
below_after k paid (EndManys m) es fs o h e = below_same e (below_joined es (many m ∷ []) (below_zero es h) (below_one (many m) (bound_over k 0 m o)))
below_after k paid (Casts m t) es fs o h e = below_unless k es (es ++ cast_effect_of t) fs h (λ x. below_joined es (cast_effect_of t) x (below_cast k t o.1)) e
below_after k paid (Freshes t) es fs o h e =
    let ds = minus es (checks (name k) ∷ []) in
    below_unless k ds ds fs (below_minus es (checks (name k) ∷ []) h) (λ x. x) e

pub below_both : (k : ℕ) (f : Fork) (es fs gs : Effect) → Below (k + fork_binds f) es → Below (k + fork_binds f) fs → both k f es fs ≡ Some gs → Below k gs
below_both k Pars es fs gs h j e = below_same e (below_joined es fs (below_zero es h) (below_zero fs j))
below_both k (Branches m t u) es fs gs h j e =
    let x = unless_some (mentions k es || mentions k fs) (greater es fs) gs e in
    let y = or_false (mentions k es) (mentions k fs) x.0 in
    subst (Below k) x.1 (below_joined es (minus fs es) (below_bound k es (next k es h) y.0) (below_minus fs es (below_bound k fs (next k fs j) y.1)))

by_both : (f : Effect → Effect → Option Effect) (o p : Option Effect) (gs : Effect) → by_effects f o p ≡ Some gs → (es fs : Effect) × (o ≡ Some es) × (p ≡ Some fs) × (f es fs ≡ Some gs)
by_both f None p gs e = cc
by_both f (Some es) None gs e = cc
by_both f (Some es) (Some fs) gs e = (es, fs, refl, refl, e)

-- the effect of a process has names in scope alone
pub below_effect : (q : Process) (e : Env) (n : ℕ) (es : Effect) → n ≡ length e → InScope n q → effect_of q e ≡ Some es → Below n es
below_effect (leaf l) e n es h o f = below_same (keep_yes (leaf_ok e l) (Some []) es f) (λ a n. elim n [ ])
below_effect (prefix s p) e n es h o f =
    let g = keep_yes (prefix_ok e s) (by_effect (after_prefix (length e) (paid_by e s) s) (effect_of p (e ++ more e s))) es f in
    let (fs, is, then) = after_some (after_prefix (length e) (paid_by e s) s) (effect_of p (e ++ more e s)) es g in
    let l : n + binds s ≡ length (e ++ more e s) = omega (arith, h, length-append e (more e s), length_more e s) in
    below_after n (paid_by e s) s fs es o.0 (below_effect p (e ++ more e s) (n + binds s) fs l o.1 is) (ap (λ n. after_prefix n (paid_by e s) s fs) h ∙ then)
below_effect (fork s p q) e n es h o f =
    let g = keep_yes (fork_ok e s) (by_effects (both (length e) s) (effect_of p (e ++ on_first s)) (effect_of q (e ++ on_rest s))) es f in
    let (fs, gs, is, are, then) = by_both (both (length e) s) (effect_of p (e ++ on_first s)) (effect_of q (e ++ on_rest s)) es g in
    let l : n + fork_binds s ≡ length (e ++ on_first s) = omega (arith, h, length-append e (on_first s), length_first s) in
    let m : n + fork_binds s ≡ length (e ++ on_rest s) = omega (arith, h, length-append e (on_rest s), length_rest s) in
    below_both n s fs gs es (below_effect p (e ++ on_first s) (n + fork_binds s) fs l o.1.0 is) (below_effect q (e ++ on_rest s) (n + fork_binds s) gs m o.1.1 are) (ap (λ n. both n s fs gs) h ∙ then)
