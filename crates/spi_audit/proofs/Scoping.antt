-- The changes of uses that fit are in scope, and where all pay no effect has a name out of scope.
use Rattle.std.proofs.Common.{◌≡◌, refl, sym, ap, ◌∙◌, subst, ℕ, suc, ◌+◌, ◌<◌, Bool, true, false, not, ◌||◌, List, [], ◌∷◌, ◌++◌, length, Option, Some, None, ⊎_elim, arith}
use Rattle.std.specs.Prelude.{if◌then◌else◌, ⊤}
use Rattle.std.proofs.lemmas.Bool.{not-true}
use Rattle.spi_term.specs.Term.{Message, name, ends, checks, many, Effect, Ty, un, nonce, Process, check}
use Rattle.spi_term.specs.Lists.{At}
use Rattle.spi_term.specs.Names.{MessageOver, OfTy, OfProcess, TyOver, ProcessOver}
use Rattle.spi_term.specs.Substitution.{ty_put}
use Rattle.spi_term.proofs.Terms.{over_more_process, over_put_ty, over_more_ty}
use Rattle.spi_effect.specs.Made.{mentions, minus}
use Rattle.spi_effect.proofs.Made.{or_false, and_true}
use Rattle.spi_count.specs.Sums.{Below}
use Rattle.spi_rules.specs.Environment.{Env, extended, opened, opened_two, opened_ty}
use Rattle.spi_rules.specs.Good.{GoodEffect}
use Rattle.spi_rules.specs.Processes.{IsNonce, nonce_name, nonce_cast}
use Rattle.spi_rules.specs.Derivations.{RuleUse}
use Rattle.spi_rules.specs.declared.rule.Rule.TheVariants.{ProcCheck}
use Rattle.spi_rules.proofs.Typing.{length_extended, at_cases}
use Rattle.spi_rules.proofs.Good.{good_over}
use Rattle.spi_message.proofs.Deciding.{nonce_complete}
use Rattle.spi_message.proofs.Opened.{over_enter}
use Rattle.spi_audit.specs.Fits.{Subject, of_message, of_process, Fits, fits_name, fits_unit, fits_unit_un, fits_pair, fits_pair_un, fits_inl, fits_inl_un, fits_inr, fits_inr_un, fits_enc, fits_enc_un, fits_hash, fits_stop, fits_out, fits_in, fits_repeat, fits_split, fits_split_un, fits_match, fits_match_un, fits_case, fits_case_un, fits_decrypt, fits_decrypt_un, fits_check, fits_check_un, fits_begin, fits_end, fits_end_many, fits_cast, fits_cast_un, fits_new, fits_par, fits_sub}
use Rattle.spi_audit.specs.Changes.{Change, nothing_done, no_effect, same_effect, one_left, two_left, served, chosen, checked, begun, ended, ended_many, casted, made, summed, subsumed_to, change_of, check_change, top_effect, effects_after, pays, run_changes, first_unpaid_change, before, own, IsScoped, AreScoped, scoped_none, scoped_next}
use Rattle.spi_audit.specs.Walking.{Trace, trace_none, trace_use}
use Rattle.spi_count.proofs.Below.{bound_over, below_joined, below_one, below_minus, below_over, below_bound}

-- effects with names in scope alone
pub data EffectsAreBelow : List ℕ → List Effect → Type 0 where
  below_none : EffectsAreBelow [] []
  below_next : {n : ℕ} {es : Effect} {ns : List ℕ} {st : List Effect} → Below n es → EffectsAreBelow ns st → EffectsAreBelow (n ∷ ns) (es ∷ st)

below_change : (c : Change) (ns : List ℕ) (st : List Effect) → IsScoped c → pays c st ≡ true → EffectsAreBelow (before c ++ ns) st → EffectsAreBelow (own c ++ ns) (effects_after c st)
below_change nothing_done ns st c p a = a
below_change (no_effect k) ns st c p a = below_next (λ b n. elim n [ ]) a
below_change (same_effect k) ns st c p a = a
below_change (one_left k) ns [] c p a = elim a [ ]
below_change (two_left k) ns [] c p a = elim a [ ]
below_change (served k) ns [] c p a = elim a [ ]
below_change (chosen k) ns [] c p a = elim a [ ]
below_change (checked k m fs) ns [] c p a = elim a [ ]
below_change (begun k m) ns [] c p a = elim a [ ]
below_change (ended k m) ns [] c p a = elim a [ ]
below_change (ended_many k m) ns [] c p a = elim a [ ]
below_change (casted k fs) ns [] c p a = elim a [ ]
below_change (made k) ns [] c p a = elim a [ ]
below_change (summed k) ns [] c p a = elim a [ ]
below_change (subsumed_to k fs) ns [] c p a = elim a [ ]
below_change (chosen k) ns (es ∷ []) c p (below_next h a) = elim a [ ]
below_change (summed k) ns (es ∷ []) c p (below_next h a) = elim a [ ]
below_change (one_left k) ns (es ∷ st) c p (below_next h a) = below_next (below_bound k es h (not-true (mentions k es) p)) a
below_change (two_left k) ns (es ∷ st) c p (below_next h a) =
    let r = or_false (mentions k es) (mentions (suc k) es) (not-true (mentions k es || mentions (suc k) es) p) in
    below_next (below_bound k es (below_bound (suc k) es h r.1) r.0) a
below_change (served k) ns (es ∷ st) c p (below_next h a) = below_next (below_bound k es h (not-true (mentions k es) (and_true _ _ p).1)) a
below_change (chosen k) ns (es ∷ (fs ∷ st)) c p (below_next h (below_next j a)) =
    let r = and_true (not (mentions k es)) (not (mentions k fs)) p in
    below_next (below_joined es (minus fs es) (below_bound k es h (not-true (mentions k es) r.0)) (below_minus fs es (below_bound k fs j (not-true (mentions k fs) r.1)))) a
below_change (checked k m fs) ns (es ∷ st) c p (below_next h a) = below_next (below_joined (minus es fs) (checks m ∷ []) (below_minus es fs h) (below_one (checks m) c.0)) a
below_change (begun k m) ns (es ∷ st) c p (below_next h a) = below_next (below_minus es (ends m ∷ (many m ∷ [])) h) a
below_change (ended k m) ns (es ∷ st) c p (below_next h a) = below_next (below_joined es (ends m ∷ []) h (below_one (ends m) c)) a
below_change (ended_many k m) ns (es ∷ st) c p (below_next h a) = below_next (below_joined es (many m ∷ []) h (below_one (many m) c)) a
below_change (casted k fs) ns (es ∷ st) c p (below_next h a) = below_next (below_joined es fs (below_bound k es h (not-true (mentions k es) p)) c) a
below_change (made k) ns (es ∷ st) c p (below_next h a) =
    let ds = minus es (checks (name k) ∷ []) in
    below_next (below_bound k ds (below_minus es (checks (name k) ∷ []) h) (not-true (mentions k ds) p)) a
below_change (summed k) ns (es ∷ (fs ∷ st)) c p (below_next h (below_next j a)) = below_next (below_joined es fs h j) a
below_change (subsumed_to k fs) ns (es ∷ st) c p (below_next h a) = below_next c a

none_first : (b : Bool) (i : ℕ) (o : Option ℕ) → (if b then o else Some i) ≡ None → (b ≡ true) × (o ≡ None)
none_first true i o e = (refl, e)
none_first false i o e = cc

pub below_run : {ms : List ℕ} {cs : List Change} (i : ℕ) → AreScoped ms cs → first_unpaid_change i cs ≡ None → EffectsAreBelow ms (run_changes cs)
below_run i scoped_none e = below_none
below_run i (scoped_next {c = c} {cs = cs} ns s q a) e =
    let r = none_first (pays c (run_changes cs)) i (first_unpaid_change (suc i) cs) e in
    subst (λ ms. EffectsAreBelow ms (effects_after c (run_changes cs))) (sym q) (below_change c ns (run_changes cs) s r.0 (below_run (suc i) a r.1))

pub below_root : {n : ℕ} {cs : List Change} → AreScoped (n ∷ []) cs → first_unpaid_change 0 cs ≡ None → Below n (top_effect (run_changes cs))
below_root {n} {cs} a e = go (run_changes cs) (below_run 0 a e)
  where
    go : (st : List Effect) → EffectsAreBelow (n ∷ []) st → Below n (top_effect st)
    go [] b = elim b [ ]
    go (es ∷ st) (below_next h b) = h

-- what is asked of is over the names in scope
abbrev pub EnvOver : Env → Type 0
EnvOver env = (x : ℕ) (t : Ty) → At env x t → TyOver (length env) t

abbrev pub Over : Subject → Type 0
Over (of_message e m t) = ⊤
Over (of_process e p) = EnvOver e × ProcessOver (length e) p

abbrev pub AreSubjectsOver : List Subject → Type 0
AreSubjectsOver [] = ⊤
AreSubjectsOver (s ∷ ss) = Over s × AreSubjectsOver ss

all_over : (ps ss : List Subject) → AreSubjectsOver ps → AreSubjectsOver ss → AreSubjectsOver (ps ++ ss)
all_over [] ss h k = k
all_over (p ∷ ps) ss h k = (h.0, all_over ps ss h.1 k)

abbrev pub subject_scopes : List Subject → List ℕ
subject_scopes [] = []
subject_scopes (of_message e m t ∷ ss) = subject_scopes ss
subject_scopes (of_process e p ∷ ss) = length e ∷ subject_scopes ss

scopes_joined : (ps ss : List Subject) → subject_scopes (ps ++ ss) ≡ subject_scopes ps ++ subject_scopes ss
scopes_joined [] ss = refl
scopes_joined (of_message e m t ∷ ps) ss = scopes_joined ps ss
scopes_joined (of_process e p ∷ ps) ss = ap (λ l. length e ∷ l) (scopes_joined ps ss)

env_more : (env : Env) (t : Ty) → EnvOver env → TyOver (length env) t → EnvOver (extended env t)
env_more env t h o x u a =
    let l = length_extended env t in
    ⊎_elim
    (λ b. over_more_ty (length env) (length (extended env t)) (omega (arith, l)) 0 u (h x u b))
    (λ r. subst (λ u. TyOver (length (extended env t)) u) (sym r.1) (over_more_ty (length env) (length (extended env t)) (omega (arith, l)) 0 t o))
    (at_cases env t a)

over_one : (env : Env) (t : Ty) (p : Process) → OfProcess (MessageOver (length env)) 1 p → ProcessOver (length (extended env t)) (opened env p)
over_one env t p o =
    let l = length_extended env t in
    over_enter 1 (length env) (length (extended env t)) p (omega (arith, l)) (over_more_process (length env) (length (extended env t)) (omega (arith, l)) 1 p o)

over_two : (env : Env) (t u : Ty) (p : Process) → OfProcess (MessageOver (length env)) 2 p → ProcessOver (length (extended (extended env t) u)) (opened_two env p)
over_two env t u p o =
    let l = length_extended env t in let m = length_extended (extended env t) u in
    let n = length (extended (extended env t) u) in
    over_enter 2 (length env) n p (omega (arith, l, m)) (over_more_process (length env) n (omega (arith, l, m)) 2 p o)

one : (k : ℕ) (p : Process) → OfProcess (MessageOver k) (0 + 1) p → OfProcess (MessageOver k) 1 p
one k p o = let z : 0 + 1 ≡ 1 = omega arith in subst (λ j. OfProcess (MessageOver k) j p) z o

two : (k : ℕ) (p : Process) → OfProcess (MessageOver k) (0 + 2) p → OfProcess (MessageOver k) 2 p
two k p o = let z : 0 + 2 ≡ 2 = omega arith in subst (λ j. OfProcess (MessageOver k) j p) z o

none : (k : ℕ) (p : Process) → OfProcess (MessageOver k) (0 + 0) p → ProcessOver k p
none k p o = let z : 0 + 0 ≡ 0 = omega arith in subst (λ j. OfProcess (MessageOver k) j p) z o

-- under one more name
under : (env : Env) (t : Ty) (p : Process) → EnvOver env → TyOver (length env) t → OfProcess (MessageOver (length env)) (0 + 1) p → Over (of_process (extended env t) (opened env p))
under env t p e o h = (env_more env t e o, over_one env t p (one (length env) p h))

under_two : (env : Env) (t u : Ty) (p : Process) → EnvOver env → TyOver (length env) t → OfTy (MessageOver (length env)) 1 u → OfProcess (MessageOver (length env)) (0 + 2) p
    → Over (of_process (extended (extended env t) (opened_ty env u)) (opened_two env p))
under_two env t u p e o v h =
    let k = length env in
    let l = length_extended env t in
    let low : k < length (extended env t) = omega (arith, l) in
    let w = over_put_ty (length (extended env t)) (name k) low 0 u (over_more_ty k (length (extended env t)) (omega (arith, l)) 1 u v) in
    (env_more (extended env t) (ty_put (name k) u) (env_more env t e o) w, over_two env t (ty_put (name k) u) p (two k p h))

one_more : (env : Env) (t : Ty) (ns : List ℕ) → length (extended env t) ∷ ns ≡ suc (length env) ∷ ns
one_more env t ns = ap (λ n. n ∷ ns) (length_extended env t)

two_more : (env : Env) (t u : Ty) (ns : List ℕ) → length (extended (extended env t) u) ∷ ns ≡ suc (suc (length env)) ∷ ns
two_more env t u ns = ap (λ n. n ∷ ns) (length_extended (extended env t) u ∙ ap suc (length_extended env t))

both_more : (env : Env) (t u : Ty) (ns : List ℕ) → length (extended env t) ∷ (length (extended env u) ∷ ns) ≡ suc (length env) ∷ (suc (length env) ∷ ns)
both_more env t u ns = ap (λ n. n ∷ (length (extended env u) ∷ ns)) (length_extended env t) ∙ ap (λ n. suc (length env) ∷ (n ∷ ns)) (length_extended env u)

pub record IsScopedChange (c : Change) (s : Subject) (ps : List Subject) : Type 0 where
  pub scoped : IsScoped c
  pub over : AreSubjectsOver ps
  pub behind : (ns : List ℕ) → subject_scopes ps ++ ns ≡ before c ++ ns
  pub here : (ss : List Subject) → subject_scopes (s ∷ ss) ≡ own c ++ subject_scopes ss

nonce_below : {env : Env} {n : Message} {fs : Effect} → EnvOver env → IsNonce [] env n fs → Below (length env) fs
nonce_below e (nonce_name {x} {fs} a) = below_over 0 fs (e x (nonce fs) a)
nonce_below e (nonce_cast i) = elim i [ ]

good_below : {env : Env} {fs : Effect} → GoodEffect [] env fs → Below (length env) fs
good_below {fs = fs} g = below_over 0 fs (good_over (λ m gs i. elim i [ ]) g)

in_scope : {u : RuleUse} {s : Subject} {ps : List Subject} → Fits u s ps → Over s → IsScopedChange (change_of u s) s ps
in_scope (fits_name a q) o = record { scoped = tt; over = tt; behind = λ ns. refl; here = λ ss. refl }
in_scope fits_unit o = record { scoped = tt; over = tt; behind = λ ns. refl; here = λ ss. refl }
in_scope fits_unit_un o = record { scoped = tt; over = tt; behind = λ ns. refl; here = λ ss. refl }
in_scope fits_pair o = record { scoped = tt; over = (tt, (tt, tt)); behind = λ ns. refl; here = λ ss. refl }
in_scope fits_pair_un o = record { scoped = tt; over = (tt, (tt, tt)); behind = λ ns. refl; here = λ ss. refl }
in_scope fits_inl o = record { scoped = tt; over = (tt, tt); behind = λ ns. refl; here = λ ss. refl }
in_scope fits_inl_un o = record { scoped = tt; over = (tt, tt); behind = λ ns. refl; here = λ ss. refl }
in_scope fits_inr o = record { scoped = tt; over = (tt, tt); behind = λ ns. refl; here = λ ss. refl }
in_scope fits_inr_un o = record { scoped = tt; over = (tt, tt); behind = λ ns. refl; here = λ ss. refl }
in_scope (fits_enc a) o = record { scoped = tt; over = (tt, tt); behind = λ ns. refl; here = λ ss. refl }
in_scope fits_enc_un o = record { scoped = tt; over = (tt, (tt, tt)); behind = λ ns. refl; here = λ ss. refl }
in_scope (fits_hash l) o = record { scoped = tt; over = tt; behind = λ ns. refl; here = λ ss. refl }
in_scope fits_stop o = record { scoped = tt; over = tt; behind = λ ns. refl; here = λ ss. refl }
in_scope fits_out o = record { scoped = tt; over = (tt, (tt, tt)); behind = λ ns. refl; here = λ ss. refl }
in_scope (fits_in {env = env} {p = p}) o = record { scoped = tt; over = (tt, (under env un p o.0 tt o.1.1, tt)); behind = one_more env un; here = λ ss. refl }
in_scope (fits_repeat {env = env} {p = p}) o = record { scoped = tt; over = (tt, (under env un p o.0 tt o.1.1, tt)); behind = one_more env un; here = λ ss. refl }
in_scope (fits_split {env = env} {t = t} {u = u} {p = p} g) o = record { scoped = tt; over = (tt, (under_two env t u p o.0 o.1.0.1 o.1.0.2 o.1.1, tt)); behind = two_more env t (opened_ty env u); here = λ ss. refl }
in_scope (fits_split_un {env = env} {p = p}) o = record { scoped = tt; over = (tt, (under_two env un un p o.0 tt tt o.1.1, tt)); behind = two_more env un un; here = λ ss. refl }
in_scope (fits_match {env = env} {n = n} {u = u} {p = p} g) o = record { scoped = tt; over = (tt, (tt, (under env (ty_put n u) p o.0 (over_put_ty (length env) n o.1.0.2 0 u o.1.0.3) o.1.1, tt))); behind = one_more env (ty_put n u); here = λ ss. refl }
in_scope (fits_match_un {env = env} {p = p}) o = record { scoped = tt; over = (tt, (tt, (under env un p o.0 tt o.1.1, tt))); behind = one_more env un; here = λ ss. refl }
in_scope (fits_case {env = env} {t = t} {u = u} {p = p} {q = q} g h) o = record { scoped = tt; over = (tt, (under env t p o.0 o.1.0.1 o.1.1, (under env u q o.0 o.1.0.2 o.1.2, tt))); behind = both_more env t u; here = λ ss. refl }
in_scope (fits_case_un {env = env} {p = p} {q = q}) o = record { scoped = tt; over = (tt, (under env un p o.0 tt o.1.1, (under env un q o.0 tt o.1.2, tt))); behind = both_more env un un; here = λ ss. refl }
in_scope (fits_decrypt {env = env} {t = t} {p = p} g) o = record { scoped = tt; over = (tt, (tt, (under env t p o.0 o.1.0.1 o.1.1, tt))); behind = one_more env t; here = λ ss. refl }
in_scope (fits_decrypt_un {env = env} {p = p}) o = record { scoped = tt; over = (tt, (tt, (under env un p o.0 tt o.1.1, tt))); behind = one_more env un; here = λ ss. refl }
in_scope (fits_check {env = env} {m = m} {n = n} {p = p} {fs = fs} i) o =
    subst (λ (x : Option Effect). IsScopedChange (check_change ProcCheck (length env) m x) (of_process env (check m n p)) (of_message env m un ∷ (of_process env p ∷ []))) (sym (nonce_complete i))
    (record { scoped = (bound_over (length env) 0 m o.1.0.0, nonce_below o.0 i); over = (tt, ((o.0, none (length env) p o.1.1), tt)); behind = λ ns. refl; here = λ ss. refl })
in_scope (fits_check_un {env = env} {p = p}) o = record { scoped = tt; over = (tt, (tt, ((o.0, none (length env) p o.1.1), tt))); behind = λ ns. refl; here = λ ss. refl }
in_scope (fits_begin {env = env} {m = m} {p = p} l) o = record { scoped = bound_over (length env) 0 m o.1.0; over = ((o.0, none (length env) p o.1.1), tt); behind = λ ns. refl; here = λ ss. refl }
in_scope (fits_end {env = env} {m = m} {p = p} l) o = record { scoped = bound_over (length env) 0 m o.1.0; over = ((o.0, none (length env) p o.1.1), tt); behind = λ ns. refl; here = λ ss. refl }
in_scope (fits_end_many {env = env} {m = m} {p = p} l) o = record { scoped = bound_over (length env) 0 m o.1.0; over = ((o.0, none (length env) p o.1.1), tt); behind = λ ns. refl; here = λ ss. refl }
in_scope (fits_cast {env = env} {p = p} {fs = fs} g) o = record { scoped = below_over 0 fs o.1.0.1; over = (tt, (under env (nonce fs) p o.0 o.1.0.1 o.1.1, tt)); behind = one_more env (nonce fs); here = λ ss. refl }
in_scope (fits_cast_un {env = env} {p = p}) o = record { scoped = tt; over = (tt, (under env un p o.0 tt o.1.1, tt)); behind = one_more env un; here = λ ss. refl }
in_scope (fits_new {env = env} {t = t} {p = p} i g) o = record { scoped = tt; over = (under env t p o.0 o.1.0 o.1.1, tt); behind = one_more env t; here = λ ss. refl }
in_scope (fits_par {env = env} {p = p} {q = q}) o = record { scoped = tt; over = ((o.0, none (length env) p o.1.1), ((o.0, none (length env) q o.1.2), tt)); behind = λ ns. refl; here = λ ss. refl }
in_scope (fits_sub g) o = record { scoped = good_below g; over = (o, tt); behind = λ ns. refl; here = λ ss. refl }

pub trace_scoped : {ss : List Subject} {us : List RuleUse} {cs : List Change} → Trace ss us cs → AreSubjectsOver ss → AreScoped (subject_scopes ss) cs
trace_scoped trace_none o = scoped_none
trace_scoped (trace_use {u} {s} {ps} {ss} {us} {cs} f t) o =
    let w = in_scope f o.0 in
    scoped_next (subject_scopes ss) w.scoped (w.here ss) (subst (λ ns. AreScoped ns cs) (scopes_joined ps ss ∙ w.behind (subject_scopes ss)) (trace_scoped t (all_over ps ss w.over o.1)))
