-- What parts side by side pay with, and what the whole pays with.
use Rattle.std.proofs.Common.{◌≡◌, ◌≢◌, ◌⊎◌, ◌↔◌, inl, inr, sym, subst, ℕ, suc, ◌+◌, ◌≤◌, List, [], ◌∷◌, ◌++◌, length, arith, append-nil, append_assoc, length-append, le_refl, ⊎_elim}
use Rattle.spi_term.specs.Lists.{In, in_first, in_later}
use Rattle.spi_term.specs.Names.{ProcessOver, EffectAvoids}
use Rattle.spi_term.specs.Substitution.{process_map, process_put}
use Rattle.spi_term.specs.Term.{name, Atom, checks, Effect, Ty, Process}
use Rattle.spi_effect.specs.Effect.{Within}
use Rattle.spi_effect.proofs.Laws.{within_refl, within_trans, within_append, within_tally, sum_append, tally_append}
use Rattle.spi_rules.specs.Environment.{Env, extended, opened, untrusted}
use Rattle.spi_rules.specs.Good.{GoodTy, good_none}
use Rattle.spi_rules.specs.Derivations.{Derivable}
use Rattle.spi_rules.specs.Processes.{IsGenerative, proc_sub}
use Rattle.spi_rules.specs.Least.{Least}
use Rattle.spi_rules.proofs.Typing.{length_untrusted}
use Rattle.spi_rules.proofs.Paying.{Pays, pays_new, pays_par, has_pays, pays_more, flip}
use Rattle.spi_rules.proofs.Having.{pays_has}
use Rattle.spi_rules.proofs.Least.{LeastOf, least_of, least_is, par_least, stop_least}
use Rattle.spi_infer.proofs.Deriving.{least_or_none}
use Rattle.spi_bench.specs.Whole.{indexed_message, new_named, together, whole_process_of, AreOver, AreShared, each_check, sum_of, AreLeast}
use Rattle.spi_bench.proofs.Named.{opened_back, over_bound}

-- parts side by side
pub together_over : (n : ℕ) (ps : List Process) → ((p : Process) → In p ps → ProcessOver n p) → ProcessOver n (together ps)
together_over n [] h = tt
together_over n (p ∷ []) h = h p in_first
together_over n (p ∷ (q ∷ ps)) h = (tt, h p in_first, together_over n (q ∷ ps) (λ r i. h r (in_later i)))

pub together_least : (env : Env) (ps : List Process) (ess : List Effect) → AreLeast env ps ess → LeastOf env (together ps) (sum_of ess)
together_least env [] [] h = stop_least
together_least env [] (es ∷ ess) h = absurd h
together_least env (p ∷ ps) [] h = absurd h
together_least env (p ∷ []) (es ∷ []) h = subst (λ l. LeastOf env p l) (sym (append-nil es)) (least_is h.0)
together_least env (p ∷ []) (es ∷ (fs ∷ ess)) h = absurd h.1
together_least env (p ∷ (q ∷ ps)) (es ∷ ess) h = par_least (least_is h.0) (together_least env (q ∷ ps) ess h.1) (sum_append es (sum_of ess))

least_over : (env : Env) (ps : List Process) (ess : List Effect) → AreLeast env ps ess → (p : Process) → In p ps → ProcessOver (length env) p
least_over env [] ess h p i = elim i [ ]
least_over env (q ∷ ps) [] h p i = absurd h
least_over env (q ∷ ps) (es ∷ ess) h _ in_first = h.0.derivable.over
least_over env (q ∷ ps) (es ∷ ess) h p (in_later i) = least_over env ps ess h.1 p i

pub together_is_least : (env : Env) (ps : List Process) (ess : List Effect) → AreLeast env ps ess → Least env (together ps) (sum_of ess)
together_is_least env ps ess h = least_of (together_over (length env) ps (least_over env ps ess h)) (together_least env ps ess h)

-- where the parts side by side pay, each of them does
each_pays : (env : Env) (ps : List Process) (fs : Effect) → Pays [] env (together ps) fs → (p : Process) → In p ps → (gs : Effect) × Pays [] env p gs
each_pays env [] fs d p i = elim i [ ]
each_pays env (q ∷ []) fs d _ in_first = (fs, d)
each_pays env (q ∷ []) fs d p (in_later i) = elim i [ ]
each_pays env (q ∷ (r ∷ ps)) fs (pays_par {es = es} d e w) _ in_first = (es, d)
each_pays env (q ∷ (r ∷ ps)) fs (pays_par {gs = gs} d e w) p (in_later i) = each_pays env (r ∷ ps) gs e p i

-- each part has a least effect, or one has none
abbrev AllOrOne : Env → List Process → Type 0
AllOrOne env ps = ((ess : List Effect) × AreLeast env ps ess) ⊎ ((p : Process) × In p ps × ((es : Effect) → Derivable env p es → ⊥))

one_more : (env : Env) (p : Process) (ps : List Process) → ((es : Effect) × Least env p es) → AllOrOne env ps → AllOrOne env (p ∷ ps)
one_more env p ps (es, l) r = ⊎_elim (λ a. inl (es ∷ a.0, (l, a.1))) (λ o. inr (o.0, in_later o.1, o.2)) r

pub all_or_one : (env : Env) (ps : List Process) → ((p : Process) → In p ps → ProcessOver (length env) p) → AllOrOne env ps
all_or_one env [] h = inl ([], tt)
all_or_one env (p ∷ ps) h = ⊎_elim (λ l. one_more env p ps l (all_or_one env ps (λ q i. h q (in_later i)))) (λ n. inr (p, in_first, n)) (least_or_none env p (h p in_first))

pub none_is_one : (env : Env) (ps : List Process) → ((p : Process) → In p ps → ProcessOver (length env) p) → ((es : Effect) → Derivable env (together ps) es → ⊥) ↔ ((p : Process) × In p ps × ((es : Effect) → Derivable env p es → ⊥))
none_is_one env ps h = (to, from)
  where
    to : ((es : Effect) → Derivable env (together ps) es → ⊥) → (p : Process) × In p ps × ((es : Effect) → Derivable env p es → ⊥)
    to none = ⊎_elim (λ r. absurd (none (sum_of r.0) (together_is_least env ps r.0 r.1).derivable)) (λ r. r) (all_or_one env ps h)

    from : (p : Process) × In p ps × ((es : Effect) → Derivable env p es → ⊥) → (es : Effect) → Derivable env (together ps) es → ⊥
    from (p, i, n) es d =
        let (gs, q) = each_pays env ps es (has_pays d.has) p i in
        let (fs, e, w) = pays_has q in
        n fs (record { over = h p i; has = e })

-- the names from k on stand in none of these atoms
abbrev AreNamesClear : ℕ → Effect → Type 0
AreNamesClear k es = (x : ℕ) → k ≤ x → EffectAvoids x es

turned : (c : Effect) (rs fs : Effect) → Within rs (c ++ fs) → Within rs (fs ++ c)
turned c rs fs w = within_trans w (flip fs c)

less_one : (k n : ℕ) → k + suc n ≡ suc k + n
less_one k n = omega arith

no_more : (k : ℕ) → k + 0 ≡ k
no_more k = omega arith

-- over the free and the shared names
abbrev PartsOver : ℕ → List Process → Type 0
PartsOver n ps = (p : Process) → In p ps → ProcessOver n p

parts_next : (k : ℕ) (t : Ty) (ts : List Ty) (ps : List Process) → PartsOver (k + length (t ∷ ts)) ps → PartsOver (suc k + length ts) ps
parts_next k t ts ps h = subst (λ n. PartsOver n ps) (less_one k (length ts)) h

pub whole_over : (k : ℕ) (ts : List Ty) (ps : List Process) → AreOver k ts → PartsOver (k + length ts) ps → ProcessOver k (whole_process_of k ts ps)
whole_over k [] ps a h = together_over k ps (subst (λ n. PartsOver n ps) (no_more k) h)
whole_over k (t ∷ ts) ps a h = (a.0, over_bound k 0 (whole_process_of (suc k) ts ps) (whole_over (suc k) ts ps a.1 (parts_next k t ts ps h)))

-- `new` of the next name
abbrev OpensNext : Env → ℕ → Process → Type 0
OpensNext env k q = opened env (process_map (indexed_message k) 0 q) ≡ q

opens_next : (env : Env) (k : ℕ) (q : Process) → k ≡ length env → ProcessOver (suc k) q → OpensNext env k q
opens_next env k q e o = subst (λ n. process_put (name n) (process_map (indexed_message k) 0 q) ≡ q) e (opened_back (suc k) k q o)

new_pays : (env : Env) (k : ℕ) (t : Ty) (q : Process) (es rest : Effect) → k ≡ length env → OpensNext env k q → Pays [] (extended env t) q es → IsGenerative t → GoodTy [] env t → Within es (checks (name k) ∷ rest) → EffectAvoids k rest → Pays [] env (new_named k t q) rest
new_pays env k t q es rest e o d i g w a =
    pays_new (subst (λ r. Pays [] (extended env t) r es) (sym o) d) i g (subst (λ n. Within es (checks (name n) ∷ rest)) e w) (subst (λ n. EffectAvoids n rest) e a) (within_refl rest)

record OfNew (env : Env) (k : ℕ) (t : Ty) (q : Process) (fs : Effect) : Type 0 where
  es : Effect
  pays : Pays [] (extended env t) q es
  makes : IsGenerative t
  good : GoodTy [] env t
  within : Within es (checks (name k) ∷ fs)

of_new : (env : Env) (k : ℕ) (t : Ty) (q : Process) (fs : Effect) → k ≡ length env → OpensNext env k q → Pays [] env (new_named k t q) fs → OfNew env k t q fs
of_new env k t q fs e o (pays_new {es = es} {rest = rest} d i g v a w) = record {
  es = es;
  pays = subst (λ r. Pays [] (extended env t) r es) o d;
  makes = i;
  good = g;
  within = subst (λ n. Within es (checks (name n) ∷ fs)) (sym e) (within_trans v (within_append (within_refl (checks (name (length env)) ∷ [])) w));
}

next_length : (env : Env) (k : ℕ) (t : Ty) → k ≡ length env → suc k ≡ length (extended env t)
next_length env k t e = rw length-append (omega arith)

-- an atom from the front of what is within to behind it, and back
moved : (c : Atom) (s cs fs : Effect) → Within s ((c ∷ cs) ++ fs) → Within s (cs ++ c ∷ fs)
moved c s cs fs w = within_trans w (within_tally (λ a. omega (arith, tally_append a (c ∷ cs) fs, tally_append a cs (c ∷ fs))))

moved_back : (c : Atom) (s cs fs : Effect) → Within s (cs ++ c ∷ fs) → Within s ((c ∷ cs) ++ fs)
moved_back c s cs fs w = within_trans w (within_tally (λ a. omega (arith, tally_append a (c ∷ cs) fs, tally_append a cs (c ∷ fs))))

clear_next : (k : ℕ) (rest : Effect) → AreNamesClear k rest → AreNamesClear (suc k) (checks (name k) ∷ rest)
clear_next k rest c x le = (let n : k ≢ x = omega arith in n, c x (omega arith))

-- where the parts pay with a `check` of each shared name and something more, the whole pays with that
pub whole_pays : (env : Env) (k : ℕ) (ts : List Ty) (ps : List Process) (s rest : Effect) → k ≡ length env → AreOver k ts → PartsOver (k + length ts) ps → AreShared env ts → AreNamesClear k rest → Pays [] (env ++ ts) (together ps) s → Within s (each_check k ts ++ rest) → Pays [] env (whole_process_of k ts ps) rest
whole_pays env k [] ps s rest e a h g c d w = pays_more (subst (λ v. Pays [] v (together ps) s) (append-nil env) d) w
whole_pays env k (t ∷ ts) ps s rest e a h g c d w =
    let h' = parts_next k t ts ps h in
    let o = opens_next env k (whole_process_of (suc k) ts ps) e (whole_over (suc k) ts ps a.1 h') in
    let b = whole_pays (extended env t) (suc k) ts ps s (checks (name k) ∷ rest) (next_length env k t e) a.1 h' g.2 (clear_next k rest c) (subst (λ v. Pays [] v (together ps) s) (sym (append_assoc env (t ∷ []) ts)) d) (moved (checks (name k)) s (each_check (suc k) ts) rest w) in
    new_pays env k t (whole_process_of (suc k) ts ps) (checks (name k) ∷ rest) rest e o b g.0 g.1 (within_refl (checks (name k) ∷ rest)) (c k (le_refl k))

-- and the other way
pub record PartsPay (env : Env) (k : ℕ) (ts : List Ty) (ps : List Process) (fs : Effect) : Type 0 where
  pub shared : AreShared env ts
  pub es : Effect
  pub pays : Pays [] (env ++ ts) (together ps) es
  pub within : Within es (each_check k ts ++ fs)

pub parts_pay : (env : Env) (k : ℕ) (ts : List Ty) (ps : List Process) (fs : Effect) → k ≡ length env → AreOver k ts → PartsOver (k + length ts) ps → Pays [] env (whole_process_of k ts ps) fs → PartsPay env k ts ps fs
parts_pay env k [] ps fs e a h d = record {
  shared = tt;
  es = fs;
  pays = subst (λ v. Pays [] v (together ps) fs) (sym (append-nil env)) d;
  within = within_refl fs;
}
parts_pay env k (t ∷ ts) ps fs e a h d =
    let h' = parts_next k t ts ps h in
    let o = opens_next env k (whole_process_of (suc k) ts ps) e (whole_over (suc k) ts ps a.1 h') in
    let n = of_new env k t (whole_process_of (suc k) ts ps) fs e o d in
    let b = parts_pay (extended env t) (suc k) ts ps n.es (next_length env k t e) a.1 h' n.pays in
    record {
      shared = (n.makes, n.good, b.shared);
      es = b.es;
      pays = subst (λ v. Pays [] v (together ps) b.es) (append_assoc env (t ∷ []) ts) b.pays;
      within = moved_back (checks (name k)) b.es (each_check (suc k) ts) fs (within_trans b.within (within_append (within_refl (each_check (suc k) ts)) n.within));
    }

-- the whole is derivable with nothing exactly where the parts pay with a `check` of each shared name
abbrev pub IsDecidedByParts : Env → ℕ → List Ty → List Process → Type 0
IsDecidedByParts env k ts ps = AreShared env ts × ((ess : List Effect) × AreLeast (env ++ ts) ps ess × Within (sum_of ess) (each_check k ts))

no_rest : (k : ℕ) → AreNamesClear k []
no_rest k x le = tt

from_parts : (env : Env) (k : ℕ) (ts : List Ty) (ps : List Process) → k ≡ length env → AreOver k ts → PartsOver (k + length ts) ps → IsDecidedByParts env k ts ps → Derivable env (whole_process_of k ts ps) []
from_parts env k ts ps e a h (g, (ess, l, w)) =
    let d = has_pays (together_is_least (env ++ ts) ps ess l).derivable.has in
    let p = whole_pays env k ts ps (sum_of ess) [] e a h g (no_rest k) d (subst (λ fs. Within (sum_of ess) fs) (sym (append-nil (each_check k ts))) w) in
    let (fs, b, v) = pays_has p in
    record { over = subst (λ n. ProcessOver n (whole_process_of k ts ps)) e (whole_over k ts ps a h); has = proc_sub b v good_none }

both_length : (env : Env) (k : ℕ) (ts : List Ty) → k ≡ length env → k + length ts ≡ length (env ++ ts)
both_length env k ts e = rw length-append (omega arith)

to_parts : (env : Env) (k : ℕ) (ts : List Ty) (ps : List Process) → k ≡ length env → AreOver k ts → PartsOver (k + length ts) ps → Derivable env (whole_process_of k ts ps) [] → IsDecidedByParts env k ts ps
to_parts env k ts ps e a h d =
    let p = parts_pay env k ts ps [] e a h (has_pays d.has) in
    (p.shared, ⊎_elim (λ r. paid_by p r.0 r.1) (λ r. blocked_by p r.0 r.1 r.2) (all_or_one (env ++ ts) ps over))
  where
    over : PartsOver (length (env ++ ts)) ps
    over = subst (λ n. PartsOver n ps) (both_length env k ts e) h

    paid_by : (p : PartsPay env k ts ps []) (ess : List Effect) → AreLeast (env ++ ts) ps ess → (fss : List Effect) × AreLeast (env ++ ts) ps fss × Within (sum_of fss) (each_check k ts)
    paid_by p ess l = (ess, l, within_trans ((together_least (env ++ ts) ps ess l).least p.es p.pays) (subst (λ fs. Within p.es fs) (append-nil (each_check k ts)) p.within))

    blocked_by : (p : PartsPay env k ts ps []) (q : Process) → In q ps → ((es : Effect) → Derivable (env ++ ts) q es → ⊥) → (fss : List Effect) × AreLeast (env ++ ts) ps fss × Within (sum_of fss) (each_check k ts)
    blocked_by p q i n =
        let (gs, d) = each_pays (env ++ ts) ps p.es p.pays q i in
        let (fs, b, v) = pays_has d in
        absurd (n fs (record { over = over q i; has = b }))

pub decided : (k : ℕ) (ts : List Ty) (ps : List Process) → AreOver k ts → PartsOver (k + length ts) ps → Derivable (untrusted k) (whole_process_of k ts ps) [] ↔ IsDecidedByParts (untrusted k) k ts ps
decided k ts ps a h = (to_parts (untrusted k) k ts ps (sym (length_untrusted k)) a h, from_parts (untrusted k) k ts ps (sym (length_untrusted k)) a h)
