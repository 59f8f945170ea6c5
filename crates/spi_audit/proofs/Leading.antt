-- The forward pass: where uses lead to, and what is open behind a use that fits.
use Rattle.std.proofs.Common.{◌≡◌, refl, sym, ap, ◌∙◌, subst, ℕ, zero, suc, ◌≤◌, List, [], ◌∷◌, ◌++◌, length, take, arith}
use Rattle.std.proofs.lemmas.List.{append_assoc, append-nil, take_all}
use Rattle.spi_term.specs.Spelling.{Shape}
use Rattle.spi_rules.specs.Environment.{Env}
use Rattle.spi_rules.specs.Derivations.{RuleUse}
use Rattle.spi_intern.specs.declared.store.Store.{Store}
use Rattle.spi_intern.specs.Meaning.{Keeps}
use Rattle.spi_intern.specs.declared.types.TyId.{TyId}
use Rattle.spi_message.specs.Judging.{Numbered, Stands, StandFor}
use Rattle.spi_message.proofs.Standing.{stand_push}
use Rattle.spi_audit.specs.declared.asked.Binding.{Binding}
use Rattle.spi_audit.specs.declared.asked.Binding.TheVariants.{Nothing, OneName, TwoNames}
use Rattle.spi_audit.specs.declared.asked.Asked.{Asked}
use Rattle.spi_audit.specs.Fits.{Subject, of_process, Fits}
use Rattle.spi_audit.specs.Audit.{MisfitAt, misfit_here, misfit_later}
use Rattle.spi_audit.specs.Asked.{Bound, bound_none, bound_one, bound_two, AreAsked, asked_none, asked_next, AreBegun, begun_none, begun_next, AreOpen, open_message, open_processes}
use Rattle.spi_audit.specs.Changes.{Change, change_of}
use Rattle.spi_audit.specs.Walking.{Trace, trace_none, trace_use, Led, led_none, led_use, Later, later_none, later_next, Opens, opens_message, opens_later, Misfits, Settles}
use Rattle.spi_message.specs.Tested.{Turns}
use Rattle.spi_audit.proofs.FormPremises.{asked_later, bound_later}

-- one use more
pub led_next : {ss ts : List Subject} {us : List RuleUse} {cs : List Change} {t : Subject} {u : RuleUse} {ps : List Subject} → Led ss us cs (t ∷ ts) → Fits u t ps → Led ss (us ++ u ∷ []) (cs ++ change_of u t ∷ []) (ps ++ ts)
led_next led_none f = led_use f led_none
led_next (led_use g l) f = led_use g (led_next l f)

-- the next use doesn't fit
pub led_misfit : {ss ts : List Subject} {us : List RuleUse} {cs : List Change} (u : RuleUse) (vs : List RuleUse) → Led ss us cs ts → Misfits u ts → MisfitAt ss (us ++ u ∷ vs) (length us)
led_misfit {ts = []} u vs led_none m = absurd m
led_misfit {ts = t ∷ ts} u vs led_none m = misfit_here m
led_misfit u vs (led_use g l) m = misfit_later g (led_misfit u vs l m)

-- nothing is left open
pub led_trace : {ss : List Subject} {us : List RuleUse} {cs : List Change} → Led ss us cs [] → Trace ss us cs
led_trace led_none = trace_none
led_trace (led_use g l) = trace_use g (led_trace l)

take_less : {A : Type 0} (xs ys : List A) (n k : ℕ) → k ≤ n → take n xs ≡ take n ys → take k xs ≡ take k ys
take_less xs ys n k le e = sym (take_twice n k xs le) ∙ (ap (take k) e ∙ take_twice n k ys le)
  where
    take_twice : {A : Type 0} (n k : ℕ) (xs : List A) → k ≤ n → take k (take n xs) ≡ take k xs
    take_twice n zero xs le = refl
    take_twice zero (suc k) xs le = absurd (omega (arith, le))
    take_twice (suc n) (suc k) [] le = refl
    take_twice (suc n) (suc k) (x ∷ xs) le = ap (λ ys. x ∷ ys) (take_twice n k xs (omega (arith, le)))

-- later processes in another environment with the same first names
pub later_moved : {s r : Store} {ss : List Shape} {base n : ℕ} (m : ℕ) {env : Env} (other : Env) {qs : List Asked} {ts : List Subject} → Keeps s r → n ≤ m → take n env ≡ take n other → Later s ss base n env qs ts → Later r ss base m other qs ts
later_moved m other k le e later_none = later_none
later_moved {n = n} m {env = env} other k le e (later_next {scope = scope} {types = types} a b c bound is located rest) =
    let f = take_less env other n scope b e in
    later_next a (omega (arith, b, le)) c (bound_later k bound) (is ∙ ap (λ xs. xs ++ types) f) located (later_moved scope other k (omega arith) f rest)

pub opens_keeps : {s r : Store} {ss : List Shape} {base : ℕ} {env : Env} {qs : List Asked} {ts : List Subject} → Keeps s r → Opens s ss base env qs ts → Opens r ss base env qs ts
opens_keeps k (opens_message a w) = opens_message (asked_later k a) (opens_keeps k w)
opens_keeps {env = env} k (opens_later w) = opens_later (later_moved (length env) env k (omega arith) refl w)

-- the premises of a message's use, before the others
pub opens_asked : {s : Store} {ss : List Shape} {base : ℕ} {env : Env} {qs others : List Asked} {ps ts : List Subject} → AreAsked s env qs ps → Opens s ss base env others ts → Opens s ss base env (qs ++ others) (ps ++ ts)
opens_asked asked_none w = w
opens_asked (asked_next a r) w = opens_message a (opens_asked r w)

-- the premises of a process's use, before the others
later_begun : {s : Store} {ss : List Shape} {base : ℕ} {env : Env} {qs others : List Asked} {ps ts : List Subject} → base ≤ length env → length env ≤ 300000 → AreBegun s ss env qs ps → Later s ss base (length env) env others ts → Later s ss base (length env) env (qs ++ others) (ps ++ ts)
later_begun a b begun_none w = w
later_begun {s} {ss} {base} {env} {others = others} {ts = ts} a b (begun_next {a = next} {e = e} {p = p} {others = more} {ps = ps} g r) w =
    subst (λ x. Later s ss base (length env) env (x ∷ (more ++ others)) (of_process e p ∷ (ps ++ ts))) (sym g.is)
    (later_next a (omega arith) b g.bound (g.env_is ∙ ap (λ xs. xs ++ g.types) (sym (take_all (length env) env (omega arith)))) g.located (later_begun a b r w))

pub opens_open : {s : Store} {ss : List Shape} {base : ℕ} {env : Env} {qs others : List Asked} {ps ts : List Subject} → base ≤ length env → length env ≤ 300000 → AreOpen s ss env qs ps → Later s ss base (length env) env others ts → Opens s ss base env (qs ++ others) (ps ++ ts)
opens_open a b (open_message m r) w = opens_message m (opens_open a b r w)
opens_open a b (open_processes r) w = opens_later (later_begun a b r w)

-- names that are bound
pub settles_none : (j : Numbered) (names : Binding) → names ≡ Nothing → Settles j j names (λ e. e)
settles_none j names q = record { at = λ e types s b. go s (subst (λ n. Bound j.store n types) q b) }
  where
    go : {e types : Env} → Stands j e → Bound j.store Nothing types → Stands j (e ++ types)
    go {e} s bound_none = subst (λ e. StandFor j.store j.types e) (sym (append-nil e)) s

pub settles_one : (j k : Numbered) (names : Binding) (t : TyId) → names ≡ OneName t → k.types ≡ j.types ++ t ∷ [] → k.store ≡ j.store → Settles j k names (λ e. e)
settles_one j k names t q ids st = record { at = λ e types s b. go s (subst (λ n. Bound j.store n types) q b) }
  where
    go : {e types : Env} → Stands j e → Bound j.store (OneName t) types → Stands k (e ++ types)
    go {e} s (bound_one {t = v} m) = subst (λ l. StandFor k.store l (e ++ v ∷ [])) (sym ids) (subst (λ r. StandFor r (j.types ++ t ∷ []) (e ++ v ∷ [])) (sym st) (stand_push s m))

pub settles_two : (j i k : Numbered) (names : Binding) (t u : TyId) → names ≡ TwoNames t u → i.types ≡ j.types ++ t ∷ [] → i.store ≡ j.store → k.types ≡ i.types ++ u ∷ [] → k.store ≡ i.store → Settles j k names (λ e. e)
settles_two j i k names t u q ids st more last = record { at = λ e types s b. go s (subst (λ n. Bound j.store n types) q b) }
  where
    all : k.types ≡ (j.types ++ t ∷ []) ++ u ∷ []
    all = more ∙ ap (λ l. l ++ u ∷ []) ids

    go : {e types : Env} → Stands j e → Bound j.store (TwoNames t u) types → Stands k (e ++ types)
    go {e} s (bound_two {t = v} {u = w} m n) =
        subst (λ e. StandFor k.store k.types e) (append_assoc e (v ∷ []) (w ∷ []))
        (subst (λ l. StandFor k.store l ((e ++ v ∷ []) ++ w ∷ [])) (sym all) (subst (λ r. StandFor r ((j.types ++ t ∷ []) ++ u ∷ []) ((e ++ v ∷ []) ++ w ∷ [])) (sym (last ∙ st)) (stand_push (stand_push s m) n)))

pub settles_after : (j i k : Numbered) (names : Binding) (f : Env → Env) → Turns j i f → i.store ≡ j.store → Settles i k names (λ e. e) → Settles j k names f
settles_after j i k names f t q w = record { at = λ e types s b. w.at (f e) types (t.at e s) (subst (λ r. Bound r names types) (sym q) b) }
