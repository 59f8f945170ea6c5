-- What the answer says, where each use fits.
use Rattle.std.proofs.Common.{◌≡◌, refl, sym, ap, subst, ℕ, ◌+◌, ◌<◌, List, [], ◌∷◌, length, Option, None, inr, arith, map, true, false}
use Rattle.std.specs.Prelude.{Vec, vec_len, ◌==◌}
use Rattle.std.specs.declared.alloc.Global.{Global}
use Rattle.std.proofs.lemmas.Bool.{eqb-true, eqb-false}
use Rattle.spi_term.specs.declared.term.Atom as Code
use Rattle.spi_audit.proofs.Turning.{no_items}
use Rattle.spi_term.specs.Term.{Effect, Process}
use Rattle.spi_term.specs.Names.{ProcessOver, TyOver}
use Rattle.spi_term.specs.Lists.{in_first}
use Rattle.spi_term.specs.Counts.{count, SameEffect}
use Rattle.spi_term.proofs.Counting.{in_count, count_none}
use Rattle.spi_term.specs.View as View
use Rattle.spi_rules.specs.Environment.{untrusted}
use Rattle.spi_rules.specs.Derivations.{RuleUse, Proves, effect_uses}
use Rattle.spi_rules.specs.Processes.{HasEffect}
use Rattle.spi_rules.proofs.Typing.{length_untrusted, at_untrusted}
use Rattle.spi_effect.proofs.Laws.{same_refl}
use Rattle.spi_audit.specs.declared.audited.Audited.{Audited}
use Rattle.spi_audit.specs.declared.audited.Audited.TheVariants.{Proved, WrongStep, Unpaid}
use Rattle.spi_audit.specs.Fits.{of_process}
use Rattle.spi_audit.specs.Audit.{Judged, AllPay, FirstUnpaid, IsAudited}
use Rattle.spi_audit.specs.Changes.{Change, run_changes, top_effect, first_unpaid_change, AreScoped}
use Rattle.spi_audit.specs.Walking.{Trace}
use Rattle.spi_audit.specs.Settled.{IsLeftOver, IsSettled}
use Rattle.spi_audit.proofs.Sound.{sound_one}
use Rattle.spi_audit.proofs.Computed.{Verdict, trace_judged}
use Rattle.spi_audit.proofs.Scoping.{EnvOver, trace_scoped}

-- an effect with the counts of none
pub same_nothing : (es : Effect) → SameEffect [] es → es ≡ []
same_nothing [] h = refl
same_nothing (a ∷ es) h = absurd (let e = h.at a in let z = count_none a in let p : 0 < count a (a ∷ es) = in_count a (a ∷ es) in_first in omega (arith, e, z, p))

map_empty : {A B : Type 0} (f : A → B) (xs : List A) → map f xs ≡ [] → xs ≡ []
map_empty f [] e = refl
map_empty f (x ∷ xs) e = absurd (cc)

pub left_nothing : (v : Vec Code.Atom Global) → true ≡ (vec_len v == 0) → (es : Effect) → SameEffect (map View.atom v.items) es → es ≡ []
left_nothing v e es h = same_nothing es (subst (λ xs. SameEffect (map View.atom xs) es) (no_items v (eqb-true (vec_len v) 0 (sym e))) h)

pub left_something : (v : Vec Code.Atom Global) → false ≡ (vec_len v == 0) → SameEffect (map View.atom v.items) [] → ⊥
left_something v e h = eqb-false (vec_len v) 0 (sym e) (let z = ap length (map_empty View.atom v.items (same_nothing (map View.atom v.items) (record { at = λ a. sym (h.at a) }))) in let r : vec_len v ≡ 0 = omega (arith, v.ok.0, z) in r)

-- what is left is what it comes to, where each use pays
pub left_settled : (cs : List Change) (r : Audited) → first_unpaid_change 0 cs ≡ None → IsLeftOver (top_effect (run_changes cs)) r → IsSettled cs r
left_settled cs Proved e h = (e, h)
left_settled cs (WrongStep i) e h = absurd h
left_settled cs (Unpaid f) e h = (e, h.0, h.1)

env_over : (k : ℕ) → EnvOver (untrusted k)
env_over k x t w = subst (λ t. TyOver (length (untrusted k)) t) (sym (at_untrusted k w)) tt

pub untrusted_over : (k : ℕ) (p : Process) → ProcessOver k p → ProcessOver (length (untrusted k)) p
untrusted_over k p o = subst (λ n. ProcessOver n p) (sym (length_untrusted k)) o

pub root_scoped : (k : ℕ) (p : Process) {us : List RuleUse} {cs : List Change} → ProcessOver k p → Trace (of_process (untrusted k) p ∷ []) us cs → AreScoped (length (untrusted k) ∷ []) cs
root_scoped k p o t = trace_scoped t ((env_over k, untrusted_over k p o), tt)

pub settled_audited : (k : ℕ) (p : Process) (us : List RuleUse) (cs : List Change) (r : Audited) → ProcessOver k p → Trace (of_process (untrusted k) p ∷ []) us cs → IsSettled cs r → IsAudited k p us r
settled_audited k p us cs Proved o t h = go (trace_judged t).0 (subst (λ (n : Option ℕ). Verdict 0 n (trace_judged t).0) h.0 ((trace_judged t).1 0))
  where
    go : (j : Judged (of_process (untrusted k) p ∷ []) us (top_effect (run_changes cs) ∷ [])) → AllPay j → Proves us (untrusted k) p []
    go j a =
        let y = sound_one j a in
        let z : (h : HasEffect [] (untrusted k) p []) × (effect_uses h ≡ us) = subst (λ es. (h : HasEffect [] (untrusted k) p es) × (effect_uses h ≡ us)) h.1 y in
        record { over = untrusted_over k p o; effect = []; same = same_refl []; has = z.0; are = z.1 }
settled_audited k p us cs (WrongStep i) o t h = inr (top_effect (run_changes cs), (trace_judged t).0, first (subst (λ (n : Option ℕ). Verdict 0 n (trace_judged t).0) h ((trace_judged t).1 0)))
  where
    first : (d : ℕ) × (i ≡ 0 + d) × FirstUnpaid (trace_judged t).0 d → FirstUnpaid (trace_judged t).0 i
    first (d, e, f) = subst (λ n. FirstUnpaid (trace_judged t).0 n) (let q : d ≡ i = omega (arith, e) in q) f
settled_audited k p us cs (Unpaid f) o t h = (top_effect (run_changes cs), (trace_judged t).0, subst (λ (n : Option ℕ). Verdict 0 n (trace_judged t).0) h.0 ((trace_judged t).1 0), h.1, h.2)
