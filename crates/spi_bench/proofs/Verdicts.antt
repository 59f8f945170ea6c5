-- The verdict from what is counted.
use Rattle.std.proofs.Common.{◌≡◌, ◌↔◌, refl, sym, ap, ◌∙◌, subst, ℕ, zero, suc, ◌+◌, ◌-◌, ◌<◌, ◌≤◌, Bool, true, false, nat_lt, if◌then◌else◌, List, [], ◌∷◌, map, length, Option, Some, None, arith, le_trans, ltb-true, ltb-false, eqb-true, IsTrue}
use Rattle.std.proofs.lemmas.List.Sums.{sum_by-cons}
use Rattle.spi_term.specs.declared.term.Effect as D
use Rattle.spi_term.specs.View.{effect}
use Rattle.spi_term.specs.Counts.{tally, count}
use Rattle.spi_term.specs.Lists.{In, in_first, in_later}
use Rattle.spi_term.specs.Names.{ProcessOver}
use Rattle.spi_term.specs.Term.{name, Atom, checks, same_atom, Effect, Ty, Process}
use Rattle.spi_term.proofs.Counting.{cut_le, same_atom_refl, same_atom_true, in_tally, tally_in}
use Rattle.spi_effect.specs.Effect.{Within}
use Rattle.spi_effect.proofs.Laws.{within_trans, within_in}
use Rattle.spi_rules.specs.Environment.{Env, untrusted}
use Rattle.spi_rules.specs.Derivations.{Derivable}
use Rattle.spi_rules.specs.Least.{Least}
use Rattle.spi_rules.proofs.Paying.{has_pays}
use Rattle.spi_infer.specs.Inferring.{IsLeast}
use Rattle.spi_bench.specs.Parts.{Part, Benched, IsYes}
use Rattle.spi_bench.specs.Whole.{whole_process_of, AreOver, AreShared, each_check, sum_of, AreLeast}
use Rattle.spi_bench.specs.Sums.{blocked, placed, place_of_atom, same_place, atom_times, of_least, if_none, of_slot, total}
use Rattle.spi_message.specs.Judging.{Numbered}
use Rattle.spi_bench.specs.Slots.{IsJudgedBench, slot_parts, AreInferred, HaveNoneTwice, slot_names}
use Rattle.spi_bench.specs.declared.slot.Slot.{Slot}
use Rattle.spi_bench.proofs.Counted.{place_is, same_refl, times_append}
use Rattle.spi_bench.proofs.Wholes.{decided, together_least, together_is_least}

at_here : (k n x : ℕ) (a b : Bool) → k ≤ x → x < k + n → nat_lt x k ≡ a → nat_lt (x - k) n ≡ b → (if a then None else (if b then Some (x - k) else None)) ≡ None → ⊥
at_here k n x true b l m e f h = let g : x < k = ltb-true x k e in omega arith
at_here k n x false true l m e f h = absurd (cc)
at_here k n x false false l m e f h = let g : n ≤ x - k = ltb-false (x - k) n f in omega arith

-- a `check` of each shared name
each_in : (k : ℕ) (ts : List Ty) (a : Atom) → In a (each_check k ts) → (x : ℕ) × (a ≡ checks (name x)) × (k ≤ x) × (x < k + length ts)
each_in k [] a i = elim i [ ]
each_in k (t ∷ ts) _ in_first = (k, refl, omega arith, omega arith)
each_in k (t ∷ ts) a (in_later i) = let r = each_in (suc k) ts a i in (r.0, r.1, le_trans (one_less k) r.2, let z = r.3 in omega arith)
  where
    one_less : (j : ℕ) → j ≤ suc j
    one_less j = omega arith

checks_inj : {x y : ℕ} → checks (name x) ≡ checks (name y) → x ≡ y
checks_inj e = cc

each_none : (k n : ℕ) (ts : List Ty) (a : Atom) → length ts ≡ n → In a (each_check k ts) → place_of_atom k n a ≡ None → ⊥
each_none k n ts a q i h =
    let r = each_in k ts a i in
    let e : place_of_atom k n (checks (name r.0)) ≡ None = ap (place_of_atom k n) (sym r.1) ∙ h in
    at_here k n r.0 (nat_lt r.0 k) (nat_lt (r.0 - k) n) r.2 (let z = r.3 in omega arith) refl refl e

tally_cases : (k x : ℕ) (ts : List Ty) (b : Bool) → same_atom (checks (name x)) (checks (name k)) ≡ b → tally (checks (name x)) (each_check (suc k) ts) ≤ 1 → (if b then 1 else 0) + tally (checks (name x)) (each_check (suc k) ts) ≤ 1
tally_cases k x ts true e h =
    let q : x ≡ k = checks_inj (same_atom_true (checks (name x)) (checks (name k)) e) in
    let z = none_before ts q (tally (checks (name x)) (each_check (suc k) ts)) refl in omega arith
  where
    none_before : (us : List Ty) → x ≡ k → (m : ℕ) → tally (checks (name x)) (each_check (suc k) us) ≡ m → m ≡ 0
    none_before us q zero e = refl
    none_before us q (suc m) e =
        let i = tally_in (checks (name x)) (each_check (suc k) us) (let o : 1 ≤ suc m = omega arith in omega arith) in
        let r = each_in (suc k) us (checks (name x)) i in
        let y : x ≡ r.0 = checks_inj r.1 in
        let z = r.2 in absurd (omega arith)
tally_cases k x ts false e h = omega arith

each_once : (k x : ℕ) (ts : List Ty) → tally (checks (name x)) (each_check k ts) ≤ 1
each_once k x [] = omega arith
each_once k x (t ∷ ts) = tally_cases k x ts (same_atom (checks (name x)) (checks (name k))) refl (each_once (suc k) x ts)

each_has : (k i : ℕ) (ts : List Ty) → i < length ts → In (checks (name (k + i))) (each_check k ts)
each_has k i [] l = absurd (omega arith)
each_has k zero (t ∷ ts) l = subst (λ j. In (checks (name j)) (each_check k (t ∷ ts))) (let e : k ≡ k + 0 = omega arith in e) in_first
each_has k (suc i) (t ∷ ts) l = in_later (subst (λ j. In (checks (name j)) (each_check (suc k) ts)) (let e : suc k + i ≡ k + suc i = omega arith in e) (each_has (suc k) i ts (omega arith)))

-- how often an atom stands, and how often its place is counted
tally_le : (k n : ℕ) (a : Atom) (es : Effect) → tally a es ≤ atom_times k n (place_of_atom k n a) es
tally_le k n a [] = omega arith
tally_le k n a (b ∷ es) = more (same_atom a b) refl (tally_le k n a es)
  where
    more : (t : Bool) → same_atom a b ≡ t → tally a es ≤ atom_times k n (place_of_atom k n a) es → (if t then 1 else 0) + tally a es ≤ (if same_place (place_of_atom k n b) (place_of_atom k n a) then 1 else 0) + atom_times k n (place_of_atom k n a) es
    more true e h = let q : same_place (place_of_atom k n b) (place_of_atom k n a) ≡ true = subst (λ c. same_place (place_of_atom k n c) (place_of_atom k n a) ≡ true) (same_atom_true a b e) (same_refl (place_of_atom k n a)) in rw q (omega arith)
    more false e h = omega arith

place_true : (v w : Option ℕ) → same_place v w ≡ true → v ≡ w
place_true None None e = refl
place_true None (Some j) e = absurd (cc)
place_true (Some i) None e = absurd (cc)
place_true (Some i) (Some j) e = ap Some (eqb-true i j e)

times_le_tally : (k n i : ℕ) (es : Effect) → atom_times k n (Some i) es ≤ tally (checks (name (k + i))) es
times_le_tally k n i [] = omega arith
times_le_tally k n i (b ∷ es) = more (same_place (place_of_atom k n b) (Some i)) refl (times_le_tally k n i es)
  where
    more : (t : Bool) → same_place (place_of_atom k n b) (Some i) ≡ t → atom_times k n (Some i) es ≤ tally (checks (name (k + i))) es → (if t then 1 else 0) + atom_times k n (Some i) es ≤ (if same_atom (checks (name (k + i))) b then 1 else 0) + tally (checks (name (k + i))) es
    more true e h = let q = (place_is k n b i (place_true (place_of_atom k n b) (Some i) e)).0 in let s : same_atom (checks (name (k + i))) b ≡ true = subst (λ c. same_atom (checks (name (k + i))) c ≡ true) (sym q) (same_atom_refl (checks (name (k + i)))) in rw s (omega arith)
    more false e h = omega arith

none_times : (k n : ℕ) (es : Effect) → ((a : Atom) → In a es → place_of_atom k n a ≡ None → ⊥) → atom_times k n None es ≡ 0
none_times k n [] h = refl
none_times k n (b ∷ es) h = more (same_place (place_of_atom k n b) None) refl (none_times k n es (λ a i. h a (in_later i)))
  where
    more : (t : Bool) → same_place (place_of_atom k n b) None ≡ t → atom_times k n None es ≡ 0 → (if t then 1 else 0) + atom_times k n None es ≡ 0
    more true e g = absurd (h b in_first (place_true (place_of_atom k n b) None e))
    more false e g = omega arith

-- what is within a `check` of each shared name
pub within_counts : (k : ℕ) (ts : List Ty) (es : Effect) → Within es (each_check k ts) → (atom_times k (length ts) None es ≡ 0) × ((i : ℕ) → i < length ts → atom_times k (length ts) (Some i) es ≤ 1)
within_counts k ts es w = (
  none_times k (length ts) es (λ a i e. each_none k (length ts) ts a refl (within_in w i) e),
  λ i l.
      let a = times_le_tally k (length ts) i es in
      let b = w.at (checks (name (k + i))) in
      let c = each_once k (k + i) ts in omega arith,
)

pub counts_within : (k : ℕ) (ts : List Ty) (es : Effect) → atom_times k (length ts) None es ≡ 0 → ((i : ℕ) → i < length ts → atom_times k (length ts) (Some i) es ≤ 1) → Within es (each_check k ts)
counts_within k ts es z o = record { at = λ a. go a (place_of_atom k (length ts) a) refl }
  where
    go : (a : Atom) (v : Option ℕ) → place_of_atom k (length ts) a ≡ v → count a es ≤ count a (each_check k ts)
    go a None e =
        let t = subst (λ v. tally a es ≤ atom_times k (length ts) v es) e (tally_le k (length ts) a es) in
        cut_le a (tally a es) (tally a (each_check k ts)) (omega arith)
    go a (Some i) e =
        let p = place_is k (length ts) a i e in
        let t = subst (λ v. tally a es ≤ atom_times k (length ts) v es) e (tally_le k (length ts) a es) in
        let u = o i p.1 in
        let v : 1 ≤ tally a (each_check k ts) = in_tally (subst (λ b. In b (each_check k ts)) (sym p.0) (each_has k i ts p.1)) in
        cut_le a (tally a es) (tally a (each_check k ts)) (omega arith)

-- the least effects that are kept
abbrev effect_or : Option D.Effect → Effect
effect_or None = []
effect_or (Some e) = effect e

abbrev effects_of : List (Option Slot) → List Effect
effects_of [] = []
effects_of (None ∷ ss) = effects_of ss
effects_of (Some s ∷ ss) = effect_or s.least ∷ effects_of ss

abbrev slot_processes : List (Option Slot) → List Process
slot_processes ss = map (λ (q : Part). q.part.process) (slot_parts ss)

placed_one : (k n : ℕ) (w : Option ℕ) (o : Option D.Effect) → of_least (atom_times k n w) o ≡ atom_times k n w (effect_or o)
placed_one k n w None = refl
placed_one k n w (Some e) = refl

placed_total : (k n : ℕ) (w : Option ℕ) (ss : List (Option Slot)) → total k n (placed w) ss ≡ atom_times k n w (sum_of (effects_of ss))
placed_total k n w [] = refl
placed_total k n w (None ∷ ss) = sum_by-cons (of_slot k n (placed w)) None ss ∙ (let h = placed_total k n w ss in omega arith)
placed_total k n w (Some s ∷ ss) =
    let a = sum_by-cons (of_slot k n (placed w)) (Some s) ss in
    let b = placed_one k n w s.least in
    let c = times_append k n w (effect_or s.least) (sum_of (effects_of ss)) in
    let h = placed_total k n w ss in omega arith

later : {env : Env} {c : ℕ} (s : Option Slot) (ss : List (Option Slot)) → AreInferred env c (s ∷ ss) → AreInferred env c ss
later s ss h j u e = h (suc j) u e

least_one : (env : Env) (p : Process) (o : Option D.Effect) → if_none o ≡ 0 → IsLeast env p o → Least env p (effect_or o)
least_one env p None e l = absurd (let z : 1 ≡ 0 = e in omega arith)
least_one env p (Some f) e l = l

least_kept : (env : Env) (c k n : ℕ) (ss : List (Option Slot)) → total k n blocked ss ≡ 0 → AreInferred env c ss → AreLeast env (slot_processes ss) (effects_of ss)
least_kept env c k n [] z h = tt
least_kept env c k n (None ∷ ss) z h =
    let a = sum_by-cons (of_slot k n blocked) None ss in
    let y : total k n blocked ss ≡ 0 = omega arith in
    least_kept env c k n ss y (later None ss h)
least_kept env c k n (Some s ∷ ss) z h =
    let a = sum_by-cons (of_slot k n blocked) (Some s) ss in
    let x : if_none s.least ≡ 0 = omega arith in
    let y : total k n blocked ss ≡ 0 = omega arith in
    (least_one env s.part.process s.least x (h 0 s refl).least, least_kept env c k n ss y (later (Some s) ss h))

some_one : (env : Env) (p : Process) (es : Effect) (o : Option D.Effect) → Least env p es → IsLeast env p o → if_none o ≡ 0
some_one env p es None l n = absurd (n es l.derivable)
some_one env p es (Some f) l n = refl

none_blocked : (env : Env) (c k n : ℕ) (ss : List (Option Slot)) (ess : List Effect) → AreLeast env (slot_processes ss) ess → AreInferred env c ss → total k n blocked ss ≡ 0
none_blocked env c k n [] ess l h = refl
none_blocked env c k n (None ∷ ss) ess l h =
    let a = sum_by-cons (of_slot k n blocked) None ss in
    let y = none_blocked env c k n ss ess l (later None ss h) in omega arith
none_blocked env c k n (Some s ∷ ss) [] l h = absurd l
none_blocked env c k n (Some s ∷ ss) (es ∷ ess) l h =
    let a = sum_by-cons (of_slot k n blocked) (Some s) ss in
    let x = some_one env s.part.process es s.least l.0 (h 0 s refl).least in
    let y = none_blocked env c k n ss ess l.1 (later (Some s) ss h) in omega arith

parts_over : (env : Env) (c : ℕ) (ss : List (Option Slot)) → AreInferred env c ss → (p : Process) → In p (slot_processes ss) → ProcessOver c p
parts_over env c [] h p i = elim i [ ]
parts_over env c (None ∷ ss) h p i = parts_over env c ss (later None ss h) p i
parts_over env c (Some s ∷ ss) h _ in_first = (h 0 s refl).over
parts_over env c (Some s ∷ ss) h p (in_later i) = parts_over env c ss (later (Some s) ss h) p i

-- the verdict
abbrev GivesVerdict : ℕ → List Ty → List (Option Slot) → Type 0
GivesVerdict k ts ss = Derivable (untrusted k) (whole_process_of k ts (slot_processes ss)) []

yes_if : (k : ℕ) (ts : List Ty) (ss : List (Option Slot)) → AreOver k ts → AreInferred (slot_names k ts) (k + length ts) ss → AreShared (untrusted k) ts → HaveNoneTwice k (length ts) ss → GivesVerdict k ts ss
yes_if k ts ss o h g t =
    let l = least_kept (slot_names k ts) (k + length ts) k (length ts) ss t.effects h in
    let z = sym (placed_total k (length ts) None ss) ∙ t.others in
    let w = counts_within k ts (sum_of (effects_of ss)) z (λ i b. let a = placed_total k (length ts) (Some i) ss in let c = t.once i b in omega arith) in
    (decided k ts (slot_processes ss) o (parts_over (slot_names k ts) (k + length ts) ss h)).1 (g, (effects_of ss, l, w))

only_if : (k : ℕ) (ts : List Ty) (ss : List (Option Slot)) → AreOver k ts → AreInferred (slot_names k ts) (k + length ts) ss → GivesVerdict k ts ss → AreShared (untrusted k) ts × HaveNoneTwice k (length ts) ss
only_if k ts ss o h d =
    let (g, (ess, l, w)) = (decided k ts (slot_processes ss) o (parts_over (slot_names k ts) (k + length ts) ss h)).0 d in
    let env = slot_names k ts in
    let z = none_blocked env (k + length ts) k (length ts) ss ess l h in
    let m = least_kept env (k + length ts) k (length ts) ss z h in
    let v = (together_least env (slot_processes ss) (effects_of ss) m).least (sum_of ess) (has_pays (together_is_least env (slot_processes ss) ess l).derivable.has) in
    let c = within_counts k ts (sum_of (effects_of ss)) (within_trans v w) in (
      g,
      record {
        effects = z;
        others = placed_total k (length ts) None ss ∙ c.0;
        once = λ i b. let a = placed_total k (length ts) (Some i) ss in let e = c.1 i b in omega arith;
      },
    )

pub verdict_is : (k : ℕ) (ts : List Ty) (ss : List (Option Slot)) → AreOver k ts → AreInferred (slot_names k ts) (k + length ts) ss → GivesVerdict k ts ss ↔ (AreShared (untrusted k) ts × HaveNoneTwice k (length ts) ss)
verdict_is k ts ss o h = (only_if k ts ss o h, λ p. yes_if k ts ss o h p.0 p.1)

-- of a bench
abbrev SeenSlots : ℕ → List Ty → List (Option Slot) → Benched
SeenSlots k ts ss = record { free = k; shared = ts; parts = slot_parts ss }

pub verdict_then : {j : Numbered} {free : ℕ} {ts : List Ty} {fine : Bool} {k n : ℕ} {ss : List (Option Slot)} {at : List ℕ → Option ℕ} {b : Bool} → IsJudgedBench j free ts fine k n ss at → IsTrue b ↔ HaveNoneTwice k n ss → IsTrue fine → IsTrue b ↔ IsYes (SeenSlots free ts ss)
verdict_then {free = free} {ts = ts} {k = k} {n = n} {ss = ss} i p f =
    let v = verdict_is free ts ss i.over i.inferred in
    let q : HaveNoneTwice k n ss ≡ HaveNoneTwice free (length ts) ss = ap (λ m. HaveNoneTwice m n ss) i.free_is ∙ ap (λ m. HaveNoneTwice free m ss) i.shared_is in
    (λ t. v.1 (i.shared.0 f, subst (λ T. T) q (p.0 t)), λ y. p.1 (subst (λ T. T) (sym q) (v.0 y).1))

pub verdict_else : {j : Numbered} {free : ℕ} {ts : List Ty} {fine : Bool} {k n : ℕ} {ss : List (Option Slot)} {at : List ℕ → Option ℕ} → IsJudgedBench j free ts fine k n ss at → fine ≡ false → IsTrue fine ↔ IsYes (SeenSlots free ts ss)
verdict_else {free = free} {ts = ts} {ss = ss} i f =
    let v = verdict_is free ts ss i.over i.inferred in
    (λ t. absurd (let e : false ≡ true = sym f ∙ t in cc), λ y. i.shared.1 (v.0 y).0)
