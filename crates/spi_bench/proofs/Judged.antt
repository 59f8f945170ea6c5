-- Shared types in order.
use Rattle.std.proofs.Common.{◌≡◌, ◌↔◌, ◌∙◌, sym, subst, ℕ, Bool, true, List, [], ◌∷◌, ◌++◌, ◌+◌, length, Option, arith, append-nil, append_assoc, length-append}
use Rattle.spi_term.specs.Term.{Ty}
use Rattle.spi_rules.specs.Environment.{Env, extended, untrusted}
use Rattle.spi_rules.specs.Good.{GoodTy}
use Rattle.spi_rules.specs.Processes.{IsGenerative}
use Rattle.spi_rules.proofs.Typing.{length_untrusted}
use Rattle.spi_message.specs.Judging.{Numbered, Stands}
use Rattle.spi_bench.specs.declared.slot.Slot.{Slot}
use Rattle.spi_bench.specs.Slots.{slot_names, AreNamed, AreInferred, IsJudgedBench}
use Rattle.spi_bench.specs.Whole.{AreShared}

abbrev pub IsNext : Env → List Ty → Ty → Type 0
IsNext env ts t = AreShared env ts × (IsGenerative t × GoodTy [] (env ++ ts) t)

pub shared_push : (env : Env) (ts : List Ty) (t : Ty) → AreShared env (ts ++ t ∷ []) ↔ IsNext env ts t
shared_push env [] t = (λ h. (tt, (h.0, subst (λ e. GoodTy [] e t) (sym (append-nil env)) h.1)), λ h. (h.1.0, subst (λ e. GoodTy [] e t) (append-nil env) h.1.1, tt))
shared_push env (u ∷ ts) t = go (shared_push (extended env u) ts t)
  where
    go : AreShared (extended env u) (ts ++ t ∷ []) ↔ IsNext (extended env u) ts t → AreShared env (u ∷ (ts ++ t ∷ [])) ↔ IsNext env (u ∷ ts) t
    go p = (λ h. let q = p.0 h.2 in ((h.0, h.1, q.0), (q.1.0, subst (λ e. GoodTy [] e t) (append_assoc env (u ∷ []) ts) q.1.1)), λ h. (h.0.0, h.0.1, p.1 (h.0.2, (h.1.0, subst (λ e. GoodTy [] e t) (sym (append_assoc env (u ∷ []) ts)) h.1.1))))

pub shared_next : (env : Env) (ts : List Ty) (t : Ty) (us : List Ty) (a b : Bool) → ts ++ t ∷ [] ≡ us → (a ≡ true) ↔ AreShared env ts → (b ≡ true) ↔ ((a ≡ true) × (IsGenerative t × GoodTy [] (env ++ ts) t)) → (b ≡ true) ↔ AreShared env us
shared_next env ts t us a b e h g =
    let p = shared_push env ts t in
    (λ x. let y = g.0 x in subst (AreShared env) e (p.1 (h.0 y.0, y.1)), λ x. let y = p.0 (subst (AreShared env) (sym e) x) in g.1 (h.1 y.0, y.1))

-- a bench with other slots, over the same names
pub judged_with : {i j : Numbered} {free k m n o : ℕ} {ts : List Ty} {fine : Bool} {old new : List (Option Slot)} {at to : List ℕ → Option ℕ} → IsJudgedBench i free ts fine k n old at → Stands j (slot_names free ts) → m ≡ k → o ≡ n → AreNamed new to → AreInferred (slot_names free ts) (free + length ts) new → IsJudgedBench j free ts fine m o new to
judged_with h stands e f places inferred = record {
  stands = stands;
  shared = h.shared;
  over = h.over;
  free_is = e ∙ h.free_is;
  shared_is = f ∙ h.shared_is;
  places = places;
  inferred = inferred;
}

-- how many names there are
pub names_length : (k : ℕ) (ts : List Ty) → length (slot_names k ts) ≡ k + length ts
names_length k ts = let a = length-append (untrusted k) ts in let b = length_untrusted k in omega arith
