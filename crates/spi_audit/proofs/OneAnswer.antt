-- There is one answer.
use Rattle.std.proofs.Common.{◌≡◌, refl, ℕ, List, [], ◌∷◌, ⊎_elim}
use Rattle.spi_term.specs.Term.{Effect, Process}
use Rattle.spi_term.specs.Counts.{SameEffect}
use Rattle.spi_effect.proofs.Laws.{same_sym, same_trans}
use Rattle.spi_rules.specs.Environment.{Env}
use Rattle.spi_rules.specs.Derivations.{RuleUse, Proves}
use Rattle.spi_audit.specs.Fits.{of_process}
use Rattle.spi_audit.specs.Audit.{MisfitAt, Judged, FirstUnpaid, IsWrongAt, LeavesUnpaid, IsAudited, AreOneAnswer}
use Rattle.spi_audit.specs.declared.audited.Audited.{Audited}
use Rattle.spi_audit.specs.declared.audited.Audited.TheVariants.{Proved, WrongStep, Unpaid}
use Rattle.spi_audit.proofs.Agreeing.{AllSame, same_next, same_none, judged_same, none_unpaid, unpaid_one, misfit_judged, misfit_one}
use Rattle.spi_audit.proofs.Complete.{Clear, proves_clear}

the_same : {e f : Effect} → AllSame (e ∷ []) (f ∷ []) → SameEffect e f
the_same (same_next h same_none) = h

module _ {env : Env} {p : Process} {us : List RuleUse} where
  clear_wrong : {i : ℕ} {es : List Effect} → Clear (of_process env p ∷ []) us es → IsWrongAt env p us i → ⊥
  clear_wrong {i} c h =
      ⊎_elim
      (λ (m : MisfitAt (of_process env p ∷ []) us i). misfit_judged refl m c.0)
      (λ (w : (e : Effect) × (j : Judged (of_process env p ∷ []) us (e ∷ [])) × FirstUnpaid j i). none_unpaid i refl c.0 w.1 c.1 w.2) h

  clear_one : {e f : Effect} → Clear (of_process env p ∷ []) us (e ∷ []) → Clear (of_process env p ∷ []) us (f ∷ []) → SameEffect e f
  clear_one c d = the_same (judged_same refl c.0 d.0)

  wrong_one : {i n : ℕ} → IsWrongAt env p us i → IsWrongAt env p us n → i ≡ n
  wrong_one {i} {n} h k =
      ⊎_elim
      (λ (m : MisfitAt (of_process env p ∷ []) us i). ⊎_elim
      (λ (l : MisfitAt (of_process env p ∷ []) us n). misfit_one refl m l)
      (λ (w : (e : Effect) × (j : Judged (of_process env p ∷ []) us (e ∷ [])) × FirstUnpaid j n). absurd (misfit_judged refl m w.1)) k)
      (λ (v : (e : Effect) × (j : Judged (of_process env p ∷ []) us (e ∷ [])) × FirstUnpaid j i). ⊎_elim
      (λ (l : MisfitAt (of_process env p ∷ []) us n). absurd (misfit_judged refl l v.1))
      (λ (w : (e : Effect) × (j : Judged (of_process env p ∷ []) us (e ∷ [])) × FirstUnpaid j n). unpaid_one i n refl v.1 w.1 v.2 w.2) k) h

  proved_paid : {fs : Effect} → Proves us env p [] → LeavesUnpaid env p us fs → ⊥
  proved_paid h k =
      let s = same_trans (same_sym h.same) (clear_one (proves_clear h) (k.1, k.2)) in
      k.4 (same_sym (same_trans s k.3))

  left_one : {es fs : Effect} → LeavesUnpaid env p us es → LeavesUnpaid env p us fs → SameEffect es fs
  left_one h k = same_trans (same_sym h.3) (same_trans (clear_one (h.1, h.2) (k.1, k.2)) k.3)

  left_wrong : {es : Effect} {i : ℕ} → LeavesUnpaid env p us es → IsWrongAt env p us i → ⊥
  left_wrong h w = clear_wrong (h.1, h.2) w

pub one_answer : (k : ℕ) (p : Process) (us : List RuleUse) (a b : Audited) → IsAudited k p us a → IsAudited k p us b → AreOneAnswer a b
one_answer k p us Proved Proved h j = tt
one_answer k p us Proved (WrongStep i) h j = clear_wrong (proves_clear h) j
one_answer k p us Proved (Unpaid f) h j = proved_paid h j
one_answer k p us (WrongStep i) Proved h j = clear_wrong (proves_clear j) h
one_answer k p us (WrongStep i) (WrongStep n) h j = wrong_one h j
one_answer k p us (WrongStep i) (Unpaid f) h j = left_wrong j h
one_answer k p us (Unpaid e) Proved h j = proved_paid j h
one_answer k p us (Unpaid e) (WrongStep n) h j = left_wrong h j
one_answer k p us (Unpaid e) (Unpaid f) h j = left_one h j
