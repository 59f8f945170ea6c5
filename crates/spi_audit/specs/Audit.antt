-- What an audit of a derivation that anyone made answers.
use Rattle.std.specs.Prelude.{◌≡◌, ◌⊎◌, ℕ, zero, suc, List, [], ◌∷◌, ◌++◌, length, ⊤}
use Rattle.spi_term.specs.Counts.{SameEffect}
use Rattle.spi_term.specs.Term.{Effect, Process}
use Rattle.spi_term.specs.View as View
use Rattle.spi_rules.specs.Environment.{Env, untrusted}
use Rattle.spi_rules.specs.Derivations.{RuleUse, Proves}
use Rattle.spi_audit.specs.Fits.{Subject, of_process, Fits}
use Rattle.spi_audit.specs.Paying.{GivesEffects, PaysByUse}
use Rattle.spi_audit.specs.declared.audited.Audited.{Audited}
use Rattle.spi_audit.specs.declared.audited.Audited.TheVariants.{Proved, WrongStep, Unpaid}

-- Of the uses, asked of the subjects one after another, number i is the first in preorder that doesn't fit. A use
-- that doesn't fit asks nothing of its premises.
pub data MisfitAt : List Subject → List RuleUse → ℕ → Type 0 where
  misfit_here : {s : Subject} {u : RuleUse} {ss : List Subject} {us : List RuleUse}
      → ((ps : List Subject) → Fits u s ps → ⊥) → MisfitAt (s ∷ ss) (u ∷ us) zero
  misfit_later : {s : Subject} {u : RuleUse} {ps ss : List Subject} {us : List RuleUse} {i : ℕ}
      → Fits u s ps → MisfitAt (ps ++ ss) us i → MisfitAt (s ∷ ss) (u ∷ us) (suc i)

-- Each of the uses fits, and they are one tree for each subject, one after another. A subject's effect is that of the
-- root of its tree by the table of rules, whether the uses pay or not.
pub data Judged : List Subject → List RuleUse → List Effect → Type 0 where
  judged_none : Judged [] [] []
  judged_use : {u : RuleUse} {s : Subject} {ps ss : List Subject} {us : List RuleUse} {es fs : List Effect}
      {e : Effect}
      → Fits u s ps → Judged (ps ++ ss) us (es ++ fs) → length es ≡ length ps → GivesEffects u s es e
      → Judged (s ∷ ss) (u ∷ us) (e ∷ fs)

-- each use pays
abbrev pub AllPay : {ss : List Subject} {us : List RuleUse} {es : List Effect} → Judged ss us es → Type 0
AllPay judged_none = ⊤
AllPay (judged_use {u} {s} {es = es} f j l g) = PaysByUse u s es × AllPay j

-- use number i is the first in preorder that doesn't pay
abbrev pub FirstUnpaid : {ss : List Subject} {us : List RuleUse} {es : List Effect} → Judged ss us es → ℕ
    → Type 0
FirstUnpaid judged_none i = ⊥
FirstUnpaid (judged_use {u} {s} {es = es} f j l g) zero = PaysByUse u s es → ⊥
FirstUnpaid (judged_use {u} {s} {es = es} f j l g) (suc i) = PaysByUse u s es × FirstUnpaid j i

-- use number i is wrong: it is the first that doesn't fit, or where all fit the first that doesn't pay
abbrev pub IsWrongAt : Env → Process → List RuleUse → ℕ → Type 0
IsWrongAt env p us i =
    MisfitAt (of_process env p ∷ []) us i
    ⊎ ((e : Effect) × (j : Judged (of_process env p ∷ []) us (e ∷ [])) × FirstUnpaid j i)

-- each use fits and pays, and the root has this effect, which isn't empty
abbrev pub LeavesUnpaid : Env → Process → List RuleUse → Effect → Type 0
LeavesUnpaid env p us fs =
    (e : Effect) × (j : Judged (of_process env p ∷ []) us (e ∷ [])) × AllPay j × SameEffect e fs
    × (SameEffect fs [] → ⊥)

-- what an audit answers of a process whose k free names are untrusted
abbrev pub IsAudited : ℕ → Process → List RuleUse → Audited → Type 0
IsAudited k p us Proved = Proves us (untrusted k) p []
IsAudited k p us (WrongStep i) = IsWrongAt (untrusted k) p us i
IsAudited k p us (Unpaid e) = LeavesUnpaid (untrusted k) p us (View.effect e)

-- two such answers are one, up to the order of an effect's atoms
abbrev pub AreOneAnswer : Audited → Audited → Type 0
AreOneAnswer Proved Proved = ⊤
AreOneAnswer Proved (WrongStep j) = ⊥
AreOneAnswer Proved (Unpaid f) = ⊥
AreOneAnswer (WrongStep i) Proved = ⊥
AreOneAnswer (WrongStep i) (WrongStep j) = i ≡ j
AreOneAnswer (WrongStep i) (Unpaid f) = ⊥
AreOneAnswer (Unpaid e) Proved = ⊥
AreOneAnswer (Unpaid e) (WrongStep j) = ⊥
AreOneAnswer (Unpaid e) (Unpaid f) = SameEffect (View.effect e) (View.effect f)
