-- Ready steps: their number, which is which, and why one is refused.
use Rattle.std.proofs.Common.{◌≡◌, ℕ, zero, suc, ◌<◌, ◌≤◌, ◌⊎◌, ⊎_elim, List, [], ◌∷◌, length, Option, Some, None, refl, ap, sym, ◌∙◌, subst, arith, slice_get}
use Rattle.std.specs.Prelude.{MatchOption, IsSome}
use Rattle.spi_term.specs.Lists.{In, in_first, in_later}
use Rattle.spi_run.specs.Reduction.{Configuration, Step}
use Rattle.spi_run.specs.View.{step}
use Rattle.spi_run.specs.declared.step.Step as steps
use Rattle.spi_replay.specs.declared.fault.StepFault.{StepFault}
use Rattle.spi_replay.specs.declared.fault.StepFault.TheVariants as refused
use Rattle.spi_replay.specs.Ready.{AreReady, IsReady}
use Rattle.spi_replay.specs.Stepping.{Pooled, RefusesPoolStep, no_place, not_ready, too_large, too_many}
use Rattle.spi_replay.proofs.Listed.{one_order}
use Rattle.spi_replay.proofs.Taken.{takes_inside}
use Rattle.spi_play.specs.declared.plays.PlayFault.{PlayFault}
use Rattle.spi_play.specs.declared.plays.PlayFault.TheVariants.{RunMessageTooLarge, TooManyPlaces, NoMemory}
use Rattle.spi_play.specs.Play.{CountsReady, IsKth}
use Rattle.spi_play.specs.Outcome.{IsPickRefused}
use Rattle.spi_play.specs.Turning.{IsFaultOf, IsLate}

-- a configuration has one number of ready steps, and one of each number
pub counts_once : {c : Configuration} {m n : ℕ} → CountsReady c m → CountsReady c n → m ≡ n
counts_once a b = a.2 ∙ ap length (one_order _ _ _ a.1 b.1) ∙ sym b.2

pub kth_once : {c : Configuration} {k : ℕ} {s t : Step} → IsKth c k s → IsKth c k t → s ≡ t
kth_once {k = k} {s = s} {t = t} a b = let e : Some s ≡ Some t = sym a.2 ∙ ap (λ ss. slice_get ss k) (one_order _ _ _ a.1 b.1) ∙ b.2 in cc

pub kth_within : (c : Configuration) (ready k : ℕ) (found : Option steps.Step) → CountsReady c ready → k < ready → MatchOption found ((ss : List Step) × AreReady c ss × (length ss ≤ k)) (λ s. (ss : List Step) × AreReady c ss × (slice_get ss k ≡ Some (step s))) → IsSome found
kth_within c ready k None counts within none =
    let e : ready ≡ length none.0 = counts.2 ∙ ap length (one_order _ _ _ counts.1 none.1) in
    let past = none.2 in
    absurd (omega (arith, e, within, past))
kth_within c ready k (Some s) counts within there = refl

pub kth_found : (c : Configuration) (k : ℕ) (found : Option steps.Step) (s : steps.Step) → found ≡ Some s → MatchOption found ((ss : List Step) × AreReady c ss × (length ss ≤ k)) (λ s. (ss : List Step) × AreReady c ss × (slice_get ss k ≡ Some (step s))) → IsKth c k (step s)
kth_found c k None s e there = absurd (cc)
kth_found c k (Some t) s e there = let f : t ≡ s = cc in let P : steps.Step → Type 0 = λ x. IsKth c k (step x) in subst P f there

-- a ready step
get_in : {A : Type 0} {x : A} (xs : List A) (k : ℕ) → slice_get xs k ≡ Some x → In x xs
get_in [] k e = absurd (cc)
get_in {x = x} (y ∷ xs) zero e = let f : y ≡ x = cc in subst (λ z. In z (y ∷ xs)) f in_first
get_in (y ∷ xs) (suc k) e = in_later (get_in xs k e)

pub kth_ready : {c : Configuration} {k : ℕ} {s : Step} → IsKth c k s → IsReady c s
kth_ready {k = k} a = (a.1.ready _).0 (get_in a.0 k a.2)

-- a ready step is refused by its size or the places alone
pub late : {c : Configuration} {most : ℕ} {s : Step} {fault : StepFault} → IsReady c s → RefusesPoolStep c most s fault → IsLate fault
late ready (no_place o) = absurd (takes_inside ready.2 o)
late ready (not_ready h never) = absurd (never ready)
late ready (too_large r h) = (RunMessageTooLarge _, refl)
late ready (too_many t h m) = (TooManyPlaces _, refl)

pub step_late : {c : Configuration} {k most : ℕ} {s : Step} (fault : StepFault) → IsKth c k s → (fault ≡ refused.NoMemory) ⊎ RefusesPoolStep c most s fault → IsLate fault
step_late fault kth why =
    ⊎_elim (λ e. let P : StepFault → Type 0 = λ f. IsLate f in subst P (sym e) (NoMemory, refl)) (λ r. late (kth_ready kth) r) why

refused_by : (pool : Pooled) (place ready k : ℕ) (s : Step) (fault : StepFault) (other : PlayFault) → IsKth pool.configuration k s → RefusesPoolStep pool.configuration pool.most s fault → IsFaultOf fault other → IsPickRefused pool place ready k other
refused_by pool place ready k s (refused.NoPlace p) other kth why is = absurd is
refused_by pool place ready k s (refused.NotReady p) other kth why is = absurd is
refused_by pool place ready k s (refused.RunMessageTooLarge nodes) other kth why is =
    let P : PlayFault → Type 0 = λ f. IsPickRefused pool place ready k f in
    subst P (sym is) (record { step = s; kth = kth; refuses = why })
refused_by pool place ready k s (refused.TooManyPlaces places) other kth why is =
    let P : PlayFault → Type 0 = λ f. IsPickRefused pool place ready k f in
    subst P (sym is) (record { step = s; kth = kth; refuses = why })
refused_by pool place ready k s refused.NoMemory other kth why is = elim why [ ]

-- a step is refused so
pub step_refused : (pool : Pooled) (place ready k : ℕ) (s : Step) (fault : StepFault) (other : PlayFault) → k < ready → IsKth pool.configuration k s → (fault ≡ refused.NoMemory) ⊎ RefusesPoolStep pool.configuration pool.most s fault → IsFaultOf fault other → IsPickRefused pool place ready k other
step_refused pool place ready k s fault other within kth why is =
    let P : PlayFault → Type 0 = λ f. IsPickRefused pool place ready k f in
    let Q : StepFault → Type 0 = λ f. IsFaultOf f other in
    ⊎_elim (λ e. subst P (sym (subst Q e is)) within) (λ r. refused_by pool place ready k s fault other kth r is) why
