-- Why a step that can be taken isn't refused.
use Rattle.std.proofs.Common.{◌≡◌, ℕ, ◌<◌, ◌≤◌, Bool, true, false, List, [], ◌∷◌, refl, sym, ap, ◌∙◌, subst, arith, Option, ◌⊎◌, inl, inr, ⊎_elim, true≢false, eq-eqb}
use Rattle.std.specs.Prelude.{◌==◌, ◌||◌, IsTrue}
use Rattle.std.specs.List.{list_any}
use Rattle.std.proofs.lemmas.Bool.{eqb-true}
use Rattle.spi_term.specs.Lists.{In, in_first, in_later}
use Rattle.spi_run.specs.Reduction.{Step, Event}
use Rattle.spi_replay.specs.declared.fault.StepFault.{StepFault}
use Rattle.spi_replay.specs.declared.fault.StepFault.TheVariants as faults
use Rattle.spi_replay.specs.Stepping.{Pooled, IsTaken, FirstOutside, outside_here, outside_later, RefusesPoolStep, no_place, not_ready, too_large, too_many}
use Rattle.spi_replay.proofs.Taken.{taken_never}
use Rattle.spi_honest.specs.Stages.{IsRoomy}

outside : {n : ℕ} {is : List ℕ} {i : ℕ} → FirstOutside n is i → (j : ℕ) × In j is × (n ≤ j)
outside (outside_here {i = i} l) = (i, in_first, l)
outside (outside_later l o) = let (j, m, h) = outside o in (j, in_later m, h)

inside_out : {n : ℕ} {is : List ℕ} {i : ℕ} → ((j : ℕ) → In j is → j < n) → FirstOutside n is i → ⊥
inside_out h o = let (j, m, l) = outside o in let b = h j m in omega (arith, b, l)

pub taken_fault : {p new : Pooled} {s : Step} {e : Option Event} {f : StepFault} → IsTaken p s e new → (f ≡ faults.NoMemory → ⊥) → (f ≡ faults.NoMemory) ⊎ RefusesPoolStep p.configuration p.most s f → ⊥
taken_fault t d h = ⊎_elim d (λ r. taken_never t r) h

place_refuses : {p : Pooled} {s : Step} {f : StepFault} (i : ℕ) → IsRoomy p s → f ≡ faults.NoPlace i → RefusesPoolStep p.configuration p.most s f → ⊥
place_refuses i h e (no_place o) = inside_out h.inside o
place_refuses i h e (not_ready a b) = absurd cc
place_refuses i h e (too_large a b) = absurd cc
place_refuses i h e (too_many a b c) = absurd cc

many_refuses : {p : Pooled} {s : Step} {f : StepFault} (i : ℕ) → IsRoomy p s → f ≡ faults.TooManyPlaces i → RefusesPoolStep p.configuration p.most s f → ⊥
many_refuses i h e (no_place o) = absurd cc
many_refuses i h e (not_ready a b) = absurd cc
many_refuses i h e (too_large a b) = absurd cc
many_refuses i h e (too_many t s l) = let b = h.room _ _ t in omega (arith, b, l)

pub place_fault : {p : Pooled} {s : Step} {f : StepFault} (i : ℕ) → IsRoomy p s → f ≡ faults.NoPlace i → (f ≡ faults.NoMemory) ⊎ RefusesPoolStep p.configuration p.most s f → ⊥
place_fault i h e g = ⊎_elim (λ z. absurd cc) (λ r. place_refuses i h e r) g

pub many_fault : {p : Pooled} {s : Step} {f : StepFault} (i : ℕ) → IsRoomy p s → f ≡ faults.TooManyPlaces i → (f ≡ faults.NoMemory) ⊎ RefusesPoolStep p.configuration p.most s f → ⊥
many_fault i h e g = ⊎_elim (λ z. absurd cc) (λ r. many_refuses i h e r) g

-- a test finds an element
any_or : (b c : Bool) → (b || c) ≡ true → (b ≡ true) ⊎ (c ≡ true)
any_or true c h = inl refl
any_or false c h = inr h

or_any : (b : Bool) → (b || true) ≡ true
or_any true = refl
or_any false = refl

any_in : (p : ℕ → Bool) (x : ℕ) (xs : List ℕ) → ((y : ℕ) → p y ≡ true → y ≡ x) → list_any p xs ≡ true → In x xs
any_in p x [] f h = absurd (true≢false (sym h))
any_in p x (y ∷ ys) f h = ⊎_elim (λ e. subst (λ z. In z (y ∷ ys)) (f y e) in_first) (λ e. in_later (any_in p x ys f e)) (any_or (p y) (list_any p ys) h)

in_any : (p : ℕ → Bool) (x : ℕ) (xs : List ℕ) → p x ≡ true → In x xs → list_any p xs ≡ true
in_any p x xs h (in_first {xs = ys}) = ap (λ b. b || list_any p ys) h
in_any p x xs h (in_later {y = y} {xs = ys} i) = ap (λ b. p y || b) (in_any p x ys h i) ∙ or_any (p y)

pub found_in : (x : ℕ) (xs : List ℕ) (r : Bool) → r ≡ list_any (λ y. y == x) xs → (IsTrue r → In x xs) × (In x xs → IsTrue r)
found_in x xs r e =
    ((λ h. any_in (λ y. y == x) x xs (λ y g. eqb-true y x g) (sym e ∙ h)), (λ i. e ∙ in_any (λ y. y == x) x xs (eq-eqb x x refl) i))
