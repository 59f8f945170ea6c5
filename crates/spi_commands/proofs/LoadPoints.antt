-- Points at which nothing but the running count can be wrong: where that stays small, nothing is wrong.
use Rattle.std.proofs.Common.{◌≡◌, ℕ, ◌+◌, ◌≤◌, Bool, true, ◌&&◌, refl, sym, ap, ◌∙◌, arith, add-zero, le-ltb}
use Rattle.std.proofs.lemmas.Bool.{and_parts}
use Rattle.std.specs.Prelude.{Some, None, Ok, if◌then◌else◌, is_none, ⊤}
use Rattle.std.specs.declared.option.Option.{Option}
use Rattle.spi_scope.specs.declared.fault.ScopeFault.{ScopeFault}
use Rattle.spi_scope.specs.declared.fault.ScopeFault.TheVariants.{FileTooLarge}
use Rattle.spi_scope.specs.Points.{Point, uses_name, uses_type, declares_name, declares_type, ends_message, ends_type, adds, starts_step, Points, none, one, ◌⨾◌, fault_at, added}
use Rattle.spi_scope.specs.Gives.{after, unless, run}
use Rattle.spi_scope.proofs.Counting.{weight}

-- what is wrong at a point but for the running count
abbrev pub own_fault : Point → Option ScopeFault
own_fault (uses_name xs w) = fault_at 0 (uses_name xs w)
own_fault (uses_type ts w) = fault_at 0 (uses_type ts w)
own_fault (declares_name xs w) = fault_at 0 (declares_name xs w)
own_fault (declares_type ts w) = fault_at 0 (declares_type ts w)
own_fault (ends_message n s) = fault_at 0 (ends_message n s)
own_fault (ends_type n s) = fault_at 0 (ends_type n s)
own_fault (adds n s) = None
own_fault (starts_step i n s) = fault_at 0 (starts_step i n s)

-- at none of these points is anything wrong but the running count
abbrev pub Fit : Points → Type 0
Fit none = ⊤
Fit (one p) = own_fault p ≡ None
Fit (ps ⨾ qs) = Fit ps × Fit qs

passes : (o : Option ScopeFault) (c : ℕ) → o ≡ None → unless o (c + 0) ≡ Ok (c + 0)
passes o c e = ap (λ x. unless x (c + 0)) e

one_passes : (p : Point) (c : ℕ) → own_fault p ≡ None → c + added p ≤ 100000 → run (one p) c ≡ Ok (c + added p)
one_passes (uses_name xs w) c h few = passes (fault_at c (uses_name xs w)) c h
one_passes (uses_type ts w) c h few = passes (fault_at c (uses_type ts w)) c h
one_passes (declares_name xs w) c h few = passes (fault_at c (declares_name xs w)) c h
one_passes (declares_type ts w) c h few = passes (fault_at c (declares_type ts w)) c h
one_passes (ends_message n s) c h few = passes (fault_at c (ends_message n s)) c h
one_passes (ends_type n s) c h few = passes (fault_at c (ends_type n s)) c h
one_passes (adds n s) c h few = ap (λ b. unless (if b then Some (FileTooLarge s (c + n)) else None) (c + n)) (le-ltb 100000 (c + n) few)
one_passes (starts_step i n s) c h few = passes (fault_at c (starts_step i n s)) c h

pub fit_run : (ps : Points) (c : ℕ) → Fit ps → c + weight ps ≤ 100000 → run ps c ≡ Ok (c + weight ps)
fit_run none c h few = ap (λ d. Ok d) (sym (add-zero c))
fit_run (one p) c h few = one_passes p c h few
fit_run (ps ⨾ qs) c h few =
    let e : c + weight ps + weight qs ≡ c + (weight ps + weight qs) = omega arith in
    ap (λ r. after r (run qs)) (fit_run ps c h.0 (omega (arith, few)))
    ∙ fit_run qs (c + weight ps) h.1 (omega (arith, few)) ∙ ap (λ d. Ok d) e

-- the same as a test
abbrev pub fit : Points → Bool
fit none = true
fit (one p) = is_none (own_fault p)
fit (ps ⨾ qs) = fit ps && fit qs

none_there : {A : Type 0} (o : Option A) → is_none o ≡ true → o ≡ None
none_there None e = refl
none_there (Some a) e = absurd (cc)

pub tested : (ps : Points) → fit ps ≡ true → Fit ps
tested none e = tt
tested (one p) e = none_there (own_fault p) e
tested (ps ⨾ qs) e = let r = and_parts (fit ps) (fit qs) e in (tested ps r.0, tested qs r.1)
