-- The first check of a list that fails, and the law that a node which blocks has one.
use Rattle.std.proofs.Common.{◌≡◌, ◌⊎◌, inl, inr, ⊎_elim, refl, ap, List, [], ◌∷◌, ◌++◌, length}
use Rattle.spi_term.specs.Lists.{In, in_first, in_later}
use Rattle.spi_term.proofs.Lists.{in_none}
use Rattle.spi_term.specs.Names.{ProcessOver}
use Rattle.spi_term.specs.Term.{Process}
use Rattle.spi_rules.specs.Environment.{Env}
use Rattle.spi_rules.specs.Blocking.{BlocksAt}
use Rattle.spi_fault.specs.Checks.{Check, checks}
use Rattle.spi_fault.specs.Passing.{Passes}
use Rattle.spi_fault.specs.Faults.{FailsFirst}
use Rattle.spi_fault.proofs.Passed.{all_pass}
use Rattle.spi_fault.proofs.Decided.{Decided, decided}
use Rattle.spi_fault.proofs.Heads.{asked}

-- what trying all comes to
abbrev FailsAll : (Check → Type 0) → List Check → Type 0
FailsAll P cs =
    (before : List Check) × (c : Check) × (after : List Check) × (cs ≡ before ++ c ∷ after) × ((d : Check) → In d before → P d) × (P c → ⊥)

in_more : (P : Check → Type 0) {d c : Check} {cs : List Check} → P c → ((d : Check) → In d cs → P d) → In d (c ∷ cs) → P d
in_more P p h in_first = p
in_more P p h (in_later i) = h _ i

one_more : (P : Check → Type 0) (c : Check) (cs : List Check) → P c → (((d : Check) → In d cs → P d) ⊎ FailsAll P cs) → ((d : Check) → In d (c ∷ cs) → P d) ⊎ FailsAll P (c ∷ cs)
one_more P c cs p (inl h) = inl (λ d i. in_more P p h i)
one_more P c cs p (inr f) = inr (c ∷ f.0, f.1, f.2, ap (λ l. c ∷ l) f.3, λ d i. in_more P p f.4 i, f.5)

try_all : (P : Check → Type 0) (cs : List Check) → ((c : Check) → In c cs → Decided (P c)) → ((d : Check) → In d cs → P d) ⊎ FailsAll P cs
try_all P [] h = inl (λ d i. absurd (in_none i))
try_all P (c ∷ cs) h = by (h c in_first) (try_all P cs (λ d i. h d (in_later i)))
  where
    by : Decided (P c) → (((d : Check) → In d cs → P d) ⊎ FailsAll P cs) → ((d : Check) → In d (c ∷ cs) → P d) ⊎ FailsAll P (c ∷ cs)
    by (inl p) r = one_more P c cs p r
    by (inr n) r = inr ([], c, cs, refl, λ d i. absurd (in_none i), n)

pub fails_first : (env : Env) (p : Process) → ProcessOver (length env) p → BlocksAt env p → (c : Check) × FailsFirst env p c
fails_first env p over b =
    let none : ((d : Check) → In d (checks p) → Passes env p d) → (c : Check) × FailsFirst env p c
    = λ h. absurd (b.none (all_pass env p over b.children h)) in
    let some : FailsAll (Passes env p) (checks p) → (c : Check) × FailsFirst env p c
    = λ f. (f.1, record { before = f.0; after = f.2; all = f.3; pass = f.4; fails = f.5 }) in
    ⊎_elim none some (try_all (Passes env p) (checks p) (λ c i. decided env p over b.children c (asked env p c i)))
