-- What the answer is, where each use fits.
use Rattle.std.specs.Prelude.{◌≡◌, List, [], Some, None}
use Rattle.spi_term.specs.Term.{Effect}
use Rattle.spi_term.specs.Counts.{SameEffect}
use Rattle.spi_term.specs.View as View
use Rattle.spi_audit.specs.declared.audited.Audited.{Audited}
use Rattle.spi_audit.specs.declared.audited.Audited.TheVariants.{Proved, WrongStep, Unpaid}
use Rattle.spi_audit.specs.Changes.{Change, run_changes, top_effect, first_unpaid_change}

-- an effect that is left
abbrev pub IsLeftOver : Effect → Audited → Type 0
IsLeftOver es Proved = es ≡ []
IsLeftOver es (WrongStep i) = ⊥
IsLeftOver es (Unpaid f) = SameEffect es (View.effect f) × (SameEffect (View.effect f) [] → ⊥)

abbrev pub IsSettled : List Change → Audited → Type 0
IsSettled cs Proved = (first_unpaid_change 0 cs ≡ None) × (top_effect (run_changes cs) ≡ [])
IsSettled cs (WrongStep i) = first_unpaid_change 0 cs ≡ Some i
IsSettled cs (Unpaid f) =
    (first_unpaid_change 0 cs ≡ None) × SameEffect (top_effect (run_changes cs)) (View.effect f)
    × (SameEffect (View.effect f) [] → ⊥)
