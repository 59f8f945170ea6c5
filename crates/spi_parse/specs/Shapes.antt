-- What stands behind the word of a rule.
use Rattle.std.specs.Prelude.{◌≡◌, ℕ, ◌==◌, Bool, true, false, Option, Some, None, if◌then◌else◌}
use Rattle.spi_rules.specs.declared.rule.Rule.{Rule}
use Rattle.spi_rules.specs.declared.rule.Rule.TheVariants.{ProcSub}
use Rattle.spi_parse.specs.declared.derivations.Shape.{Shape}
use Rattle.spi_parse.specs.declared.derivations.Shape.TheVariants.{NoRule, Leaf, One, Two, Three, Sub}

abbrev pub is_sub : Rule → Bool
is_sub ProcSub = true
is_sub _ = false

abbrev pub by_arity : ℕ → Bool → Shape
by_arity n true = Sub
by_arity n false = if n == 0 then Leaf else (if n == 1 then One else (if n == 2 then Two else Three))

abbrev pub is_rule : Shape → Bool
is_rule NoRule = false
is_rule _ = true

abbrev pub IsTreeShape : Shape → Option ℕ → Bool → Type 0
IsTreeShape NoRule a b = a ≡ None
IsTreeShape Leaf a b = (a ≡ Some 0) × (b ≡ false)
IsTreeShape One a b = (a ≡ Some 1) × (b ≡ false)
IsTreeShape Two a b = (a ≡ Some 2) × (b ≡ false)
IsTreeShape Three a b = (a ≡ Some 3) × (b ≡ false)
IsTreeShape Sub a b = (a ≡ Some 1) × (b ≡ true)
