use Rattle.std.proofs.Common.{◌≡◌, ℕ, ◌+◌, ◌≤◌, sym, ap, ◌∙◌, arith, inr}
use Rattle.std.specs.Prelude.{Some, None, Err}
use Rattle.spi_tree.specs.declared.tree.SWord.{SWord}
use Rattle.spi_term.specs.Term.{Ty, un}
use Rattle.spi_term.specs.Spelling.{ty_nodes, stopped}
use Rattle.spi_term.specs.View.{ty}
use Rattle.spi_scope.specs.declared.fault.ScopeFault.TheVariants.{UnknownType}
use Rattle.spi_scope.specs.Scope.{Abbreviations, type_of}
use Rattle.spi_scope.specs.Meaning.{known}
use Rattle.spi_scope.specs.Points.{one, uses_type}
use Rattle.spi_scope.specs.Gives.{run}
use Rattle.spi_scope.specs.State.{abbreviations}
use Rattle.spi_scope.proofs.Nesting.{looked_up, unknown_type, known_type}
use Rattle.spi_scope.proofs.Tuples.{Counted}
use Rattle.spi_scope.proofs.types.read_abbreviation.Goals as goal

-- a known abbreviation is counted on, and where it fits this value is its type
known_counted : (ts : Abbreviations) (w : SWord) (c spent n : ℕ) (k v : Ty) → type_of ts w.word ≡ Some k → n ≡ stopped (spent + ty_nodes k) → (n ≤ 1000 → v ≡ k)
    → Counted ty_nodes v n (run (one (uses_type ts w)) c) c spent (known (type_of ts w.word))
known_counted ts w c spent n k v f e h = (
  known_type ts w c k f,
  e ∙ ap (λ o. stopped (spent + ty_nodes (known o))) (sym f),
  λ l. h l ∙ ap known (sym f),
)

pub returns-in_ok-of-in-None : goal.returns-in_ok-of-in-None
returns-in_ok-of-in-None c =
    let s = c.args.scope.now in
    let w : SWord = record { word = c.args.word.now; span = c.args.span } in
    let f = looked_up s.types.entries c.as_str-text.result.now w.word None c.as_str-text.ensures c.in-None.ensures.value in
    inr (unknown_type (abbreviations s.types) w s.count f ∙ ap (λ x. Err (UnknownType w.span x)) (sym c.as_str-text.ensures ∙ sym c.in_ok-of-in-None.ensures))

pub returns-in_ok-copy-in-Some : goal.returns-in_ok-copy-in-Some
returns-in_ok-copy-in-Some c =
    let s = c.args.scope.now in
    known_counted (abbreviations s.types) (record { word = c.args.word.now; span = c.args.span }) s.count c.args.spent c.saturating_add-total.result (ty c.in-Some.abbr.now.ty) _
    (looked_up s.types.entries c.as_str-text.result.now c.args.word.now (Some c.in-Some.abbr.now) c.as_str-text.ensures c.in-Some.ensures.value)
    (omega (arith, c.saturating_add-total.ensures, c.in-Some.abbr.now.counted)) (λ h. c.in_ok-copy-in-Some.ensures)

pub returns-else-total-le1000 : goal.returns-else-total-le1000
returns-else-total-le1000 c =
    let s = c.args.scope.now in
    known_counted (abbreviations s.types) (record { word = c.args.word.now; span = c.args.span }) s.count c.args.spent c.saturating_add-total.result (ty c.in-Some.abbr.now.ty) un
    (looked_up s.types.entries c.as_str-text.result.now c.args.word.now (Some c.in-Some.abbr.now) c.as_str-text.ensures c.in-Some.ensures.value)
    (omega (arith, c.saturating_add-total.ensures, c.in-Some.abbr.now.counted)) (λ h. absurd (omega (arith, c.if-total-le1000.false, h)))
