use Rattle.std.proofs.Common.{◌≡◌, ◌+◌, ◌-◌, ℕ, sym, ap, ◌∙◌, get_or, arith}
use Rattle.std.proofs.lemmas.Bool.{false_from_ne_true}
use Rattle.spi_text.specs.Place.{is_line_end}
use Rattle.spi_text.proofs.Ends.{after_last_is}
use Rattle.spi_text.proofs.place.line_start.Goals as goal

pub returns-in-Some-clause-value : goal.returns-in-Some-clause-value
returns-in-Some-clause-value c =
    let found = c.in-Some.ensures in
    let high = found.0.high in
    let last : c.in-Some.at + 1 - 1 ≡ c.in-Some.at = omega arith in
    sym (after_last_is is_line_end c.args.bytes.now (c.in-Some.at + 1) (omega (arith, high))
    (λ k from within. false_from_ne_true _ (found.0.after k (omega (arith, from)) within))
    (λ some. ap (λ (i : ℕ). is_line_end (get_or c.args.bytes.now i 0)) last ∙ found.1))

pub returns-in-None-clause-value : goal.returns-in-None-clause-value
returns-in-None-clause-value c =
    sym (after_last_is is_line_end c.args.bytes.now 0 (omega arith)
    (λ k from within. false_from_ne_true _ (c.in-None.ensures k (omega arith) within)) (λ some. absurd (omega (arith, some))))
