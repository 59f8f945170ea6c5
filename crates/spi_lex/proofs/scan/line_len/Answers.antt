use Rattle.std.proofs.Common.{ℕ, ◌==◌, length, sym, arith}
use Rattle.std.proofs.lemmas.Bool.{false_from_ne_true}
use Rattle.std.proofs.lemmas.List.Sums.{position_or_len_is}
use Rattle.spi_lex.proofs.scan.line_len.Goals as goal

pub returns-in-Some-clause-value : goal.returns-in-Some-clause-value
returns-in-Some-clause-value c =
    let found = c.in-Some.ensures in
    let within = found.0.high in
    sym (position_or_len_is (λ (b : ℕ). b == 10) c.args.bytes.now c.in-Some.at 0 (omega (arith, within))
    (λ k before. false_from_ne_true _ (found.0.before k (omega arith) before)) (λ _. found.1))

pub returns-in-None-clause-value : goal.returns-in-None-clause-value
returns-in-None-clause-value c =
    sym (position_or_len_is (λ (b : ℕ). b == 10) c.args.bytes.now (length c.args.bytes.now) 0 (omega arith)
    (λ k before. false_from_ne_true _ (c.in-None.ensures k (omega arith) before)) (λ more. absurd (omega (arith, more))))
