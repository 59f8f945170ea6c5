use Rattle.std.proofs.Common.{◌≡◌, ℕ, List, Some, drop, ◌≤◌, ◌-◌, ◌+◌, length, ap, sym, subst, ◌∙◌, arith}
use Rattle.std.proofs.lemmas.Bool.{eqb-true}
use Rattle.spi_lex.specs.declared.scan.Shape.{Shape}
use Rattle.spi_lex.specs.declared.scan.Shape.TheVariants as shapes
use Rattle.spi_lex.specs.declared.token.Token.{Token}
use Rattle.spi_lex.specs.declared.token.Kind.TheVariants as kinds
use Rattle.spi_lex.specs.Front.{IsFront}
use Rattle.spi_lex.specs.Left.{left_of}
use Rattle.spi_lex.specs.declared.reader.Words.{Words}
use Rattle.spi_lex.specs.Reader.{tokens_from, tokens_left}
use Rattle.spi_lex.proofs.Left.{left_none, left_empty, left_mark, behind_gap}
use Rattle.spi_lex.proofs.reader.Words.advance_far.Goals as goal

pub returns-in_default-clause-left : goal.returns-in_default-clause-left
returns-in_default-clause-left c =
    let so_far = c.loop-rest.invariant in
    sym (so_far.2 ∙ left_none c.args.self.now.later c.loop-rest.at c.loop-rest.rest.now so_far.0 c.in_default.ensures.none)

pub returns-clause-left : goal.returns-clause-left
returns-clause-left c =
    sym (c.loop-rest.invariant.2 ∙ left_empty c.args.self.now.later c.loop-rest.at c.loop-rest.rest.now (eqb-true _ 0 (sym c.loop-rest-test.ensures)))

pub returns-in-Sign-clause-left : goal.returns-in-Sign-clause-left
returns-in-Sign-clause-left c =
    let so_far = c.loop-rest.invariant in
    let front : IsFront c.loop-rest.rest.now (shapes.Sign c.in-Sign.mark) c.in-Some.len =
    subst (λ (s : Shape). IsFront c.loop-rest.rest.now s c.in-Some.len) c.in-Sign.is c.in-Some.ensures.found in
    let to : ℕ = c.loop-rest.at + c.in-Some.len in
    let taken : List Token = tokens_from (Some (kinds.Mark c.in-Sign.mark)) (record { from = c.loop-rest.at; to = to }) (left_of c.loop-rest.self.later to (drop c.in-Some.len c.loop-rest.rest.now)) in
    let here : tokens_left c.take.new.self ≡ left_of c.loop-rest.self.later c.loop-rest.at c.loop-rest.rest.now = ◌∙◌ {b = taken} c.take.ensures.left
    (sym (left_mark c.loop-rest.self.later c.loop-rest.at c.loop-rest.rest.now c.in-Sign.mark c.in-Some.len so_far.0 front)) in
    here ∙ ap (λ (words : Words). left_of words.later c.loop-rest.at c.loop-rest.rest.now) so_far.3 ∙ sym so_far.2

pub loop-rest-preserved : goal.loop-rest-preserved
loop-rest-preserved c =
    let so_far = c.loop-rest.invariant in
    let front : IsFront c.loop-rest.rest.now shapes.Gap c.in-Some.len =
    subst (λ (s : Shape). IsFront c.loop-rest.rest.now s c.in-Some.len) c.in-Gap.is c.in-Some.ensures.found in
    let past = behind_gap c.args.self.now.later c.loop-rest.at c.loop-rest.rest.now c.split_at.result.1.now c.after_blanks-next.result.now c.in-Some.len
    so_far.0 front c.split_at.ensures.back c.after_blanks-next.ensures in
    let less = past.1 in
    let within : c.loop-rest.at + (length c.loop-rest.rest.now - length c.after_blanks-next.result.now) + length c.after_blanks-next.result.now ≤ 16777216 = omega (arith, so_far.1, less) in
    (c.after_blanks-next.utf8, within, so_far.2 ∙ past.0, so_far.3)
