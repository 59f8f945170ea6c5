use Rattle.std.proofs.Common.{◌≡◌, ◌<◌, ◌+◌, ◌-◌, List, ℕ, length, get_or, ap, sym, ◌∙◌, arith}
use Rattle.std.proofs.lemmas.Bool.{eqb-true, eqb-false}
use Rattle.spi_lex.specs.declared.scan.Class.TheVariants as classes
use Rattle.spi_lex.specs.Front.{class_of}
use Rattle.spi_lex.proofs.Fronts.{sign_front}
use Rattle.spi_lex.proofs.Left.{left_empty, left_mark, before_blanks}
use Rattle.spi_lex.proofs.reader.Words.advance.Goals as goal

pub returns-then-is_empty-clause-left : goal.returns-then-is_empty-clause-left
returns-then-is_empty-clause-left c =
    let words = c.args.self.now in
    let rest = c.after_blanks-rest.result.now in
    sym (before_blanks words.later words.at words.rest.now rest c.after_blanks-rest.utf8 c.after_blanks-rest.ensures
    ∙ left_empty words.later (words.at + (length words.rest.now - length rest)) rest (eqb-true _ 0 (sym c.if-is_empty.ensures)))

pub take-requires-clause-cut : goal.take-requires-clause-cut
take-requires-clause-cut c =
    let rest = c.after_blanks-rest.result.now in
    let some : 0 < length rest = omega (arith, eqb-false _ 0 (sym c.if-is_empty.ensures)) in
    let class : class_of (get_or rest 0 0) ≡ classes.Sign c.in-Some.mark = sym (ap (λ (bs : List ℕ). class_of (get_or bs 0 0)) c.as_bytes.ensures.value) ∙ c.in-Some.ensures in
    (sign_front rest c.in-Some.mark c.after_blanks-rest.utf8 some class).cut

pub returns-in-Some-clause-left : goal.returns-in-Some-clause-left
returns-in-Some-clause-left c =
    let words = c.args.self.now in
    let rest = c.after_blanks-rest.result.now in
    let some : 0 < length rest = omega (arith, eqb-false _ 0 (sym c.if-is_empty.ensures)) in
    let class : class_of (get_or rest 0 0) ≡ classes.Sign c.in-Some.mark = sym (ap (λ (bs : List ℕ). class_of (get_or bs 0 0)) c.as_bytes.ensures.value) ∙ c.in-Some.ensures in
    c.take.ensures.left
    ∙ sym (left_mark words.later (words.at + (length words.rest.now - length rest)) rest c.in-Some.mark 1 c.after_blanks-rest.utf8
    (sign_front rest c.in-Some.mark c.after_blanks-rest.utf8 some class))
    ∙ sym (before_blanks words.later words.at words.rest.now rest c.after_blanks-rest.utf8 c.after_blanks-rest.ensures)

pub returns-in-None-clause-left : goal.returns-in-None-clause-left
returns-in-None-clause-left c =
    let words = c.args.self.now in
    c.advance_far.ensures.left
    ∙ sym (before_blanks words.later words.at words.rest.now c.after_blanks-rest.result.now c.after_blanks-rest.utf8 c.after_blanks-rest.ensures)
