use Rattle.std.proofs.Common.{◌≡◌, ◌+◌, ℕ, suc, Some, [], length, drop, ap, sym, ◌∙◌, arith}
use Rattle.spi_lex.specs.Left.{tokens_in}
use Rattle.spi_lex.specs.Reader.{tokens_left, tokens_behind}
use Rattle.spi_lex.proofs.Places.{next_is, nothing_left, first_left, at_the_end, none_there, found_there, not_there}
use Rattle.spi_lex.proofs.numbered.Numbered.number_of.Goals as goal

pub loop-here-init : goal.loop-here-init
loop-here-init c = (c.words_from-here.ensures, c.near-number.ensures.within, c.near-number.ensures.before)

pub returns-in-Nothing : goal.returns-in-Nothing
returns-in-Nothing c =
    rw c.in-Some.is (at_the_end (tokens_in c.args.self.now.text.now) c.args.from (Some c.in-Some.place) c.loop-here.number c.loop-here.invariant.1
    (let here = c.loop-here.here in let none : tokens_left here ≡ [] = nothing_left here.kind _ _ c.in-Nothing.is in sym none ∙ c.loop-here.invariant.0)
    c.loop-here.invariant.2)

pub returns-then-here-place : goal.returns-then-here-place
returns-then-here-place c =
    let here = c.loop-here.here in
    let next = next_is here.kind (record { from = here.from; to = here.to }) (tokens_behind here) c.in_default-kind.not-Nothing in
    rw c.in-Some.is (found_there (tokens_in c.args.self.now.text.now) _ (tokens_behind here) c.args.from (Some c.in-Some.place) c.loop-here.number c.args.self.now.rising (sym next.1 ∙ c.loop-here.invariant.0)
    (sym (ap Some c.if-here-place.true)) c.loop-here.invariant.2)

pub loop-here-preserved : goal.loop-here-preserved
loop-here-preserved c =
    let here = c.loop-here.here in
    let next = next_is here.kind (record { from = here.from; to = here.to }) (tokens_behind here) c.in_default-kind.not-Nothing in
    let first = first_left (tokens_in c.args.self.now.text.now) c.loop-here.number _ (tokens_behind here) (sym next.1 ∙ c.loop-here.invariant.0) in
    let more : suc c.loop-here.number ≡ c.loop-here.number + 1 = omega arith in
    let within = first.2 in (
      c.advance.ensures.left ∙ first.1 ∙ ap (λ (n : ℕ). drop n (tokens_in c.args.self.now.text.now)) more,
      omega arith,
      not_there (tokens_in c.args.self.now.text.now) _ (tokens_behind here) c.args.from (Some c.in-Some.place) c.loop-here.number (sym next.1 ∙ c.loop-here.invariant.0)
          (λ (e : Some c.in-Some.place ≡ Some here.from). c.if-here-place.false cc) c.loop-here.invariant.2,
    )

pub loop-here-smaller : goal.loop-here-smaller
loop-here-smaller c =
    let here = c.loop-here.here in
    let next = next_is here.kind (record { from = here.from; to = here.to }) (tokens_behind here) c.in_default-kind.not-Nothing in
    let len = ap length next.1 in
    let less = ap length c.advance.ensures.left in
    omega arith

pub returns-in_default : goal.returns-in_default
returns-in_default c = λ n le few there. c.args.self.now.counted ∙ none_there (tokens_in c.args.self.now.text.now) n few (sym c.in_default.is ∙ there)
