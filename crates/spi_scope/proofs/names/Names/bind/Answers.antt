use Rattle.std.proofs.Common.{◌≡◌, drop, reverse, ap, ◌∙◌, subst, arith}
use Rattle.spi_scope.specs.Table.{Begin, top}
use Rattle.spi_scope.proofs.Tables.{begin_bound}
use Rattle.spi_scope.proofs.names.Names.bind.Goals as goal

pub invariant_of-self-2 : goal.invariant_of-self-2
invariant_of-self-2 c =
    let none : c.self.inside.loose ≡ 0 = omega (arith, c.if-self-gt0.false) in
    let begin = subst (λ n. Begin c.self.inside.trail.chains (drop n (reverse c.self.inside.hidden.items))) none c.self.invariant.1 in
    let more = begin_bound c.self.inside.trail.chains c.extend.new.self.chains c.self.inside.hidden.items c.enter_guessed.new.hidden.items c.args.word.now c.in_ok-chain.chain c.top_chain-outer.result c.enter_guessed.result
    begin (c.top_chain-outer.ensures ∙ ap (λ l. top (reverse l)) c.deref.ensures.value) c.in_ok-chain.ensures.chains c.in_ok-chain.ensures.number c.enter_guessed.ensures.ok c.enter_guessed.ensures.err in
    (c.enter_guessed.ensures.keeps, rw none more, omega (arith, none))
