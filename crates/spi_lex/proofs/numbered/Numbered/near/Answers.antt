use Rattle.std.proofs.Common.{sym, ◌∙◌, arith}
use Rattle.spi_lex.specs.Left.{tokens_in}
use Rattle.spi_lex.specs.Reader.{tokens_behind}
use Rattle.spi_lex.proofs.Places.{next_is, first_left, not_before}
use Rattle.spi_lex.proofs.numbered.Numbered.near.Goals as goal

pub loop-number-init : goal.loop-number-init
loop-number-init c = (c.requires, λ n le few there. le)

pub loop-number-preserved : goal.loop-number-preserved
loop-number-preserved c =
    let words = c.words_from-words.result in
    let all = tokens_in c.args.self.now.text.now in
    let next = next_is words.kind (record { from = words.from; to = words.to }) (tokens_behind words) c.in_default.not-Nothing in
    let is = sym next.1 ∙ c.words_from-words.ensures in
    let first = first_left all _ _ (tokens_behind words) is in
    let within = first.2 in
    (omega arith, not_before all _ (tokens_behind words) c.args.from c.args.start _ c.args.self.now.rising is (omega (arith, c.if-words-start.false)))
