use Rattle.std.proofs.Common.{refl, sym, ◌∙◌}
use Rattle.spi_narrate.proofs.Testing.{among_in, among_more}
use Rattle.spi_narrate.proofs.faultless.is_among.Goals as goal

pub returns-then-eq : goal.returns-then-eq
returns-then-eq c = (
  λ _. among_in c.args.words.now c.loop-each.each-index c.each-item.result c.args.word.now c.each-item.is c.loop-each-test.true (sym c.eq.ensures ∙ c.if-eq.true),
  λ _. refl,
)

pub loop-each-preserved : goal.loop-each-preserved
loop-each-preserved c = among_more c.args.words.now c.loop-each.each-index c.each-item.result c.args.word.now c.each-item.is c.loop-each-test.true (sym c.eq.ensures ∙ c.if-eq.false) c.loop-each.invariant
