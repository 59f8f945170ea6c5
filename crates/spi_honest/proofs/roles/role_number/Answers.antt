use Rattle.std.proofs.Common.{sym, ◌∙◌}
use Rattle.spi_honest.proofs.Numbers.{role_found, role_not, role_first}
use Rattle.spi_honest.proofs.roles.role_number.Goals as goal

pub returns-then-eq : goal.returns-then-eq
returns-then-eq c = role_found c.args.first.now c.args.more.now c.loop-i.i c.index-more-i.result c.args.word.now.word c.index-more-i.is c.loop-i-test.true (sym c.eq.ensures ∙ c.if-eq.true)

pub loop-i-preserved : goal.loop-i-preserved
loop-i-preserved c = role_not c.args.more.now c.loop-i.i c.index-more-i.result c.args.word.now.word c.index-more-i.is c.loop-i-test.true (sym c.eq.ensures ∙ c.if-eq.false) c.loop-i.invariant

pub returns : goal.returns
returns c = role_first c.args.first.now c.args.more.now c.loop-i.i c.args.word.now.word c.requires c.loop-i-test.false c.loop-i.invariant
