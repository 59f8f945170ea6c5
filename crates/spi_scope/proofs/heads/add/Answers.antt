use Rattle.std.proofs.Common.{inr}
use Rattle.spi_scope.proofs.Sizes.{small_file, large_file}
use Rattle.spi_scope.proofs.heads.add.Goals as goal

pub returns-then-count-gt100000-clause-gives : goal.returns-then-count-gt100000-clause-gives
returns-then-count-gt100000-clause-gives c = inr (large_file c.args.scope.now.count c.args.nodes c.args.span c.if-count-gt100000.true)

pub returns-clause-gives : goal.returns-clause-gives
returns-clause-gives c = small_file c.args.scope.now.count c.args.nodes c.args.span c.if-count-gt100000.false
