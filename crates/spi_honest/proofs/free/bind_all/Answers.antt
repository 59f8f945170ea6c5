use Rattle.std.proofs.Common.{take, subst}
use Rattle.spi_scope.specs.Points.{with_free}
use Rattle.spi_honest.specs.Free.{NumbersSpellings}
use Rattle.spi_honest.proofs.Named.{free_next}
use Rattle.spi_honest.proofs.free.bind_all.Goals as goal

pub loop-word-preserved : goal.loop-word-preserved
loop-word-preserved c xs k =
    subst (NumbersSpellings c.bind.new.names) (free_next xs c.args.words.now c.loop-word.word-index c.word-item.result c.loop-word-test.true c.word-item.is)
    (c.in_ok-bind.ensures (with_free xs (take c.loop-word.word-index c.args.words.now)) (c.loop-word.invariant xs k))
