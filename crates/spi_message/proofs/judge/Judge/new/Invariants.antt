use Rattle.spi_rules.specs.Environment.{untrusted}
use Rattle.spi_message.specs.Judging.{StandFor}
use Rattle.spi_message.proofs.judge.Judge.new.Given as goal

abbrev pub invariant-loop-name : goal.invariant-loop-name
invariant-loop-name l = StandFor l.store l.types.items (untrusted l.name)
