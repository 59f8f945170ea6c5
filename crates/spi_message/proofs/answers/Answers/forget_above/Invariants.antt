use Rattle.std.proofs.Common.{◌≡◌, ◌++◌, length}
use Rattle.spi_message.specs.Answered.{Entries}
use Rattle.spi_message.proofs.answers.Answers.forget_above.Given as goal

abbrev pub invariant-loop-self : goal.invariant-loop-self
invariant-loop-self l = (gone : Entries) × (l.fn.self.given.entries ≡ l.self.given.entries ++ gone)

abbrev pub decreases-loop-self : goal.decreases-loop-self
decreases-loop-self l = length l.self.given.entries
