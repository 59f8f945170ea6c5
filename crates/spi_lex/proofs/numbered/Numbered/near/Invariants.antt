use Rattle.std.proofs.Common.{◌≤◌, ◌-◌, Some, length}
use Rattle.spi_lex.specs.Left.{tokens_in}
use Rattle.spi_lex.specs.Places.{IsNotBefore}
use Rattle.spi_lex.proofs.numbered.Numbered.near.Given as goal

abbrev pub invariant-loop-number : goal.invariant-loop-number
invariant-loop-number l =
    (l.number ≤ length (tokens_in l.fn.self.text.now)) × IsNotBefore (tokens_in l.fn.self.text.now) l.fn.from (Some l.fn.start) l.number

abbrev pub decreases-loop-number : goal.decreases-loop-number
decreases-loop-number l = length (tokens_in l.fn.self.text.now) - l.number
