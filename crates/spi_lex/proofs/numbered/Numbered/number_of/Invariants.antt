use Rattle.std.proofs.Common.{◌≡◌, ◌≤◌, Some, length, drop}
use Rattle.spi_lex.specs.Left.{tokens_in}
use Rattle.spi_lex.specs.Reader.{tokens_left}
use Rattle.spi_lex.specs.Places.{IsNotBefore}
use Rattle.spi_lex.proofs.numbered.Numbered.number_of.Given as goal

abbrev pub invariant-loop-here : goal.invariant-loop-here
invariant-loop-here l =
    (tokens_left l.here ≡ drop l.number (tokens_in l.fn.self.text.now))
    × (l.number ≤ length (tokens_in l.fn.self.text.now))
    × IsNotBefore (tokens_in l.fn.self.text.now) l.fn.from (Some l.place) l.number

abbrev pub decreases-loop-here : goal.decreases-loop-here
decreases-loop-here l = length (tokens_left l.here)
