use Rattle.std.proofs.Common.{◌≡◌, ◌+◌, ◌≤◌, length}
use denote.Text.{Utf8}
use denote.Shadow.{shadow}
use Rattle.spi_lex.specs.Left.{left_of}
use Rattle.spi_lex.proofs.reader.Words.advance_far.Given as goal

abbrev pub invariant-loop-rest : goal.invariant-loop-rest
invariant-loop-rest l =
    shadow (Utf8 l.rest) × (l.at + length l.rest ≤ 16777216)
    × (left_of l.fn.self.later l.fn.from l.fn.text ≡ left_of l.fn.self.later l.at l.rest) × (l.self ≡ l.fn.self)

abbrev pub decreases-loop-rest : goal.decreases-loop-rest
decreases-loop-rest l = length l.rest
