use Rattle.std.proofs.Common.{◌≡◌, ◌<◌, drop}
use Rattle.spi_commands.specs.Number.{digits}
use Rattle.spi_commands.proofs.WordsDigits.{tens}
use Rattle.spi_commands.proofs.asked.value_of.Given as goal

-- the value of the digits so far
abbrev pub invariant-loop-b : goal.invariant-loop-b
invariant-loop-b l = record {
  value : digits 0 l.text ≡ digits l.n (drop l.b-index l.text);
  small : l.n < tens l.b-index;
}
