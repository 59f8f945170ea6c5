use Rattle.std.proofs.Common.{◌≡◌, ◌++◌, drop}
use Rattle.spi_commands.specs.Benching.{verdicts_text}
use Rattle.spi_commands.proofs.bench.verdict_lines.Given as goal

-- what is written, and the lines to come
abbrev pub invariant-loop-k : goal.invariant-loop-k
invariant-loop-k l = record { whole : l.out.items ++ verdicts_text l.k (drop l.k l.verdicts) ≡ verdicts_text 0 l.verdicts }
