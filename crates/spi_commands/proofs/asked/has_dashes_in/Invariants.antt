use Rattle.std.proofs.Common.{◌≡◌, map, drop}
use Rattle.std.specs.Prelude.{string_bytes}
use Rattle.spi_commands.specs.Options.{has_dashes}
use Rattle.spi_commands.proofs.asked.has_dashes_in.Given as goal

-- the words so far aren't `--`
abbrev pub invariant-loop-word : goal.invariant-loop-word
invariant-loop-word l = record {
  none : has_dashes (map string_bytes l.words) ≡ has_dashes (map string_bytes (drop l.word-index l.words));
}
