use Rattle.std.proofs.Common.{◌≡◌, true, length, drop}
use Rattle.std.specs.List.{prefix_len}
use Rattle.spi_lex.specs.Front.{is_plain}
use Rattle.spi_lex.proofs.scan.are_plain.Given as goal

abbrev pub invariant-loop-b : goal.invariant-loop-b
invariant-loop-b l = prefix_len is_plain (drop l.b-index l.bytes) ≡ length (drop l.b-index l.bytes) → l.all ≡ true
    → prefix_len is_plain l.bytes ≡ length l.bytes
