use Rattle.std.proofs.Common.{◌≡◌, take}
use Rattle.spi_lex.specs.Lexing.{kinds_of}
use Rattle.spi_expected.proofs.fronts.copied.Given as goal

abbrev pub invariant-loop-token : goal.invariant-loop-token
invariant-loop-token l = kinds_of l.copies.items ≡ kinds_of (take l.token-index l.tokens)
