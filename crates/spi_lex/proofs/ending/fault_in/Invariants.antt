use Rattle.std.proofs.Common.{List, length}
use denote.Text.{Utf8}
use denote.Shadow.{shadow}
use Rattle.spi_lex.specs.declared.token.Token.{Token}
use Rattle.spi_lex.proofs.Reached.{Reached}
use Rattle.spi_lex.proofs.ending.fault_in.Given as goal

abbrev pub invariant-loop-rest : goal.invariant-loop-rest
invariant-loop-rest l = shadow (Utf8 l.rest) × (tokens : List Token) × Reached l.fn.text tokens l.rest

abbrev pub decreases-loop-rest : goal.decreases-loop-rest
decreases-loop-rest l = length l.rest
