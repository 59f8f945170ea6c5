use Rattle.std.proofs.Common.{◌≡◌, take}
use Rattle.spi_lex.specs.Lexing.{kinds_of}
use Rattle.spi_expected.specs.Expected.{candidates, AreThose, GoesOn}
use Rattle.spi_expected.proofs.fronts.expected.Given as goal

abbrev pub invariant-loop-kind : goal.invariant-loop-kind
invariant-loop-kind l = record {
  front : kinds_of l.front.items ≡ take l.at (kinds_of l.tokens);
  those : AreThose (GoesOn (take l.at (kinds_of l.tokens))) (take l.kind-index candidates) l.those.items;
}
