use Rattle.std.proofs.Common.{◌≡◌, ◌++◌, map, take}
use Rattle.spi_lex.specs.declared.token.Kind.TheVariants as kinds
use Rattle.spi_expected.proofs.candidates.put_reserved.Given as goal

abbrev pub invariant-loop-word : goal.invariant-loop-word
invariant-loop-word l = l.kinds.items ≡ l.initial.kinds.items ++ map kinds.Reserved (take l.word-index l.words)
