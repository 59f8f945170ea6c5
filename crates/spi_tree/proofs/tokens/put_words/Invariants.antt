use Rattle.std.proofs.Common.{◌≡◌, ◌++◌, take}
use Rattle.spi_tree.specs.Listed.{joined, more_word_list}
use Rattle.spi_tree.proofs.tokens.put_words.Given as goal

abbrev pub invariant-loop-word : goal.invariant-loop-word
invariant-loop-word l = l.out.items ≡ l.fn.out.items ++ joined more_word_list (take l.word-index l.words)
