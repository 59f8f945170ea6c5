use Rattle.std.proofs.Common.{◌≡◌, ◌++◌, take}
use Rattle.spi_show.specs.Files.{words_text}
use Rattle.spi_show.proofs.files.put_words.Given as goal

abbrev pub invariant-loop-word : goal.invariant-loop-word
invariant-loop-word l = l.out.items ≡ l.initial.out.items ++ words_text (take l.word-index l.words)
