use Rattle.std.proofs.Common.{arith, ◌<◌, length}
use Rattle.std.proofs.lemmas.Grind.{common_steps}
use Rattle.spi_tree.specs.Listed.{more_word_list}
use Rattle.spi_tree.proofs.Joined.{joined_plain}
use Rattle.spi_tree.proofs.tokens.put_words.Goals as goal

pub loop-word-preserved : goal.loop-word-preserved
loop-word-preserved c =
    let lt : c.loop-word.word-index < length c.args.words.now = omega arith in
    grind (arith, common_steps, joined_plain more_word_list c.args.words.now c.loop-word.word-index c.word-item.result lt)
