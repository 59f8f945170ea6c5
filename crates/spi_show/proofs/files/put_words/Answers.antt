use Rattle.std.proofs.Common.{ap, ◌∙◌, ◌++◌}
use Rattle.std.specs.Prelude.{codes}
use Rattle.spi_show.proofs.Texts.{words_next}
use Rattle.spi_show.proofs.files.put_words.Goals as goal

pub loop-word-preserved : goal.loop-word-preserved
loop-word-preserved c =
    words_next c.args.out.now.items c.loop-word.out.items c.extend_from_slice-in-loop-word.new.self.items c.args.words.now c.loop-word.word-index c.word-item.result c.word-item.is c.loop-word-test.true c.loop-word.invariant (c.in_ok-extend_from_slice-2.ensures.items ∙ ap (λ l. l ++ c.as_bytes.result.now) c.in_ok-extend_from_slice.ensures.items ∙ ap (λ l. (c.loop-word.out.items ++ codes ", ") ++ l) (c.as_bytes.ensures.value ∙ c.as_str.ensures))
