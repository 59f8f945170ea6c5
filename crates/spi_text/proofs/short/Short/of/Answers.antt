use Rattle.std.proofs.Common.{length, ap, ◌∙◌}
use Rattle.std.proofs.lemmas.List.{take_at}
use Rattle.spi_text.proofs.short.Short.of.Goals as goal

pub returns-clause-value : goal.returns-clause-value
returns-clause-value c =
    let whole = c.copy_from_slice.ensures.after ∙ c.as_bytes.ensures.value in
    take_at _ _ _ (ap length whole) ∙ whole
