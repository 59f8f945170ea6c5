use Rattle.std.proofs.Common.{ap, ◌∙◌}
use Rattle.spi_scope.specs.Spelling.{front_of}
use Rattle.spi_scope.proofs.Spellings.{made_of_fours}
use Rattle.spi_scope.proofs.spelling.front.Goals as goal

pub returns-in_default-clause-number : goal.returns-in_default-clause-number
returns-in_default-clause-number c =
    rw (c.four.ensures.number, c.four-in_default.ensures.number)
    (made_of_fours c.as_bytes.result.now c.in_default.len_at_least ∙ ap front_of c.as_bytes.ensures.value)
