use Rattle.spi_message.proofs.Judges.{given_in}
use Rattle.spi_examples.proofs.tests.judges.is_typed.Goals as goal

pub has_type-requires-clause-ty : goal.has_type-requires-clause-ty
has_type-requires-clause-ty c = given_in c.in_ok-t.t.place _ c.in_ok-m.ensures.kept c.in_ok-t.ensures.at
