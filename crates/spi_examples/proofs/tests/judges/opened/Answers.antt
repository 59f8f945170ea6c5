use Rattle.spi_message.proofs.Judges.{given_in}
use Rattle.spi_examples.proofs.tests.judges.opened.Goals as goal

pub opened-requires-clause-ty : goal.opened-requires-clause-ty
opened-requires-clause-ty c = given_in c.in_ok-t.t.place _ c.in_ok-m.ensures.kept c.in_ok-t.ensures.at
