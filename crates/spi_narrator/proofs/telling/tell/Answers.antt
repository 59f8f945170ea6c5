use Rattle.spi_narrator.proofs.telling.tell.Goals as goal

pub answered-requires-clause-channels : goal.answered-requires-clause-channels
answered-requires-clause-channels c = rw c.in-None.is at c.in_ok-cause.ensures
