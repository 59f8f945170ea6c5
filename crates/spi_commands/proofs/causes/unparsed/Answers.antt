use Rattle.spi_commands.proofs.causes.unparsed.Goals as goal

pub returns : goal.returns
returns c = rw c.start.ensures at c.unspelled.ensures
