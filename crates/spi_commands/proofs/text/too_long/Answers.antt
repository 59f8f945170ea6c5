use Rattle.spi_commands.proofs.text.too_long.Goals as goal

pub returns-clause-gives : goal.returns-clause-gives
returns-clause-gives c = c.in_ok-line.ensures
