use Rattle.spi_origin.proofs.finding.origins.Given as goal

abbrev pub ghosts-noted_over : goal.ghosts-noted_over
ghosts-noted_over a = record { name = a.blank.name; parts = a.blank.parts }
