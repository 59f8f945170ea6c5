use Rattle.spi_infer.proofs.inferring.effect_at.Given as goal

abbrev pub ghosts-effect_over : goal.ghosts-effect_over
ghosts-effect_over a = record { name = a.blank.name; parts = a.blank.parts }
