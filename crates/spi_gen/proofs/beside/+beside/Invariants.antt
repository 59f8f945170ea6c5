use Rattle.spi_gen.proofs.beside.+beside.Given as goal

abbrev pub decreases-beside : goal.decreases-beside
decreases-beside l = l.n
