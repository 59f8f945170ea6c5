use Rattle.spi_examples.proofs.tests.inference.OfProcessesQuestion.answer.Given as goal

abbrev pub ghosts-infer_over : goal.ghosts-infer_over
ghosts-infer_over a = record { name = a.blank.name; parts = a.blank.parts }
