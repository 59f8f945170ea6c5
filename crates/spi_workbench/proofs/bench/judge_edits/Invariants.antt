use Rattle.spi_workbench.proofs.bench.judge_edits.Given as goal

abbrev pub ghosts-judge_edits_over : goal.ghosts-judge_edits_over
ghosts-judge_edits_over a = record { name = a.blank.name; parts = a.blank.parts }
