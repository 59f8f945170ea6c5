-- The text of a schedule.
use Rattle.std.specs.Prelude.{ℕ, List, [], ◌∷◌, ◌++◌, codes}
use Rattle.std.specs.Fmt.{decimal}
use Rattle.spi_run.specs.Reduction.{Step, act, talk}

-- a line for each step
abbrev pub step_text : Step → List ℕ
step_text (act i) = codes "act " ++ (decimal i ++ codes ";\n")
step_text (talk i j) = codes "talk " ++ (decimal i ++ (codes " " ++ (decimal j ++ codes ";\n")))

abbrev pub steps_text : List Step → List ℕ
steps_text [] = []
steps_text (s ∷ ss) = step_text s ++ steps_text ss

abbrev pub schedule_text : List Step → List ℕ
schedule_text ss = codes "schedule\n" ++ steps_text ss
