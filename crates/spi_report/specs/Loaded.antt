-- The text of a load.
use Rattle.std.specs.Prelude.{ℕ, List, ◌++◌, codes}
use Rattle.std.specs.Fmt.{decimal}

-- `load K: N nodes, R rules, yes` and a LF
abbrev pub loaded_text : ℕ → ℕ → ℕ → List ℕ
loaded_text k nodes rules =
    codes "load "
    ++ (decimal k
    ++ (codes ": " ++ (decimal nodes ++ (codes " nodes, " ++ (decimal rules ++ codes " rules, yes\n")))))
