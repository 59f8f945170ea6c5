-- The text of a wrong step.
use Rattle.std.specs.Prelude.{ℕ, List, ◌++◌, Some, codes}
use Rattle.std.specs.Fmt.{decimal}
use Rattle.spi_text.specs.declared.lines.Span.{Span}
use Rattle.spi_report.specs.Refused.{place_text}

-- `no: 90 WrongStep at L:C: I` and a LF, where rule use number I stands at this place
abbrev pub wrong_text : List ℕ → Span → ℕ → List ℕ
wrong_text bytes place index =
    codes "no: 90 WrongStep" ++ place_text bytes (Some place.from) ++ codes ": " ++ decimal index
    ++ codes "\n"
