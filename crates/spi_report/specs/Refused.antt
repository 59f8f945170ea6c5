-- The text of a refusal.
use Rattle.std.specs.Prelude.{ℕ, List, [], ◌∷◌, ◌++◌, Option, Some, None, unwrap_or, codes}
use Rattle.std.specs.Fmt.{decimal}
use Rattle.spi_text.specs.Place.{place_of}
use Rattle.spi_report.specs.declared.refusal.Refusal.{Refusal}
use Rattle.spi_report.specs.Names.{name_of}

-- the number and the name
abbrev pub refused_head : ℕ → List ℕ → List ℕ
refused_head number name = codes "refused: " ++ decimal number ++ codes " " ++ name

-- where it stands in the file, by line and column
abbrev pub place_text : List ℕ → Option ℕ → List ℕ
place_text bytes None = []
place_text bytes (Some offset) =
    let place = place_of bytes offset in
    codes " at " ++ decimal place.line ++ codes ":" ++ decimal place.column

-- what it shows, if anything
abbrev pub shown_text : List ℕ → List ℕ
shown_text [] = []
shown_text (b ∷ bs) = codes ": " ++ (b ∷ bs)

-- `refused: N Name at L:C: shown` and a LF
abbrev pub refused_text : List ℕ → Refusal → List ℕ
refused_text bytes r =
    refused_head r.number (unwrap_or (name_of r.number) []) ++ place_text bytes r.offset
    ++ shown_text r.shown.items ++ codes "\n"
