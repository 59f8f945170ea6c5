-- The text of a certificate of knowledge.
use Rattle.std.specs.Prelude.{ℕ, suc, List, [], ◌∷◌, ◌++◌, codes}
use Rattle.std.specs.Fmt.{decimal}
use Rattle.spi_show.specs.Report.{message_text}
use Rattle.spi_know.specs.declared.cert.CertLine.{CertLine}
use Rattle.spi_know.specs.declared.cert.By.{By}
use Rattle.spi_know.specs.declared.cert.By.TheVariants.{Sent, MakeUnit, MakePair, First, Second, MakeInl, MakeInr, TakeInl, TakeInr, MakeEnc, Open, MakeHash}
use Rattle.spi_know.specs.Cert.{message_said}

-- a word with the lines that it names, which are counted from 1
abbrev pub of_one : List ℕ → ℕ → List ℕ
of_one word i = word ++ (codes " " ++ decimal (suc i))

abbrev pub of_two : List ℕ → ℕ → ℕ → List ℕ
of_two word i j = word ++ (codes " " ++ (decimal (suc i) ++ (codes " " ++ decimal (suc j))))

-- the clause by which a message is known; what was sent is counted from 0
abbrev pub by_text : By → List ℕ
by_text (Sent i) = codes "Sent " ++ decimal i
by_text MakeUnit = codes "MakeUnit"
by_text (MakePair i j) = of_two (codes "MakePair") i j
by_text (First i) = of_one (codes "First") i
by_text (Second i) = of_one (codes "Second") i
by_text (MakeInl i) = of_one (codes "MakeInl") i
by_text (MakeInr i) = of_one (codes "MakeInr") i
by_text (TakeInl i) = of_one (codes "TakeInl") i
by_text (TakeInr i) = of_one (codes "TakeInr") i
by_text (MakeEnc i j) = of_two (codes "MakeEnc") i j
by_text (Open i j) = of_two (codes "Open") i j
by_text (MakeHash i) = of_one (codes "MakeHash") i

-- line number k, counted from 0
abbrev pub certificate_line : List (List ℕ) → ℕ → CertLine → List ℕ
certificate_line names k line =
    decimal (suc k)
    ++ (codes " " ++ (message_text names (message_said line) ++ (codes " by " ++ (by_text line.by ++ codes "\n"))))

-- a line for each, from number k on
abbrev pub certificate_lines : List (List ℕ) → ℕ → List CertLine → List ℕ
certificate_lines names k [] = []
certificate_lines names k (line ∷ lines) =
    certificate_line names k line ++ certificate_lines names (suc k) lines

-- the text of a name that is known, and its certificate; and that of one that isn't
abbrev pub known_text : List (List ℕ) → ℕ → List CertLine → List ℕ
known_text names i lines = codes "known: #" ++ (decimal i ++ (codes "\n" ++ certificate_lines names 0 lines))

abbrev pub unknown_text : ℕ → List ℕ
unknown_text i = codes "unknown: #" ++ (decimal i ++ codes "\n")
