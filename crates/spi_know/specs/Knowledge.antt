-- What a decision says.
use Rattle.std.specs.Prelude.{◌≡◌, ℕ, List, length}
use Rattle.spi_term.specs.Term.{Message}
use Rattle.spi_run.specs.Knowledge.{Knows}
use Rattle.spi_know.specs.declared.deciding.Knowledge.{Knowledge}
use Rattle.spi_know.specs.declared.deciding.Knowledge.TheVariants.{Known, Unknown}
use Rattle.spi_know.specs.Cert.{Certifies, AllUsed}
use Rattle.spi_know.specs.Numbered.{HasNumber, StartsWith}

abbrev pub Decides : List Message → Message → Knowledge → Type 0
Decides sent m (Known cert) = Knows sent m × Certifies sent cert.lines.items m × AllUsed cert.lines.items
Decides sent m Unknown = Knows sent m → ⊥

-- the same of the message with a number, where the start has the numbers of so many messages sent
abbrev pub DecidesNumber : List Message → List ℕ → ℕ → ℕ → Knowledge → Type 0
DecidesNumber ms start sent target k =
    (from : List Message) (m : Message) → StartsWith ms from start → length from ≡ sent
    → HasNumber ms target m
    → Decides from m k
