-- Lines of certificates, for lines over numbers.
use Rattle.std.specs.Prelude.{◌≡◌, ℕ, ◌<◌, ◌≤◌, ◌^◌, ◌⊎◌, List, Some, slice_get, length, ⊤}
use Rattle.spi_term.specs.Term.{Message}
use Rattle.spi_horn.specs.declared.tracing.Line.{Line}
use Rattle.spi_horn.specs.declared.tracing.Ground.{Ground}
use Rattle.spi_horn.specs.declared.tracing.Ground.TheVariants.{Start, ByRule}
use Rattle.spi_know.specs.declared.cert.CertLine.{CertLine}
use Rattle.spi_know.specs.declared.cert.By.{By}
use Rattle.spi_know.specs.declared.cert.By.TheVariants as B
use Rattle.spi_know.specs.declared.clauses.Way.{Way}
use Rattle.spi_know.specs.declared.clauses.Way.TheVariants.{MakePair, First, Second, MakeInl, MakeInr, TakeInl, TakeInr, MakeEnc, Open, MakeHash}
use Rattle.spi_know.specs.Cert.{message_said}
use Rattle.spi_know.specs.Numbered.{HasNumber}

-- the clause, with the lines of its premises
abbrev pub named_by : Way → ℕ → ℕ → By
named_by MakePair a b = B.MakePair a b
named_by First a b = B.First a
named_by Second a b = B.Second a
named_by MakeInl a b = B.MakeInl a
named_by MakeInr a b = B.MakeInr a
named_by TakeInl a b = B.TakeInl a
named_by TakeInr a b = B.TakeInr a
named_by MakeEnc a b = B.MakeEnc a b
named_by Open a b = B.Open a b
named_by MakeHash a b = B.MakeHash a

-- the numbers of a ground fit
abbrev pub IsSmallGround : List Way → Ground → Type 0
IsSmallGround ways (Start j) = ⊤
IsSmallGround ways (ByRule k a b) = (k < length ways) × (a < 2 ^ 32) × (b < 2 ^ 32)

-- what a ground says, where n messages were sent
abbrev pub SaysBy : ℕ → List Way → Ground → By → Type 0
SaysBy n ways (Start j) b = ((j < n) × (b ≡ B.Sent j)) ⊎ ((n ≤ j) × (b ≡ B.MakeUnit))
SaysBy n ways (ByRule k i j) b = (w : Way) × (slice_get ways k ≡ Some w) × (b ≡ named_by w i j)

abbrev pub IsCertLineOf : List Message → ℕ → List Way → Line → CertLine → Type 0
IsCertLineOf ms n ways l c = HasNumber ms l.number (message_said c) × SaysBy n ways l.ground c.by

-- the first i lines, in their order
pub record AreLines (ms : List Message) (n : ℕ) (ways : List Way) (lines : List Line) (i : ℕ)
    (cert : List CertLine) : Type 0 where
  pub count : length cert ≡ i
  pub each : (j : ℕ) (l : Line) (c : CertLine) → slice_get lines j ≡ Some l → slice_get cert j ≡ Some c
      → IsCertLineOf ms n ways l c

-- each line can be spelled
abbrev pub CanBeSpelled : ℕ → List Way → List Line → Type 0
CanBeSpelled n ways lines = (i : ℕ) (l : Line) → slice_get lines i ≡ Some l
    → (l.number < n) × IsSmallGround ways l.ground
