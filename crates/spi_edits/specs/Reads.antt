-- What reading the tokens of a bench answers.
use Rattle.std.specs.Prelude.{List, [], Result, Ok, Err}
use Rattle.spi_lex.specs.declared.token.Token.{Token}
use Rattle.spi_parse.specs.declared.fault.ParseFault.{ParseFault}
use Rattle.spi_parse.specs.Exact.{Spells}
use Rattle.spi_heading.specs.Each.{FailsWhole}
use Rattle.spi_edits.specs.Edits.{Bench}
use Rattle.spi_edits.specs.Grammar.{whole_bench, IsBench}

-- the tokens are those of this bench, which is formed and within the limits, with their spans
abbrev pub IsBenchSpelled : Bench → List Token → Type 0
IsBenchSpelled b ts = IsBench b × Spells [] 0 (whole_bench b) ts

-- the bench of all the tokens, or the fault
abbrev pub ParsesBench : {V : Type 0} → (V → Bench) → Result V ParseFault → List Token → Type 0
ParsesBench view (Ok b) ts = IsBenchSpelled (view b) ts
ParsesBench view (Err f) ts = FailsWhole whole_bench IsBench f ts
