-- What reading the tokens of a narration answers.
use Rattle.std.specs.Prelude.{◌≡◌, ◌⊎◌, List, [], Result, Ok, Err, ⊤}
use Rattle.spi_lex.specs.Lexing.{kinds_of}
use Rattle.spi_lex.specs.declared.token.Token.{Token}
use Rattle.spi_parse.specs.declared.fault.ParseFault.{ParseFault}
use Rattle.spi_parse.specs.Exact.{Spells, IsSyntaxAt, IsDeepAt}
use Rattle.spi_heading.specs.Each.{FailsWhole}
use Rattle.spi_narrate.specs.Narrations as n
use Rattle.spi_narrate.specs.Grammar.{whole_narration, IsNarration}
use Rattle.spi_narrate.specs.declared.fault.NarrateFault.{NarrateFault}
use Rattle.spi_narrate.specs.declared.fault.NarrateFault.TheVariants as faults
use Rattle.spi_narrate.specs.Faults.{FaultItem, items_of, IsFirstFault, IsFaultless}

-- the tokens are those of this narration, which is formed and within the limits, with their spans
abbrev pub IsNarrationSpelled : n.Narration → List Token → Type 0
IsNarrationSpelled x ts = IsNarration x × Spells [] 0 (whole_narration x) ts

-- the narration of all the tokens, or the fault
abbrev pub ParsesNarration : {V : Type 0} → (V → n.Narration) → Result V ParseFault → List Token → Type 0
ParsesNarration view (Ok x) ts = IsNarrationSpelled (view x) ts
ParsesNarration view (Err f) ts = FailsWhole whole_narration IsNarration f ts

-- the tokens are those of a narration whose first fault is this
abbrev pub HasFirstFault : NarrateFault → List Token → Type 0
HasFirstFault f ts = (x : n.Narration) × IsNarrationSpelled x ts × IsFirstFault (items_of x) f

-- why the tokens are those of no faultless narration
abbrev pub FailsNarration : NarrateFault → List Token → Type 0
FailsNarration (faults.Syntax token) ts = IsSyntaxAt whole_narration IsNarration (kinds_of ts) token
FailsNarration (faults.TooDeep token) ts = IsDeepAt whole_narration IsNarration (kinds_of ts) token
FailsNarration (faults.UnknownRole s w) ts = HasFirstFault (faults.UnknownRole s w) ts
FailsNarration (faults.RoleTwice s w) ts = HasFirstFault (faults.RoleTwice s w) ts
FailsNarration (faults.NarrationTooLarge s count) ts = HasFirstFault (faults.NarrationTooLarge s count) ts
FailsNarration faults.NoMemory ts = ⊤

-- the faultless narration of all the tokens, or the fault
abbrev pub ReadsNarration : {V : Type 0} → (V → n.Narration) → Result V NarrateFault → List Token → Type 0
ReadsNarration view (Ok x) ts = IsNarrationSpelled (view x) ts × IsFaultless (items_of (view x))
ReadsNarration view (Err f) ts = FailsNarration f ts

-- the items are faultless, or this is their first fault, or memory ran out
abbrev pub IsTested : {V : Type 0} → Result V NarrateFault → List FaultItem → Type 0
IsTested (Ok u) items = IsFaultless items
IsTested (Err f) items = (f ≡ faults.NoMemory) ⊎ IsFirstFault items f
