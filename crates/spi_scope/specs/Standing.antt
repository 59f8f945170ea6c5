-- How points stand at tokens.
use Rattle.std.specs.Prelude.{ℕ, ◌<◌, [], ◌∷◌, ⊤}
use Rattle.spi_scope.specs.declared.fault.ScopeFault.{ScopeFault}
use Rattle.spi_scope.specs.declared.fault.ScopeFault.TheVariants.{UnknownName, UnknownType, NameTwice, TypeTwice, MessageTooLarge, TypeTooLarge, FileTooLarge, ScheduleTooLong, NoMemory}
use Rattle.spi_scope.specs.Points.{Point, fault_told}
use Rattle.spi_scope.specs.Scan.{token, point, Scan}

-- the number of a fault. Want of memory has none here
abbrev pub scope_number : ScopeFault → ℕ
scope_number (UnknownName s w) = 30
scope_number (UnknownType s w) = 31
scope_number (NameTwice s w) = 32
scope_number (TypeTwice s w) = 33
scope_number (MessageTooLarge s n) = 34
scope_number (TypeTooLarge s n) = 35
scope_number (FileTooLarge s n) = 36
scope_number (ScheduleTooLong s n) = 37
scope_number NoMemory = 0

-- the number of what could be wrong at a point
abbrev pub number_at : Point → ℕ
number_at p = scope_number (fault_told 0 p)

-- the numbers grow from one token to the next. The point before has the number n, or n is 0 right behind a token
abbrev pub Grow : ℕ → Scan → Type 0
Grow n [] = ⊤
Grow n (token k ∷ s) = Grow 0 s
Grow n (point p ∷ s) = (n < number_at p) × Grow (number_at p) s

-- each point stands behind a token, and those at one token have growing numbers. No number is above 37, so that no point
-- comes before the first token
abbrev pub StandBehind : Scan → Type 0
StandBehind s = Grow 37 s
