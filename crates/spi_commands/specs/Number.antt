-- Numbers of the command line: one to nine digits.
use Rattle.std.specs.Prelude.{ℕ, ◌+◌, ◌*◌, ◌-◌, ◌&&◌, not, nat_lt, if◌then◌else◌, List, [], ◌∷◌, length, Option, Some, None}

-- the value of further digits behind those of n
abbrev pub digits : ℕ → List ℕ → Option ℕ
digits n [] = Some n
digits n (b ∷ bs) = if not (nat_lt b 48) && nat_lt b 58 then digits (n * 10 + (b - 48)) bs else None

abbrev pub number : List ℕ → Option ℕ
number [] = None
number (b ∷ bs) = if nat_lt (length bs) 9 then digits 0 (b ∷ bs) else None

-- a number below this one
abbrev pub below_limit : ℕ → Option ℕ → Option ℕ
below_limit most None = None
below_limit most (Some n) = if nat_lt n most then Some n else None

abbrev pub number_below : ℕ → List ℕ → Option ℕ
number_below most bs = below_limit most (number bs)
