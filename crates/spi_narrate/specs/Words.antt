-- The reserved word at a token.
use Rattle.std.specs.Prelude.{ℕ, List, Option, Some, None}
use Rattle.spi_lex.specs.declared.token.Kind.TheVariants as kinds
use Rattle.spi_lex.specs.declared.token.Reserved.{Reserved}
use Rattle.spi_lex.specs.declared.token.Token.{Token}
use Rattle.spi_heading.specs.Taking.{IsThere}

-- the token of this number is the reserved word, or none
abbrev pub IsReservedAt : Option Reserved → List Token → ℕ → Type 0
IsReservedAt (Some w) ts i = IsThere ts i (kinds.Reserved w)
IsReservedAt None ts i = (w : Reserved) → IsThere ts i (kinds.Reserved w) → ⊥
