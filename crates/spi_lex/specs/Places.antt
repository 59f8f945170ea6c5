-- Where the tokens of a text with certain numbers stand.
use Rattle.std.specs.Prelude.{◌≡◌, ℕ, ◌*◌, ◌<◌, ◌≤◌, Bool, Option, Some, None, List, [], ◌∷◌, length, drop, slice_get}
use Rattle.std.specs.Str.{IsCharBoundary}
use Rattle.spi_lex.specs.declared.token.Token.{Token}
use Rattle.spi_lex.specs.Left.{left_of, tokens_in}

-- the tokens of a text from number i on are those that stand behind this offset
abbrev pub IsPlace : List ℕ → Bool → ℕ → ℕ → Type 0
IsPlace text later i at = IsCharBoundary text at × (left_of later at (drop at text) ≡ drop i (tokens_in text))

-- and so each eighth token
abbrev pub ArePlaces : List ℕ → Bool → List ℕ → Type 0
ArePlaces text later places = (k at : ℕ) → slice_get places k ≡ Some at → IsPlace text later (8 * k) at

-- a token with a greater number begins further on
abbrev pub AreRising : List Token → Type 0
AreRising ts = (n m : ℕ) (a b : Token) → n < m → slice_get ts n ≡ Some a → slice_get ts m ≡ Some b
    → a.span.from < b.span.from

-- where the first of them begins
abbrev pub start_of : List Token → Option ℕ
start_of [] = None
start_of (token ∷ more) = Some token.span.from

-- no token from number `from` on begins there and has a lower number
abbrev pub IsNotBefore : List Token → ℕ → Option ℕ → ℕ → Type 0
IsNotBefore all from start number =
    (n : ℕ) → from ≤ n → n ≤ length all → start ≡ start_of (drop n all) → number ≤ n
