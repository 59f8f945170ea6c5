-- What bytes give: the tree of their tokens, or the fault and where it stands.
use Rattle.std.specs.Prelude.{◌≡◌, ℕ, List, [], ◌∷◌, length, drop, Result, Ok, Err, ⊤}
use Rattle.spi_lex.specs.declared.token.Token.{Token}
use Rattle.spi_lex.specs.Lexing.{Lexes, kinds_of}
use Rattle.spi_tree.specs.Trees as t
use Rattle.spi_parse.specs.declared.fault.ByteFault.{ByteFault}
use Rattle.spi_parse.specs.declared.fault.ByteFault.TheVariants as faults
use Rattle.spi_parse.specs.Formed.{IsFile, whole_file}
use Rattle.spi_parse.specs.Exact.{Spells, IsSyntaxAt, IsDeepAt}

-- where a token begins, and at the end of the tokens the end of the bytes
abbrev pub start_of_fault : List ℕ → List Token → ℕ
start_of_fault bytes [] = length bytes
start_of_fault bytes (token ∷ rest) = token.span.from

-- The tokens of the bytes spell the tree, or the bytes have no tokens, for this fault, or theirs are those of no file, from
-- the token that begins at this place on.
abbrev pub ParsesBytes : {V : Type 0} → (V → t.File) → Result V ByteFault → List ℕ → Type 0
ParsesBytes view (Ok tree) bytes =
    (tokens : List Token) × Lexes bytes (Ok tokens) × IsFile (view tree)
    × Spells [] 0 (whole_file (view tree)) tokens
ParsesBytes view (Err (faults.Lexical fault)) bytes = Lexes bytes (Err fault)
ParsesBytes view (Err (faults.Syntax at)) bytes = (tokens : List Token) × (i : ℕ) × Lexes bytes (Ok tokens)
    × IsSyntaxAt whole_file IsFile (kinds_of tokens) i × (at ≡ start_of_fault bytes (drop i tokens))
ParsesBytes view (Err (faults.TooDeep at)) bytes = (tokens : List Token) × (i : ℕ) × Lexes bytes (Ok tokens)
    × IsDeepAt whole_file IsFile (kinds_of tokens) i × (at ≡ start_of_fault bytes (drop i tokens))
ParsesBytes view (Err faults.NoMemory) bytes = ⊤
