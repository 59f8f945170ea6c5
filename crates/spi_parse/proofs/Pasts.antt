-- The state behind the next token.
use Rattle.std.proofs.Common.{◌≡◌, List, ◌∷◌, refl}
use Rattle.spi_parse.specs.Tokens.{Tok, State}
use Rattle.spi_parse.specs.Places.{past}
use Rattle.spi_parse.proofs.Readers.{at}

pub past_is : (s : State) (t : Tok) (ts : List Tok) → s.rest ≡ t ∷ ts → past s ts ≡ at t.span.to ts
past_is s t ts is = rw is refl
