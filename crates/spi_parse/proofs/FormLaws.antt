-- A process is read by the form of its first token.
use Rattle.std.proofs.Common.{◌≡◌, ℕ, Bool, List, ◌∷◌, refl}
use Rattle.spi_parse.specs.Tokens.{Tok}
use Rattle.spi_parse.specs.Table.{seq}
use Rattle.spi_parse.specs.Reading.{limited, read, reads_step}
use Rattle.spi_parse.specs.Forms.{form_of}
use Rattle.spi_parse.specs.FormMoves.{by_form}
use Rattle.spi_parse.proofs.Readers.{at}

pub form_is_first : (v : Bool) (n e : ℕ) (l us : List Tok) (u : Tok) → l ≡ u ∷ us → by_form v n (form_of v u.kind) (at e l) ≡ reads_step limited (read limited) (seq v n) (at e l)
form_is_first v n e l us u k = rw k refl
