-- A code of messages, by which a proof tells them apart: that of a type which holds the message.
use Rattle.std.specs.Prelude.{List, [], ◌∷◌, refl}
use Rattle.std.specs.Coded.{Coded, code_by}
use Rattle.spi_term.specs.Term.{Message, unit, ends, Ty, nonce}
use Rattle.spi_term.specs.Codes.{coded_types}

abbrev pub types_held : Message → List Ty
types_held m = nonce (ends m ∷ []) ∷ []

abbrev pub message_held : List Ty → Message
message_held (nonce (ends m ∷ es) ∷ ts) = m
message_held _ = unit

abbrev pub coded_message : Coded Message
coded_message = code_by (List Ty) coded_types types_held message_held (λ m. refl)
