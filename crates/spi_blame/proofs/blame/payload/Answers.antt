use Rattle.std.proofs.Common.{ap, sym, refl}
use Rattle.spi_term.specs.View.{message, ty}
use Rattle.spi_blame.proofs.Telling.{some_payload, no_payload, keyed_beyond, no_key_at}
use Rattle.spi_blame.proofs.blame.payload.Goals as goal

pub returns-in-Some-clause-some : goal.returns-in-Some-clause-some
returns-in-Some-clause-some c = some_payload (λ t. ty t.now) c.payload_of.result _ _ _ _ (ap message c.in-Name.is) c.in-Some.ensures.some c.payload_of.ensures.some

pub returns-in-Some-clause-none : goal.returns-in-Some-clause-none
returns-in-Some-clause-none c = no_payload c.payload_of.result _ _ _ _ (ap message c.in-Name.is) c.in-Some.ensures.some c.payload_of.ensures.none

pub returns-in-None-clause-none : goal.returns-in-None-clause-none
returns-in-None-clause-none c = no_key_at (sym (ap message c.in-Name.is)) (keyed_beyond (c.in-None.ensures.none.0 refl))
