use Rattle.std.proofs.Common.{refl}
use Rattle.std.proofs.lemmas.Bool.{false≢true}
use Rattle.spi_fault.proofs.Decided.{nonce_there, none_past}
use Rattle.spi_fault.proofs.deciding.is_nonce_at.Goals as goal

pub returns-in-Some : goal.returns-in-Some
returns-in-Some c = nonce_there c.args.env.now c.args.x _ c.is_nonce_type.result c.in-Some.ensures.some c.is_nonce_type.ensures

pub returns-in-None : goal.returns-in-None
returns-in-None c = (λ e. absurd (false≢true e), λ z. absurd (none_past c.args.env.now c.args.x (c.in-None.ensures.none.0 refl) z))
