use Rattle.std.proofs.Common.{sym, ap, Some}
use Rattle.spi_message.specs.Forms.{is_nonce}
use Rattle.spi_message.specs.Tests.{nonce_in}
use Rattle.spi_message.proofs.FillsTypes.{nonce_ty_of}
use Rattle.spi_message.proofs.Tested.{not_nonce_says}
use Rattle.spi_message.proofs.heads.is_nonce_type.Goals as goal

pub returns-in-Nonce : goal.returns-in-Nonce
returns-in-Nonce c u m = let w = (nonce_ty_of c.in-Nonce.ensures c.requires).at u m in sym (ap (λ t. is_nonce (nonce_in (Some t))) w.1)

pub returns-in_default : goal.returns-in_default
returns-in_default c u m = not_nonce_says (c.ty_part.ensures u m) c.in_default.not-Nonce
