use Rattle.std.proofs.Common.{refl}
use Rattle.spi_message.proofs.Plains.{told_good}
use Rattle.spi_message.proofs.telling.is_told_good.Goals as goal

pub returns : goal.returns
returns c h = told_good refl (c.is_plain_type.ensures h)
