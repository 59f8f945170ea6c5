use Rattle.std.proofs.Common.{sym, ap}
use Rattle.spi_message.specs.Tests.{is_un}
use Rattle.spi_message.proofs.FillsTypes.{un_of}
use Rattle.spi_message.proofs.Questions.{not_un_says}
use Rattle.spi_message.proofs.heads.is_un_type.Goals as goal

pub returns-in-Un : goal.returns-in-Un
returns-in-Un c u m = sym (ap is_un (un_of c.in-Un.ensures u m))

pub returns-in_default : goal.returns-in_default
returns-in_default c u m = not_un_says (c.ty_part.ensures u m) c.in_default.not-Un
