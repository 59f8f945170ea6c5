use Rattle.std.proofs.Common.{sym, ap}
use Rattle.spi_message.specs.Tests.{is_unit}
use Rattle.spi_message.proofs.FillsTypes.{un_of, unit_ty_of}
use Rattle.spi_message.proofs.Questions.{not_unit_says}
use Rattle.spi_message.proofs.heads.is_unit_type.Goals as goal

pub returns-in-Un : goal.returns-in-Un
returns-in-Un c u m = sym (ap is_unit (un_of c.in-Un.ensures u m))

pub returns-in-Unit : goal.returns-in-Unit
returns-in-Unit c u m = sym (ap is_unit (unit_ty_of c.in-Unit.ensures u m))

pub returns-in_default : goal.returns-in_default
returns-in_default c u m = not_unit_says (c.ty_part.ensures u m) c.in_default.not-Un c.in_default.not-Unit
