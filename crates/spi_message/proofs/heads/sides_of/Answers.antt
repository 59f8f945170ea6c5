use Rattle.spi_message.proofs.FillsTypes.{un_of, sum_ty_of}
use Rattle.spi_message.proofs.Questions.{un_sides, sum_sides, no_sides}
use Rattle.spi_message.proofs.heads.sides_of.Goals as goal

pub returns-in-Un-clause-some : goal.returns-in-Un-clause-some
returns-in-Un-clause-some c = un_sides (un_of c.in-Un.ensures)

pub returns-in-Sum-clause-some : goal.returns-in-Sum-clause-some
returns-in-Sum-clause-some c = sum_sides (sum_ty_of c.in-Sum.ensures c.requires)

pub returns-in_default-clause-none : goal.returns-in_default-clause-none
returns-in_default-clause-none c = no_sides c.ty_part.ensures c.in_default.not-Un c.in_default.not-Sum
