use Rattle.spi_show.proofs.Standings.{told_on, told_before, told_behind}
use Rattle.spi_show.proofs.below.is_before.Goals as goal

pub returns-in-On : goal.returns-in-On
returns-in-On c = told_on c.args.text c.in-On.rest _ c.past_atom.result _ c.past_atom.ensures c.in-On.is c.is_empty.ensures

pub returns-in-Before : goal.returns-in-Before
returns-in-Before c = told_before c.args.text _ c.past_atom.result c.past_atom.ensures c.in-Before.is

pub returns-in-Behind : goal.returns-in-Behind
returns-in-Behind c = told_behind c.args.text _ c.past_atom.result c.past_atom.ensures c.in-Behind.is
