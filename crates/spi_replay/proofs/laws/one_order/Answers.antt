use Rattle.spi_replay.specs.Listing.{ready_steps}
use Rattle.spi_replay.proofs.Listed.{one_order as one, some_order}
use Rattle.spi_replay.proofs.laws.one_order.Goals as goal

pub returns-clause-most : goal.returns-clause-most
returns-clause-most c = one

pub returns-clause-least : goal.returns-clause-least
returns-clause-least c = λ x. (ready_steps x, some_order x)
