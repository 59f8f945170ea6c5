use Rattle.spi_honest.proofs.Stages.{found_in}
use Rattle.spi_honest.proofs.stage.is_in.Goals as goal

pub returns : goal.returns
returns c = found_in c.args.place c.args.places.now c.contains.result c.contains.ensures.value
