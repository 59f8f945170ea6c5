-- What the program's own steps and events mean.
use Rattle.spi_term.specs.View.{message}
use Rattle.spi_run.specs.Reduction as Reduction
use Rattle.spi_run.specs.Reduction.{act, talk, begun, ended, ended_many}
use Rattle.spi_run.specs.declared.step.Step.{Step}
use Rattle.spi_run.specs.declared.step.Step.TheVariants.{Act, Talk}
use Rattle.spi_run.specs.declared.step.Event.{Event}
use Rattle.spi_run.specs.declared.step.Event.TheVariants.{Begin, End, EndMany}

abbrev pub step : Step → Reduction.Step
step (Act i) = act i
step (Talk i j) = talk i j

abbrev pub event : Event → Reduction.Event
event (Begin m) = begun (message m)
event (End m) = ended (message m)
event (EndMany m) = ended_many (message m)
