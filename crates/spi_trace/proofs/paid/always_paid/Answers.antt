use Rattle.std.proofs.Common.{map}
use Rattle.spi_run.specs.View.{event}
use Rattle.spi_trace.proofs.Prefixes.{each_paid, paid_each}
use Rattle.spi_trace.proofs.paid.always_paid.Goals as goal

pub returns : goal.returns
returns c =
    let es = map event c.args.events.now in
    ((λ t. each_paid es (c.are_paid.ensures.0 t)), (λ h. c.are_paid.ensures.1 (paid_each es h)))
