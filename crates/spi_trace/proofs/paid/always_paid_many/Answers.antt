use Rattle.std.proofs.Common.{map}
use Rattle.spi_run.specs.View.{event}
use Rattle.spi_trace.proofs.Prefixes.{each_paid_many, paid_many_each}
use Rattle.spi_trace.proofs.paid.always_paid_many.Goals as goal

pub returns : goal.returns
returns c =
    let es = map event c.args.events.now in
    ((λ t. each_paid_many es (c.are_paid.ensures.0 t)), (λ h. c.are_paid.ensures.1 (paid_many_each es h)))
