use Rattle.std.proofs.lemmas.Result.{on_ok_weaker}
use Rattle.spi_deriv.proofs.Stacked.{settled}
use Rattle.spi_deriv.proofs.agenda.settle.Goals as goal

pub returns-in-Some : goal.returns-in-Some
returns-in-Some c =
    on_ok_weaker c.bind.result (λ t. settled c.args.scope c.width.result c.saturating_sub-outer.result c.in-Some.last c.args.pending.now.items c.pop.new.self.items c.args.types.now.items c.truncate.new.self.items c.bind.new.types.items c.in-Some.ensures.items c.width.ensures c.saturating_sub-outer.ensures c.truncate.ensures.items t) c.bind.ensures
