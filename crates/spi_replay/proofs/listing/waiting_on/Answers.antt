use Rattle.std.proofs.Common.{sym, subst}
use Rattle.spi_term.specs.View.{message}
use Rattle.spi_replay.specs.Ready.{AreReadyPlaces}
use Rattle.spi_replay.specs.Listing.{WaitsOn}
use Rattle.spi_replay.specs.Pools.{pooled}
use Rattle.spi_replay.proofs.Channels.{outs_are, ins_are, none_waiting}
use Rattle.spi_replay.proofs.listing.waiting_on.Goals as goal

pub returns-in-Out : goal.returns-in-Out
returns-in-Out c =
    subst (λ side. AreReadyPlaces (WaitsOn side (message c.args.channel.now)) (pooled c.args.state.now).configuration.places c.outs.result.now) (sym c.in-Out.is)
    (outs_are c.args.state.now c.requires c.distinct.ensures.differ.messages c.in-Some.id (message c.args.channel.now) c.in-Some.ensures c.outs.result.now c.outs.ensures)

pub returns-in-In : goal.returns-in-In
returns-in-In c =
    subst (λ side. AreReadyPlaces (WaitsOn side (message c.args.channel.now)) (pooled c.args.state.now).configuration.places c.ins.result.now) (sym c.in-In.is)
    (ins_are c.args.state.now c.requires c.distinct.ensures.differ.messages c.in-Some.id (message c.args.channel.now) c.in-Some.ensures c.ins.result.now c.ins.ensures)

pub returns-in-None : goal.returns-in-None
returns-in-None c = none_waiting c.args.side (message c.args.channel.now) (pooled c.args.state.now).configuration.places c.in-None.ensures
