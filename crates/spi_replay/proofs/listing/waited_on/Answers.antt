use Rattle.std.proofs.Common.{◌∙◌, sym, arith}
use Rattle.spi_term.specs.View.{message}
use Rattle.spi_replay.proofs.Channels.{next_none, next_other, there_below, there_is, none_end}
use Rattle.spi_replay.proofs.listing.waited_on.Goals as goal
use Rattle.spi_replay.proofs.listing.waited_on.Goals.{in-Some+else-is_message, in_default}

pub is_message-requires : goal.is_message-requires
is_message-requires c = there_below c.args.state.now c.requires c.loop-place.place c.at.result c.at.ensures (message c.args.channel.now) c.in-Some.id c.in-Some.ensures

pub returns-then-is_message : goal.returns-then-is_message
returns-then-is_message c = there_is c.args.state.now c.requires c.loop-place.place c.at.result c.at.ensures (message c.args.channel.now) c.in-Some.id c.in-Some.ensures (sym c.is_message.ensures ∙ c.if-is_message.true)

pub loop-place-preserved : goal.loop-place-preserved
loop-place-preserved c =
    elim c.match-channel_of.branch [ in-Some+else-is_message w ↦ next_other c.args.state.now c.requires c.loop-place.place c.at.result c.at.ensures (message c.args.channel.now) w.in-Some.id w.in-Some.ensures (sym w.is_message.ensures ∙ w.if-is_message.false) c.loop-place.invariant | in_default w ↦ next_none c.args.state.now c.requires c.loop-place.place c.at.result c.at.ensures (message c.args.channel.now) w.in_default.ensures c.loop-place.invariant ]

pub returns : goal.returns
returns c = none_end c.args.state.now (message c.args.channel.now) c.loop-place.place (omega arith) c.loop-place.invariant
