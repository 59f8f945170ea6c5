use Rattle.std.proofs.Common.{◌∙◌, ap, length, sym}
use Rattle.spi_replay.proofs.Told.{count_talks, count_acts}
use Rattle.spi_replay.proofs.listing.begun_at.Goals as goal

pub returns-in-Some : goal.returns-in-Some
returns-in-Some c = ap length c.ins.ensures ∙ count_talks c.args.state.now c.args.place c.at-wait.result c.in-Some.channel.place c.requires.is c.distinct.ensures.differ.messages c.at-wait.ensures c.in-Some.ensures

pub returns-then-is_act : goal.returns-then-is_act
returns-then-is_act c = count_acts c.args.state.now c.args.place c.at-wait.result _ c.requires.is c.at-wait.ensures c.in-None.ensures (sym c.is_act.ensures ∙ c.if-is_act.true)

pub returns-else-is_act : goal.returns-else-is_act
returns-else-is_act c = count_acts c.args.state.now c.args.place c.at-wait.result _ c.requires.is c.at-wait.ensures c.in-None.ensures (sym c.is_act.ensures ∙ c.if-is_act.false)
