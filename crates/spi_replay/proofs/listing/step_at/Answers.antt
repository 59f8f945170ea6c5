use Rattle.std.proofs.Common.{ap, length, arith}
use Rattle.spi_replay.proofs.Told.{count_talks, few_steps, the_talk, the_act}
use Rattle.spi_replay.proofs.listing.step_at.Goals as goal

pub offset_bounds-ins-k : goal.offset_bounds-ins-k
offset_bounds-ins-k c = omega (arith, few_steps c.args.state.now c.args.place c.requires.is c.requires.there, c.requires.within)

pub bounds-ins-k : goal.bounds-ins-k
bounds-ins-k c =
    let n = count_talks c.args.state.now c.args.place c.at.result c.in-Some.channel.place c.requires.is c.distinct.ensures.differ.messages c.at.ensures c.in-Some.ensures in
    omega (arith, ap length c.ins.ensures, n, c.requires.within)

pub returns-in-Some : goal.returns-in-Some
returns-in-Some c = the_talk c.args.state.now c.args.place c.at.result c.in-Some.channel.place c.args.k c.ins.result.now c.requires.is c.distinct.ensures.differ.messages c.at.ensures c.in-Some.ensures c.ins.ensures c.requires.within

pub returns-in-None : goal.returns-in-None
returns-in-None c = the_act c.args.state.now c.args.place c.at.result c.args.k c.requires.is c.at.ensures c.in-None.ensures c.requires.within
