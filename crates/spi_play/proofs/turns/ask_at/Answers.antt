use Rattle.std.proofs.Common.{arith, ◌<◌, length}
use Rattle.spi_play.proofs.Seats.{asks_at}
use Rattle.spi_play.proofs.turns.ask_at.Goals as goal

pub returns-clause-asks : goal.returns-clause-asks
returns-clause-asks g c =
    let within : c.args.place < length c.args.players.now.items = omega (arith, c.args.players.now.ok.0) in
    asks_at _ _ c.args.players.now.items c.args.place _ _ c.index_mut.result.now c.ask.new.player within c.index_mut.ensures.value c.ask.ensures
