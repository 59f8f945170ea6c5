use Rattle.std.proofs.Common.{arith}
use Rattle.spi_play.proofs.Standing.{turned_leave}
use Rattle.spi_replay.proofs.Taken.{takes_names}
use Rattle.spi_play.proofs.turns.turn.Goals as goal

pub returns-in-Ok-clause-names : goal.returns-in-Ok-clause-names
returns-in-Ok-clause-names g c = let h = takes_names c.in-Ok.ensures.goes.taken.takes in let l = c.in-Ok.ensures.len in omega (arith, h, l)

pub returns-in-Leave-clause-turned : goal.returns-in-Leave-clause-turned
returns-in-Leave-clause-turned g c =
    turned_leave _ _ _ c.ask_at.new.players.items c.remove.new.self.items c.args.only c.args.place c.args.ready c.len-in-Leave.result _ c.place_after_leave.result
    c.in-Leave.ensures.asks c.remove.ensures.items (omega (arith, c.remove.new.self.ok.0)) c.place_after_leave.ensures.place
