use Rattle.std.proofs.Common.{arith}
use Rattle.spi_play.specs.Play.{most_reached, no_players, none_ready}
use Rattle.spi_play.proofs.turns.look_ahead.Goals as goal

pub returns-then-taken-most : goal.returns-then-taken-most
returns-then-taken-most c = most_reached (omega (arith, c.if-taken-most.true))

pub returns-in-None : goal.returns-in-None
returns-in-None c = no_players c.if-taken-most.false c.in-None.is

pub returns-then-ready-eq0 : goal.returns-then-ready-eq0
returns-then-ready-eq0 c =
    let counts = c.ready-ready.ensures in
    let count = counts.2 in
    none_ready c.if-taken-most.false c.in-Some.is (counts.0, counts.1, omega (arith, count, c.if-ready-eq0.true))
