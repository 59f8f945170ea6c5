use Rattle.std.proofs.Common.{suc, ◌<◌, length, arith}
use Rattle.spi_narrate.specs.Views.{narration_of}
use Rattle.spi_scope.specs.Files.{meant}
use Rattle.spi_honest.proofs.Opens.{spread_can, spread_on}
use Rattle.spi_honest.proofs.opening.spread.Goals as goal

pub must-requires-clause-can : goal.must-requires-clause-can
must-requires-clause-can c =
    let b : suc c.loop-i.i < length (narration_of c.args.n.now).roles = omega (arith, c.loop-i-test.true, c.len-i-end.ensures, c.args.n.now.more.ok.0) in
    spread_can (narration_of c.args.n.now) (meant c.args.file.now) c.loop-i.i c.loop-i.stage c.loop-i.invariant b c.requires.tellable c.first_place.result c.first_place.ensures

pub loop-i-preserved : goal.loop-i-preserved
loop-i-preserved c =
    let b : suc c.loop-i.i < length (narration_of c.args.n.now).roles = omega (arith, c.loop-i-test.true, c.len-i-end.ensures, c.args.n.now.more.ok.0) in
    spread_on (narration_of c.args.n.now) (meant c.args.file.now) c.loop-i.i c.loop-i.stage c.loop-i.invariant b c.requires.tellable c.first_place.result c.first_place.ensures c.must.new.stage c.in_ok-must.ensures.taken
