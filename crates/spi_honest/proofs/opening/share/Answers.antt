use Rattle.std.proofs.Common.{◌<◌, length, arith}
use Rattle.std.proofs.lemmas.List.{length-map}
use Rattle.spi_narrate.specs.Views.{narration_of}
use Rattle.spi_heading.specs.Views.{shared_of}
use Rattle.spi_scope.specs.Files.{meant}
use Rattle.spi_honest.proofs.Opens.{share_can, share_on}
use Rattle.spi_honest.proofs.opening.share.Goals as goal

pub must-requires-clause-can : goal.must-requires-clause-can
must-requires-clause-can c =
    let z = length-map c.args.n.now.shared.items shared_of in
    let b : c.loop-i._i < length (narration_of c.args.n.now).shared = omega (arith, z, c.loop-i-test.true, c.len-i-end.ensures, c.args.n.now.shared.ok.0) in
    share_can (narration_of c.args.n.now) (meant c.args.file.now) c.loop-i._i c.loop-i.stage c.loop-i.invariant b

pub loop-i-preserved : goal.loop-i-preserved
loop-i-preserved c =
    let z = length-map c.args.n.now.shared.items shared_of in
    let b : c.loop-i._i < length (narration_of c.args.n.now).shared = omega (arith, z, c.loop-i-test.true, c.len-i-end.ensures, c.args.n.now.shared.ok.0) in
    share_on (narration_of c.args.n.now) (meant c.args.file.now) c.loop-i._i c.loop-i.stage c.loop-i.invariant b c.must.new.stage c.in_ok-must.ensures.taken
