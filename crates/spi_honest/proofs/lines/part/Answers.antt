use Rattle.std.proofs.Common.{refl, arith}
use Rattle.spi_narrate.specs.Views.{narration_of}
use Rattle.spi_scope.specs.Files.{meant}
use Rattle.spi_honest.proofs.Meeting.{part_can, part_below, part_done}
use Rattle.spi_honest.proofs.lines.part.Goals as goal

pub must-requires-clause-can : goal.must-requires-clause-can
must-requires-clause-can c = part_can (narration_of c.args.n.now) (meant c.args.file.now) c.args.at c.args.from c.args.to c.args.channel c.args.stage.now c.requires.tellable c.requires.line c.requires.told c.index-out.result.now c.index-out.ensures

pub index_mut-requires : goal.index_mut-requires
index_mut-requires c =
    let b = part_below (narration_of c.args.n.now) (meant c.args.file.now) c.args.at c.args.from c.args.to c.args.channel c.args.stage.now c.requires.tellable c.requires.line c.requires.told c.index-out.result.now c.index-out.ensures c.in_ok-must.ensures.taken in
    omega (arith, b, c.must.new.stage.places.ok.0)

pub returns : goal.returns
returns c = record { parted = part_done (narration_of c.args.n.now) (meant c.args.file.now) c.args.at c.args.from c.args.to c.args.channel c.args.stage.now c.requires.tellable c.requires.line c.requires.told c.index-out.result.now c.index-out.ensures c.must.new.stage _ c.places-rest.result c.in_ok-must.ensures.taken c.places-rest.ensures refl refl refl refl }
