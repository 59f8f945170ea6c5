use Rattle.std.proofs.Common.{length, ◌≤◌, arith}
use Rattle.std.proofs.lemmas.List.{length-map}
use Rattle.spi_narrate.specs.Views.{line_of, narration_of}
use Rattle.spi_scope.specs.Files.{meant}
use Rattle.spi_honest.proofs.Finished.{finished}
use Rattle.spi_honest.proofs.schedule.schedule_of.Goals as goal

pub returns-clause-honest : goal.returns-clause-honest
returns-clause-honest c =
    let z = length-map c.args.n.now.lines.items line_of in
    let b : length (narration_of c.args.n.now).lines ≤ c.loop-at.at = omega (arith, z, c.loop-at-test.false, c.len-at-end.ensures, c.args.n.now.lines.ok.0) in
    finished (narration_of c.args.n.now) (meant c.args.file.now) c.loop-at.at c.loop-at.stage c.played.result b c.played.ensures.steps c.played.ensures.events c.loop-at.invariant
