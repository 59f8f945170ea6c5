use Rattle.spi_narrate.specs.Views.{narration_of}
use Rattle.spi_term.proofs.Choices.{on_ok}
use Rattle.spi_scope.specs.Files.{meant}
use Rattle.spi_honest.proofs.Playing.{if_err, local_roomy, local_ok, local_bad}
use Rattle.spi_honest.proofs.lines.local.Goals as goal

pub attempt-requires-clause-roomy : goal.attempt-requires-clause-roomy
attempt-requires-clause-roomy c = local_roomy (narration_of c.args.n.now) (meant c.args.file.now) c.args.at c.args.role c.args.stage.now c.requires.tellable c.requires.line c.requires.told c.index-place.result.now c.index-place.ensures

pub returns-clause-told : goal.returns-clause-told
returns-clause-told c = on_ok c.attempt.result (λ t. local_ok (narration_of c.args.n.now) (meant c.args.file.now) c.args.at c.args.role c.args.stage.now c.requires.tellable c.requires.line c.requires.told c.index-place.result.now c.index-place.ensures t) c.attempt.ensures.taken

pub returns-clause-fault : goal.returns-clause-fault
returns-clause-fault c = if_err c.attempt.result (λ f r. local_bad (narration_of c.args.n.now) (meant c.args.file.now) c.args.at c.args.role c.args.stage.now c.requires.tellable c.requires.line c.requires.told c.index-place.result.now c.index-place.ensures f r) c.attempt.ensures.refused
