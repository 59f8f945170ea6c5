use Rattle.spi_scope.specs.Files.{meant}
use Rattle.spi_narrate.specs.Views.{narration_of}
use Rattle.spi_commands.specs.Narrating.{RefusesNarrate}
use Rattle.spi_commands.proofs.AnswerCommands.{unread_answer}
use Rattle.spi_commands.proofs.FileRefusals.{stands_named}
use Rattle.spi_commands.proofs.NarrateRefusals.{narrate_named, narrate_within}
use Rattle.spi_commands.proofs.NarrateAnswers.{tells}
use Rattle.spi_commands.proofs.narrate.told.Goals as goal

pub tell-requires : goal.tell-requires
tell-requires c = c.faultless_is_tellable.ensures (narration_of c.args.narration) c.requires.1

pub returns-in-Told-clause-ok : goal.returns-in-Told-clause-ok
returns-in-Told-clause-ok c =
    tells c.args.bytes.now (narration_of c.args.narration) (meant c.in-Told.file) c.shown.result c.requires (rw c.in-Told.is at c.in_ok-telling.ensures) c.shown.ensures.ok

pub refused_for-requires-clause-stands : goal.refused_for-requires-clause-stands
refused_for-requires-clause-stands c =
    stands_named c.args.bytes.now (RefusesNarrate c.args.bytes.now) (narrate_named c.args.bytes.now) (narrate_within c.faults_stand_at_nodes.ensures c.args.bytes.now) c.untold.result
    (c.untold.ensures c.args.bytes.now (narration_of c.args.narration) c.requires (rw c.in-Refused.is at c.in_ok-telling.ensures))

pub returns-clause-ok : goal.returns-clause-ok
returns-clause-ok c =
    unread_answer c.args.bytes.now c.untold.result (RefusesNarrate c.args.bytes.now) _ _ c.refused_for.result
    (c.untold.ensures c.args.bytes.now (narration_of c.args.narration) c.requires (rw c.in-Refused.is at c.in_ok-telling.ensures)) c.refused_for.ensures.ok
