use Rattle.spi_lex.specs.Numbered.{listed}
use Rattle.spi_parse.proofs.Lexed.{kinds_fit}
use Rattle.spi_narrate.specs.Views.{narration_of}
use Rattle.spi_commands.specs.Narrating.{RefusesNarrate}
use Rattle.spi_commands.proofs.AnswerCommands.{unread_answer}
use Rattle.spi_commands.proofs.FileRefusals.{few_lexed, stands_named}
use Rattle.spi_commands.proofs.NarrateRefusals.{narrate_named, narrate_within}
use Rattle.spi_commands.proofs.NarrateAnswers.{narration_of_bytes}
use Rattle.spi_commands.proofs.narrate.narrated_in.Goals as goal

pub narration_in-requires-clause-size : goal.narration_in-requires-clause-size
narration_in-requires-clause-size c = few_lexed c.args.bytes.now (listed c.args.tokens.now) c.requires

pub narration_in-requires-clause-words : goal.narration_in-requires-clause-words
narration_in-requires-clause-words c = kinds_fit _ c.requires.2

pub told-requires : goal.told-requires
told-requires c =
    (narration_of_bytes c.args.bytes.now (listed c.args.tokens.now) (narration_of c.in-Ok.narration) c.requires.0 c.requires.1 c.in-Ok.ensures.0, c.in-Ok.ensures.1)

pub refused_for-requires-clause-stands : goal.refused_for-requires-clause-stands
refused_for-requires-clause-stands c =
    stands_named c.args.bytes.now (RefusesNarrate c.args.bytes.now) (narrate_named c.args.bytes.now) (narrate_within c.faults_stand_at_nodes.ensures c.args.bytes.now) c.unnarrated.result c.unnarrated.ensures

pub returns-in-Err-clause-ok : goal.returns-in-Err-clause-ok
returns-in-Err-clause-ok c = unread_answer c.args.bytes.now c.unnarrated.result (RefusesNarrate c.args.bytes.now) _ _ c.refused_for.result c.unnarrated.ensures c.refused_for.ensures.ok
