use Rattle.spi_commands.specs.Refusals.{Refuses}
use Rattle.spi_commands.proofs.AnswerCommands.{unread_file}
use Rattle.spi_commands.proofs.FileRefusals.{refused_named, refused_within, stands_named}
use Rattle.spi_commands.proofs.FileScopes.{first_is_fault}
use Rattle.spi_commands.proofs.answering.on_bytes.Goals as goal

pub on_file-requires-clause-over : goal.on_file-requires-clause-over
on_file-requires-clause-over g c = (c.requires.reads, c.in_default.not-Narrate, c.in_default.not-Bench)

pub returns-in-Narrate-clause-answers : goal.returns-in-Narrate-clause-answers
returns-in-Narrate-clause-answers g c = c.on_tokens.ensures _

pub refused_for-requires-clause-stands : goal.refused_for-requires-clause-stands
refused_for-requires-clause-stands g c =
    stands_named c.args.bytes.now (Refuses c.args.bytes.now) (λ n o s h. refused_named first_is_fault h) (λ n o s h. refused_within c.faults_stand_at_nodes.ensures h) c.in-Err.cause c.in-Err.ensures.unread

pub returns-in-Err-clause-answers : goal.returns-in-Err-clause-answers
returns-in-Err-clause-answers g c =
    unread_file c.args.command (c.requires.reads, c.in_default.not-Narrate, c.in_default.not-Bench) c.args.bytes.now _ c.in-Err.cause c.refused_for.result c.in-Err.ensures.unread c.refused_for.ensures.ok c.refused_for.ensures.err
