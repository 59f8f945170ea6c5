use Rattle.spi_lex.specs.Numbered.{listed}
use Rattle.spi_commands.specs.Benching.{RefusesBench}
use Rattle.spi_commands.proofs.AnswerCommands.{unread_answer}
use Rattle.spi_commands.proofs.FileRefusals.{few_lexed, stands_named}
use Rattle.spi_commands.proofs.FileScopes.{first_is_fault}
use Rattle.spi_commands.proofs.BenchPlaces.{bench_within, bench_named}
use Rattle.spi_commands.proofs.BenchAnswers.{told_to}
use Rattle.spi_commands.proofs.bench.benched_in.Goals as goal

pub verdicts_of-requires-clause-few : goal.verdicts_of-requires-clause-few
verdicts_of-requires-clause-few c = few_lexed c.args.bytes.now (listed c.args.tokens.now) c.requires

pub refused_for-requires-clause-stands : goal.refused_for-requires-clause-stands
refused_for-requires-clause-stands c =
    stands_named c.args.bytes.now (RefusesBench c.args.bytes.now) (λ n o s h. bench_named first_is_fault h) (λ n o s h. bench_within c.faults_stand_at_nodes.ensures h) c.in-Err.cause c.in-Err.ensures.unread

pub returns-in-Ok-clause-ok : goal.returns-in-Ok-clause-ok
returns-in-Ok-clause-ok c = told_to c.args.bytes.now c.in-Ok.verdicts c.in-Ok.ensures.verdicts c.told.result c.told.ensures.ok

pub returns-in-Err-clause-ok : goal.returns-in-Err-clause-ok
returns-in-Err-clause-ok c = unread_answer c.args.bytes.now c.in-Err.cause (RefusesBench c.args.bytes.now) _ _ c.refused_for.result c.in-Err.ensures.unread c.refused_for.ensures.ok
