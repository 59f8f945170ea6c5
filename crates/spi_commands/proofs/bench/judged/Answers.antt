use Rattle.std.proofs.Common.{subst}
use Rattle.spi_edits.specs.Views.{bench_of}
use Rattle.spi_workbench.specs.Answers.{IsBenchAnswer}
use Rattle.spi_commands.proofs.BenchAnswers.{tells_unjudged}
use Rattle.spi_commands.proofs.bench.judged.Goals as goal

pub returns-in-Refused-clause-unread : goal.returns-in-Refused-clause-unread
returns-in-Refused-clause-unread c =
    tells_unjudged (bench_of c.args.text) c.args.end c.in-Refused.r c.unjudged.result (subst (λ a. IsBenchAnswer (bench_of c.args.text) c.args.end a) c.in-Refused.is c.in_ok-verdicts.ensures) c.unjudged.ensures
