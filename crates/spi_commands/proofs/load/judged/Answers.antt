use Rattle.std.proofs.Common.{refl, ◌*◌, ◌+◌}
use Rattle.spi_scope.specs.Files.{meant}
use Rattle.spi_commands.proofs.LoadAnswers.{summary_of}
use Rattle.spi_commands.proofs.load.judged.Goals as goal

pub returns-clause-ok : goal.returns-clause-ok
returns-clause-ok c =
    summary_of c.one_canonical.ensures c.args.k (meant c.args.file.now) c.in_ok-d.d (81 * c.args.k + 11) c.rules.result c.in_ok-output.output.items
    c.requires.few c.requires.file c.in_ok-d.ensures.some c.in_ok-d.ensures.canonical refl c.rules.ensures c.in_ok-output.ensures
