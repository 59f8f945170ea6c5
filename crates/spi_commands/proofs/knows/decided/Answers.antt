use Rattle.std.proofs.Common.{◌∙◌, ap, map}
use Rattle.spi_term.specs.View.{message}
use Rattle.spi_commands.proofs.KnowsAnswers.{few_sent}
use Rattle.spi_commands.proofs.knows.decided.Goals as goal

pub decide-requires : goal.decide-requires
decide-requires c =
    few_sent c.args.file.now.process.names (map message c.deref.result.now) (map message c.args.talks.data.items) (ap (map message) c.deref.ensures.value ∙ rw c.names.ensures at c.in_ok-sent.ensures) c.requires.names c.requires.few
