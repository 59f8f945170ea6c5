use Rattle.spi_tree.specs.Views.{file_of}
use Rattle.spi_commands.proofs.LoadAnswers.{only_memory}
use Rattle.spi_commands.proofs.load.resolved_sessions.Goals as goal

pub stopped-requires : goal.stopped-requires
stopped-requires c = only_memory c.args.k (file_of c.in_ok-tree.tree) c.in-Err.fault c.requires.1 c.in_ok-tree.ensures c.in-Err.ensures.fault
