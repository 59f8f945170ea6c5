use Rattle.spi_commands.proofs.FileScopes.{unscoped}
use Rattle.spi_commands.proofs.reading.read_tree.Goals as goal

pub returns-in-Err-clause-unread : goal.returns-in-Err-clause-unread
returns-in-Err-clause-unread c = unscoped _ _ c.in-Err.fault c.out_of_scope.result c.requires c.in-Err.ensures.fault c.out_of_scope.ensures.memory c.out_of_scope.ensures.tells
