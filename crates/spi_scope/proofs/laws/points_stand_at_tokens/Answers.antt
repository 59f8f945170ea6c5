use Rattle.spi_scope.proofs.Scanned.{tokens_scanned}
use Rattle.spi_scope.proofs.Ordered.{points_scanned}
use Rattle.spi_scope.proofs.Growing.{points_stand_behind}
use Rattle.spi_scope.proofs.laws.points_stand_at_tokens.Goals as goal

pub returns-clause-tokens : goal.returns-clause-tokens
returns-clause-tokens c = λ tree. tokens_scanned tree

pub returns-clause-points : goal.returns-clause-points
returns-clause-points c = λ tree. points_scanned tree

pub returns-clause-order : goal.returns-clause-order
returns-clause-order c = λ tree. points_stand_behind tree
