use Rattle.spi_scope.proofs.Openings.{fault_opens}
use Rattle.spi_scope.proofs.laws.faults_stand_at_nodes.Goals as goal

pub returns : goal.returns
returns c = λ tree f h. fault_opens tree f h
