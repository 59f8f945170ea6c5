use Rattle.spi_infer.proofs.Descending.{some_node, one_node}
use Rattle.spi_infer.proofs.reaching.nodes_are_reached.Goals as goal

pub returns-clause-some : goal.returns-clause-some
returns-clause-some c = λ env p i l. some_node p env i l

pub returns-clause-one : goal.returns-clause-one
returns-clause-one c = λ env e f p q r i m n. one_node m n
