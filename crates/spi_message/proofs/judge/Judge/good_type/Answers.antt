use Rattle.spi_message.proofs.Giving.{gives_none}
use Rattle.spi_message.proofs.judge.Judge.good_type.Goals as goal

pub returns-then-is_told_good-clause-adds : goal.returns-then-is_told_good-clause-adds
returns-then-is_told_good-clause-adds c = λ env u st mu. gives_none
