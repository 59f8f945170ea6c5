use Rattle.spi_message.proofs.Giving.{gives_none}
use Rattle.spi_message.proofs.judge.Judge.is_label.Goals as goal

pub returns-then-is_told_label-clause-adds : goal.returns-then-is_told_label-clause-adds
returns-then-is_told_label-clause-adds c = λ env n st at hp. gives_none
