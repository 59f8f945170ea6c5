use Rattle.spi_message.proofs.Giving.{gives_none}
use Rattle.spi_message.proofs.judge.Judge.has_type.Goals as goal

pub returns-in-Some-clause-adds : goal.returns-in-Some-clause-adds
returns-in-Some-clause-adds c = λ env n u st at mu hp. gives_none
