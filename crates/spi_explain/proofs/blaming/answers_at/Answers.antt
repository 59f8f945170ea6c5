use Rattle.spi_explain.proofs.Answered.{answered_start}
use Rattle.spi_explain.proofs.blaming.answers_at.Goals as goal

pub returns-in-Fresh : goal.returns-in-Fresh
returns-in-Fresh c = rw c.in-Fresh.is (answered_start c.args.env.now c.new.result.items c.new.ensures.items)

pub returns-in-Par : goal.returns-in-Par
returns-in-Par c = rw c.in-Par.is (answered_start c.args.env.now c.new-in-Par.result.items c.new-in-Par.ensures.items)

pub returns-in-Stop : goal.returns-in-Stop
returns-in-Stop c = rw c.in-Stop.is (answered_start c.args.env.now c.new-in-Stop.result.items c.new-in-Stop.ensures.items)
