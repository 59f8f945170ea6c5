use Rattle.std.proofs.Common.{[]}
use Rattle.spi_explain.proofs.Answered.{answered_start}
use Rattle.spi_explain.proofs.blaming.untrusted_answers.Goals as goal

pub returns : goal.returns
returns c = c.in_ok-ask_type.ensures [] (answered_start c.args.env.now c.new-answers.result.items c.new-answers.ensures.items)
