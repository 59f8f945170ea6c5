use Rattle.std.proofs.Common.{◌∙◌}
use Rattle.spi_message.specs.Answered.{question}
use Rattle.spi_message.proofs.Looked.{got_some, got_none}
use Rattle.spi_message.proofs.answers.Answers.get.Goals as goal

pub returns-clause-some : goal.returns-clause-some
returns-clause-some c = got_some c.args.self.now.given.entries (question c.args.names c.args.asked) c.copied.result (c.copied.ensures ∙ c.get.ensures.value)

pub returns-clause-none : goal.returns-clause-none
returns-clause-none c = got_none c.args.self.now.given.entries (question c.args.names c.args.asked) c.copied.result (c.copied.ensures ∙ c.get.ensures.value)
