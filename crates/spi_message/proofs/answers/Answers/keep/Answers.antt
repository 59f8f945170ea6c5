use Rattle.std.proofs.Common.{◌∙◌}
use Rattle.indexmap.proofs.CallerLemmas.{insert_entry-new}
use Rattle.spi_message.specs.Answered.{question}
use Rattle.spi_message.proofs.Looked.{question_eq, new_absent}
use Rattle.spi_message.proofs.answers.Answers.keep.Goals as goal

pub returns-clause-ok : goal.returns-clause-ok
returns-clause-ok c =
    let q = question c.args.names c.args.asked in
    c.in_ok-insert.ensures.entries ∙ insert_entry-new question_eq c.args.self.now.given q c.args.answer (new_absent c.args.self.now.given.entries q c.requires)
