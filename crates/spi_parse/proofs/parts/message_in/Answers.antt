use Rattle.std.proofs.Common.{◌==◌, false}
use Rattle.spi_lex.specs.Numbered.{listed}
use Rattle.spi_tree.specs.Views.{msg_of}
use Rattle.spi_parse.specs.Places.{state_of}
use Rattle.spi_parse.specs.Table.{msg}
use Rattle.spi_parse.proofs.Numbered.{behind_read, message_answer}
use Rattle.spi_parse.proofs.parts.message_in.Goals as goal

pub by_number-requires-clause-behind : goal.by_number-requires-clause-behind
by_number-requires-clause-behind c =
    behind_read (listed c.args.tokens.now) c.args.from (state_of c.behind-at.result) c.message-answer.new.at c.behind-at.ensures
    (c.args.version == 2) c.requires.start c.requires.words (msg (c.args.version == 2) false 1) msg_of c.message-answer.result c.message-answer.ensures

pub returns : goal.returns
returns c =
    message_answer (listed c.args.tokens.now) c.args.from (state_of c.behind-at.result) c.message-answer.new.at c.behind-at.ensures
    (c.args.version == 2) c.requires.start c.requires.words msg_of c.message-answer.result c.by_number.result c.message-answer.ensures c.by_number.ensures
