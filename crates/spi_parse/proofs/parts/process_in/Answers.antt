use Rattle.std.proofs.Common.{◌==◌}
use Rattle.spi_lex.specs.Numbered.{listed}
use Rattle.spi_tree.specs.Views.{proc_of}
use Rattle.spi_parse.specs.Places.{state_of}
use Rattle.spi_parse.specs.Table.{sproc}
use Rattle.spi_parse.proofs.Numbered.{behind_read, process_answer}
use Rattle.spi_parse.proofs.parts.process_in.Goals as goal

pub by_number-requires-clause-behind : goal.by_number-requires-clause-behind
by_number-requires-clause-behind c =
    behind_read (listed c.args.tokens.now) c.args.from (state_of c.behind-at.result) c.process-answer.new.at c.behind-at.ensures
    (c.args.version == 2) c.requires.start c.requires.words (sproc (c.args.version == 2) 0) proc_of c.process-answer.result c.process-answer.ensures

pub returns : goal.returns
returns c =
    process_answer (listed c.args.tokens.now) c.args.from (state_of c.behind-at.result) c.process-answer.new.at c.behind-at.ensures
    (c.args.version == 2) c.requires.start c.requires.words proc_of c.process-answer.result c.by_number.result c.process-answer.ensures c.by_number.ensures
