use Rattle.std.proofs.Common.{◌==◌}
use Rattle.spi_lex.specs.Numbered.{listed}
use Rattle.spi_tree.specs.Views.{ty_of}
use Rattle.spi_parse.specs.Places.{state_of}
use Rattle.spi_parse.specs.Table.{ty}
use Rattle.spi_parse.proofs.Numbered.{behind_read, type_answer}
use Rattle.spi_parse.proofs.parts.type_in.Goals as goal

pub by_number-requires-clause-behind : goal.by_number-requires-clause-behind
by_number-requires-clause-behind c =
    behind_read (listed c.args.tokens.now) c.args.from (state_of c.behind-at.result) c.read_type-answer.new.at c.behind-at.ensures
    (c.args.version == 2) c.requires.start c.requires.words (ty (c.args.version == 2) 1) ty_of c.read_type-answer.result c.read_type-answer.ensures

pub returns : goal.returns
returns c =
    type_answer (listed c.args.tokens.now) c.args.from (state_of c.behind-at.result) c.read_type-answer.new.at c.behind-at.ensures
    (c.args.version == 2) c.requires.start c.requires.words ty_of c.read_type-answer.result c.by_number.result c.read_type-answer.ensures c.by_number.ensures
