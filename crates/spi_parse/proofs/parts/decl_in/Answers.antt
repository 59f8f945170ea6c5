use Rattle.std.proofs.Common.{◌==◌}
use Rattle.spi_lex.specs.Numbered.{listed}
use Rattle.spi_tree.specs.Views.{decl_of}
use Rattle.spi_parse.specs.Places.{state_of}
use Rattle.spi_parse.specs.Table.{decl}
use Rattle.spi_parse.proofs.Numbered.{behind_read, decl_answer}
use Rattle.spi_parse.proofs.parts.decl_in.Goals as goal

pub by_number-requires-clause-behind : goal.by_number-requires-clause-behind
by_number-requires-clause-behind c =
    behind_read (listed c.args.tokens.now) c.args.from (state_of c.behind-at.result) c.declaration-answer.new.at c.behind-at.ensures
    (c.args.version == 2) c.requires.start c.requires.words (decl (c.args.version == 2)) decl_of c.declaration-answer.result c.declaration-answer.ensures

pub returns : goal.returns
returns c =
    decl_answer (listed c.args.tokens.now) c.args.from (state_of c.behind-at.result) c.declaration-answer.new.at c.behind-at.ensures
    (c.args.version == 2) c.requires.start c.requires.words decl_of c.declaration-answer.result c.by_number.result c.declaration-answer.ensures c.by_number.ensures
