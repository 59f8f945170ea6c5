use Rattle.std.proofs.Common.{[], inl, inr}
use Rattle.spi_parse.proofs.Lexed.{kinds_fit}
use Rattle.spi_commands.specs.Refusals.{syntax, too_deep}
use Rattle.spi_commands.specs.Benching.{RefusesBench}
use Rattle.spi_commands.proofs.FileRefusals.{unread_as}
use Rattle.spi_commands.proofs.bench.verdicts_of.Goals as goal

pub bench_in-requires-clause-words : goal.bench_in-requires-clause-words
bench_in-requires-clause-words c = kinds_fit _ c.requires.kinds

pub returns-in-Err-Syntax-clause-unread : goal.returns-in-Err-Syntax-clause-unread
returns-in-Err-Syntax-clause-unread c =
    unread_as (RefusesBench c.args.bytes.now) 20 _ [] c.unparsed.result (inr (inl (syntax c.requires.within c.requires.lexed (rw c.in-Err-Syntax.field-0-is at c.in-Err-Syntax.ensures)))) c.unparsed.ensures

pub returns-in-Err-TooDeep-clause-unread : goal.returns-in-Err-TooDeep-clause-unread
returns-in-Err-TooDeep-clause-unread c =
    unread_as (RefusesBench c.args.bytes.now) 21 _ [] c.unparsed-in-Err-TooDeep.result (inr (inl (too_deep c.requires.within c.requires.lexed (rw c.in-Err-TooDeep.field-0-is at c.in-Err-TooDeep.ensures)))) c.unparsed-in-Err-TooDeep.ensures
