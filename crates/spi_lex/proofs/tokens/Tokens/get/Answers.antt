use Rattle.spi_lex.specs.Left.{tokens_in}
use Rattle.spi_lex.specs.Reader.{tokens_left}
use Rattle.spi_lex.proofs.Places.{told_at}
use Rattle.spi_lex.proofs.tokens.Tokens.get.Goals as goal

pub returns-in-Text : goal.returns-in-Text
returns-in-Text c = rw c.in-Text.is (told_at (tokens_in c.in-Text.text.text.now) (tokens_left c.words_from.result) c.args.at c.next_of.result c.words_from.ensures c.next_of.ensures)
