use Rattle.spi_lex.specs.Reader.{tokens_behind}
use Rattle.spi_lex.proofs.Places.{first_of}
use Rattle.spi_lex.proofs.tokens.next_of.Goals as goal

pub returns-in_default : goal.returns-in_default
returns-in_default c = (let words = c.args.words in first_of words.kind (record { from = words.from; to = words.to }) (tokens_behind words) c.in_default.not-Nothing)
