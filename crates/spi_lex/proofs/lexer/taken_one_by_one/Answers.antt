use Rattle.spi_lex.proofs.Taken.{tokens_are_left, version_told}
use Rattle.spi_lex.proofs.lexer.taken_one_by_one.Goals as goal

pub returns : goal.returns
returns c = record { all = tokens_are_left; version = version_told }
