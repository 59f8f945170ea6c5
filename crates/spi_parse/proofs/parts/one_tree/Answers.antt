use Rattle.spi_parse.proofs.Unique.{same_tokens}
use Rattle.spi_parse.proofs.parts.one_tree.Goals as goal

pub returns : goal.returns
returns c = same_tokens
