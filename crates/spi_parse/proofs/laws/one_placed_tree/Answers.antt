use Rattle.spi_parse.proofs.OneTree.{one_placed}
use Rattle.spi_parse.proofs.laws.one_placed_tree.Goals as goal

pub returns : goal.returns
returns c = λ f g ts hf hg sf sg. one_placed f g ts hf hg sf sg
