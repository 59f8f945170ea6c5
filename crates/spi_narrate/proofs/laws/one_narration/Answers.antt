use Rattle.spi_narrate.proofs.OnceWhole.{narration_once}
use Rattle.spi_narrate.proofs.laws.one_narration.Goals as goal

pub returns : goal.returns
returns c = λ x y ts a b. narration_once ts x y a b
