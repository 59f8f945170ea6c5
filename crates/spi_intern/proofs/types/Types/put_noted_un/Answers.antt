use Rattle.spi_intern.specs.Typed.{says_un}
use Rattle.spi_intern.proofs.types.Types.put_noted_un.Goals as goal

pub put-requires : goal.put-requires
put-requires c = says_un
