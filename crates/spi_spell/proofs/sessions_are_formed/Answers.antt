use Rattle.spi_spell.proofs.Sessions.{formed}
use Rattle.spi_spell.proofs.sessions_are_formed.Goals as goal

pub returns : goal.returns
returns c = λ n f h. formed n f h
