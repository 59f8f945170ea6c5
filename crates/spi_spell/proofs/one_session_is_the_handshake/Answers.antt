use Rattle.spi_spell.proofs.Sessions.{written_by_hand}
use Rattle.spi_spell.proofs.one_session_is_the_handshake.Goals as goal

pub returns : goal.returns
returns c = λ f h. written_by_hand f h
