use Rattle.spi_know.proofs.Closing.{knows_more}
use Rattle.spi_know.proofs.Sending.{sent_shown}
use Rattle.spi_know.proofs.secret.keys_stay_unknown.Goals as goal

pub returns : goal.returns
returns c = λ k p h o n steps events d io le op oo r x i known.
    c.keys_stay_secret.ensures k p h o n steps events d io le op oo r x i (knows_more (λ m j. sent_shown n r m j) known)
