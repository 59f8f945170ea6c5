use Rattle.spi_know.proofs.Sending.{count_up, name_up, sent_shown}
use Rattle.spi_know.proofs.secret.sent_is_shown.Goals as goal

pub returns : goal.returns
returns c = record {
  count = count_up;
  names = name_up;
  shown = λ n c d ss es r m i. sent_shown n r m i;
}
