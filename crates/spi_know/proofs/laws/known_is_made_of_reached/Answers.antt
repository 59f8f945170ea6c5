use Rattle.spi_know.proofs.Closing.{known_made, made_known, reached_closed, reached_known, of_made, made_of}
use Rattle.spi_know.specs.Reached.{reached_sent}
use Rattle.spi_know.proofs.laws.known_is_made_of_reached.Goals as goal

pub returns : goal.returns
returns c = record {
  known = λ sent m. (λ k. known_made (λ n i. reached_sent i) (reached_closed sent) k, λ k. made_known (λ n i. reached_known i) k);
  made = λ sent m. (made_of, of_made);
}
