use Rattle.spi_term.proofs.Freeness.{mentions_sound, mentions_complete}
use Rattle.spi_term.proofs.Counting.{same_sound, same_complete}
use Rattle.spi_effect.proofs.Made.{minus_difference, greater_is, are_many_sound, are_many_complete, within_sound, within_complete}
use Rattle.spi_effect.proofs.exact.tests_are_exact.Goals as goal

pub returns : goal.returns
returns c = record {
  differences = minus_difference;
  greatest = greater_is;
  all_many = λ es. (are_many_sound es, are_many_complete es);
  within = λ es fs. (within_sound es fs, within_complete es fs);
  same = λ t u. (same_sound t u, (λ s. same_complete s));
  avoids = λ x es. (mentions_sound x es, mentions_complete x es);
}
