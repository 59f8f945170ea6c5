use Rattle.spi_rules.proofs.Typing.{type_same}
use Rattle.spi_rules.proofs.Counted.{has_counts, derivable_counts, least_counts, proves_counts}
use Rattle.spi_rules.proofs.laws.effects_mean_counts.Goals as goal

pub returns : goal.returns
returns c = record {
  types = λ cs env m t u q h. type_same h q;
  has = λ cs env p es fs q d. has_counts q d;
  derivable = λ env p es fs q d. derivable_counts q d;
  least = λ env p es fs q l. least_counts q l;
  proves = λ d env p es fs q h. proves_counts q h;
}
