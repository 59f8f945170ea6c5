use Rattle.spi_commands.proofs.RunPromises.{promised}
use Rattle.spi_commands.proofs.running.answers_keep_promises.Goals as goal

pub returns : goal.returns
returns c = promised (record {
  lexing = c.one_answer.ensures.one;
  none_of = c.refused_is_none.ensures;
  one = c.one_file.ensures;
  safe = c.derivable_is_safe.ensures;
  many = c.derivable_is_many_safe.ensures;
  canonical = c.one_canonical.ensures;
  derivation = c.derivation_joins.ensures;
  schedule = c.schedule_joins.ensures;
  reads = c.canonical_reads_back.ensures;
  keys = c.keys_stay_unknown.ensures;
  narrations = record {
    one = c.narrations_have_one_answer.ensures.one;
    told = c.narrations_have_one_answer.ensures.told;
    untold = c.narrations_have_one_answer.ensures.untold;
    reads = c.narrations_have_one_answer.ensures.reads;
  };
})
