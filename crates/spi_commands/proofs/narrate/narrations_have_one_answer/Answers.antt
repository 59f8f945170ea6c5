use Rattle.spi_commands.proofs.NarrateOnce.{one_narration_of, refused_untold, told_reads_back}
use Rattle.spi_commands.proofs.narrate.narrations_have_one_answer.Goals as goal

pub returns-clause-one : goal.returns-clause-one
returns-clause-one c = one_narration_of c.one_answer.ensures.one c.one_narration.ensures

pub returns-clause-untold : goal.returns-clause-untold
returns-clause-untold c = refused_untold c.one_answer.ensures.one c.one_narration.ensures c.one_first_fault.ensures.none c.one_telling.ensures.never_both

pub returns-clause-reads : goal.returns-clause-reads
returns-clause-reads c = told_reads_back c.faultless_is_tellable.ensures c.told_files_read_back.ensures
