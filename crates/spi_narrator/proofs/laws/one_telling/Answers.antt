use Rattle.spi_narrator.proofs.OneAnswer.{told_never, told_once}
use Rattle.spi_narrator.proofs.laws.one_telling.Goals as goal

pub returns-clause-never_both : goal.returns-clause-never_both
returns-clause-never_both c = told_never c.one_or_other.ensures.never_both

pub returns-clause-one : goal.returns-clause-one
returns-clause-one c = told_once c.one_or_other.ensures.one_file
