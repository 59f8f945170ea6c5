use Rattle.spi_lex.proofs.Taken.{in_form}
use Rattle.spi_lex.proofs.reader.Words.of.Goals as goal

pub returns-then-begin_version_2-clause-kinds : goal.returns-then-begin_version_2-clause-kinds
returns-then-begin_version_2-clause-kinds c = (in_form c.args.text.now c.utf8.text).kinds

pub returns-then-begin_version_2-clause-spans : goal.returns-then-begin_version_2-clause-spans
returns-then-begin_version_2-clause-spans c = (in_form c.args.text.now c.utf8.text).spans

pub returns-then-begin_version_2-clause-few : goal.returns-then-begin_version_2-clause-few
returns-then-begin_version_2-clause-few c = (in_form c.args.text.now c.utf8.text).few

pub returns-else-begin_version_2-clause-kinds : goal.returns-else-begin_version_2-clause-kinds
returns-else-begin_version_2-clause-kinds c = (in_form c.args.text.now c.utf8.text).kinds

pub returns-else-begin_version_2-clause-spans : goal.returns-else-begin_version_2-clause-spans
returns-else-begin_version_2-clause-spans c = (in_form c.args.text.now c.utf8.text).spans

pub returns-else-begin_version_2-clause-few : goal.returns-else-begin_version_2-clause-few
returns-else-begin_version_2-clause-few c = (in_form c.args.text.now c.utf8.text).few
