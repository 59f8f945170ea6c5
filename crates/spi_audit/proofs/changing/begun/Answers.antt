use Rattle.spi_audit.proofs.Turning.{begin_changes}
use Rattle.spi_audit.proofs.changing.begun.Goals as goal

pub returns : goal.returns
returns c s kd = begin_changes s c.args.keys.now c.args.id c.args.account.now c.drop_atom.new.account c.drop_atom-2.new.account kd c.drop_atom.ensures c.drop_atom-2.ensures
