use Rattle.spi_audit.proofs.Turning.{end_changes}
use Rattle.spi_audit.proofs.changing.ended.Goals as goal

pub returns : goal.returns
returns c s kd = end_changes s c.args.keys.now c.args.id c.args.account.now c.put_atom.new.account kd c.in_ok-put_atom.ensures
