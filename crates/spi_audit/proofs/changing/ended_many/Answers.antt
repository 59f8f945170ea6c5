use Rattle.spi_audit.proofs.Turning.{many_changes}
use Rattle.spi_audit.proofs.changing.ended_many.Goals as goal

pub returns : goal.returns
returns c s kd = many_changes s c.args.keys.now c.args.id c.args.account.now c.put_atom.new.account kd c.in_ok-put_atom.ensures
