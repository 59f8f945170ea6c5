use Rattle.spi_audit.proofs.Turning.{check_changes, check_place}
use Rattle.spi_audit.proofs.changing.checked.Goals as goal

pub returns : goal.returns
returns c = check_changes c.args.store.now c.args.keys.now c.args.id c.args.t c.args.account.now c.drop_type.new.account c.put_atom.new.account c.requires.keyed c.drop_type.ensures c.in_ok-put_atom.ensures

pub drop_type-requires : goal.drop_type-requires
drop_type-requires c = check_place c.requires
