use Rattle.spi_audit.proofs.Turning.{cast_changes, one_held, cast_place}
use Rattle.spi_audit.proofs.changing.casted.Goals as goal

pub leave_one-requires-clause-held : goal.leave_one-requires-clause-held
leave_one-requires-clause-held c = one_held c.requires.before

pub returns : goal.returns
returns c = cast_changes c.args.store.now c.args.keys.now c.args.scope c.args.t c.args.account.now c.leave_one.new.account c.put_type.new.account c.in_ok-pays.pays c.requires.before.keyed c.in_ok-pays.ensures c.in_ok-put_type.ensures

pub put_type-requires : goal.put_type-requires
put_type-requires c = cast_place c.requires.before
