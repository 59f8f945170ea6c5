use Rattle.std.proofs.Common.{Bool}
use Rattle.spi_audit.specs.declared.notes.Note.TheVariants as N
use Rattle.spi_audit.specs.Accounts.{LeavesOne}
use Rattle.spi_audit.specs.Notes.{ChangesOne}
use Rattle.spi_audit.proofs.Turning.{make_changes, make_held, if_ok}
use Rattle.spi_audit.proofs.changing.made.Goals as goal

pub leave_one-requires-clause-held : goal.leave_one-requires-clause-held
leave_one-requires-clause-held c = make_held c.drop_atom.new.account c.requires.before c.drop_atom.ensures

pub returns : goal.returns
returns c =
    if_ok {P = λ (b : Bool). LeavesOne c.args.store.now c.args.keys.now c.args.scope c.drop_atom.new.account b c.leave_one.new.account} {Q = λ (b : Bool). ChangesOne c.args.store.now c.args.keys.now (N.Make c.args.scope c.args.id) c.args.account.now b c.leave_one.new.account} c.leave_one.result
    (λ r l. make_changes c.args.store.now c.args.keys.now c.args.scope c.args.id c.args.account.now c.drop_atom.new.account c.leave_one.new.account r c.requires.before.keyed c.drop_atom.ensures l) c.leave_one.ensures
