use Rattle.std.proofs.Common.{true, subst, sym}
use Rattle.spi_audit.specs.declared.notes.Note.{Note}
use Rattle.spi_audit.specs.Notes.{ChangesAll}
use Rattle.spi_audit.proofs.Turning.{changes_nothing}
use Rattle.spi_audit.proofs.changing.change.Goals as goal

pub returns-in-Nothing : goal.returns-in-Nothing
returns-in-Nothing c =
    subst (λ (o : Note). ChangesAll c.args.store.now c.args.keys.now o c.args.stack.now.items true c.args.stack.now.items) (sym c.in-Nothing.is) (changes_nothing c.args.store.now c.args.keys.now c.args.stack.now.items)
