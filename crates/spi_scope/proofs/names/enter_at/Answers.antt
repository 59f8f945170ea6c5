use Rattle.std.proofs.Common.{arith}
use Rattle.spi_scope.specs.declared.names.Held.{Held}
use Rattle.spi_scope.proofs.Tables.{entered_at}
use Rattle.spi_scope.proofs.names.enter_at.Goals as goal

pub returns-clause-keeps : goal.returns-clause-keeps
returns-clause-keeps c =
    let held : Held = record { word = c.args.word; slot = c.args.slot; before = c.args.before; chain = c.args.chain } in
    rw (c.set_number.ensures.after, c.in_ok-push.ensures.items)
    (entered_at c.args.innermost.now c.args.hidden.now.items held c.len-its_number.result c.requires.keeps c.set_number.ensures.unique c.requires.entry c.requires.value (omega arith) c.requires.room)
