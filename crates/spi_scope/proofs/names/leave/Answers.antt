use Rattle.std.proofs.Common.{List, subst}
use Rattle.spi_scope.specs.declared.names.Held.{Held}
use Rattle.spi_scope.specs.Table.{KeepsTable}
use Rattle.spi_scope.proofs.Tables.{left, slot_within}
use Rattle.spi_scope.proofs.names.leave.Goals as goal

pub set_number-requires : goal.set_number-requires
set_number-requires c =
    slot_within _ _ _ (subst (λ (es : List Held). KeepsTable c.args.innermost.now es) c.in-Some.ensures.items c.requires.keeps)

pub returns-in-Some-clause-keeps : goal.returns-in-Some-clause-keeps
returns-in-Some-clause-keeps c =
    let kept = subst (λ (es : List Held). KeepsTable c.args.innermost.now es) c.in-Some.ensures.items c.requires.keeps in
    rw c.set_number.ensures.after (left _ _ _ c.set_number.ensures.unique kept)
