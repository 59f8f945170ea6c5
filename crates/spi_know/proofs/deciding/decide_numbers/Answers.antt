use Rattle.std.proofs.Common.{sym, subst, List, length}
use Rattle.spi_horn.specs.declared.rules.Rule.{Rule}
use Rattle.spi_know.specs.declared.clauses.Way.{Way}
use Rattle.spi_know.specs.Numbered.{AreClauses}
use Rattle.spi_know.proofs.deciding.decide_numbers.Goals as goal

pub decide_by-requires-clause-clauses : goal.decide_by-requires-clause-clauses
decide_by-requires-clause-clauses c =
    let ms = c.args.store.now.messages in
    let P : List Rule → Type 0 = λ rs. AreClauses ms (length ms) rs c.deref-2.result.now in
    let Q : List Way → Type 0 = λ ws. AreClauses ms (length ms) c.in_ok-clauses.clauses.rules.items ws in
    subst P (sym c.deref.ensures.value) (subst Q (sym c.deref-2.ensures.value) c.in_ok-clauses.ensures)
