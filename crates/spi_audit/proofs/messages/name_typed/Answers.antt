use Rattle.std.proofs.Common.{arith, sym, subst}
use Rattle.std.proofs.lemmas.Bool.{eqb-true, eqb-false}
use Rattle.spi_intern.specs.Meaning.{NoneTwice}
use Rattle.spi_audit.proofs.Replies.{name_past, name_same, name_differs}
use Rattle.spi_audit.proofs.messages.name_typed.Goals as goal

pub returns-then-x-len : goal.returns-then-x-len
returns-then-x-len c = name_past c.args.judge.now c.args.x c.args.t (omega (arith, c.if-x-len.true, c.len.ensures))

pub returns-then-eq : goal.returns-then-eq
returns-then-eq c =
    name_same c.args.judge.now c.args.x c.args.t c.at.result (subst NoneTwice c.store.ensures c.distinct.ensures.differ) c.at.ensures (eqb-true c.at.result.place c.args.t.place (sym c.if-eq.ensures))

pub returns-else-eq : goal.returns-else-eq
returns-else-eq c =
    name_differs c.args.judge.now c.args.x c.args.t c.at.result (subst NoneTwice c.store.ensures c.distinct.ensures.differ) c.at.ensures (eqb-false c.at.result.place c.args.t.place (sym c.if-eq.ensures))
