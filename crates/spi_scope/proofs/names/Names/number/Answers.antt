use Rattle.std.proofs.Common.{sym, ap, ◌∙◌}
use Rattle.std.specs.Option.{option_flatten}
use Rattle.spi_scope.proofs.Tables.{number_below}
use Rattle.spi_scope.proofs.names.Names.number.Goals as goal

pub returns-in-Some-clause-below : goal.returns-in-Some-clause-below
returns-in-Some-clause-below c =
    rw (ap option_flatten (sym c.in-Some.ensures.value) ∙ c.self.invariant.0.finds c.of.result, ← c.self.view_is) (number_below _ c.of.result)

pub returns-in-None-clause-below : goal.returns-in-None-clause-below
returns-in-None-clause-below c =
    rw (c.looked_up.ensures ∙ c.self.invariant.0.finds c.args.word.now, ← c.self.view_is) (number_below _ c.args.word.now)
