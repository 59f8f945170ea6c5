use Rattle.std.proofs.Common.{sym, ◌∙◌}
use Rattle.spi_term.specs.View.{message}
use Rattle.spi_scope.proofs.Nesting.{popped}
use Rattle.spi_scope.proofs.messages.nest_rest.Goals as goal

pub loop-part-preserved : goal.loop-part-preserved
loop-part-preserved c =
    rw (c.in_ok-last.ensures) (sym (popped _ _ _ c.in-Some-pop.part (message c.loop-part.last) c.in-Some-pop.ensures.items) ∙ c.loop-part.invariant)
