use Rattle.std.proofs.Common.{sym, ◌∙◌}
use Rattle.spi_intern.proofs.Tables.{is_noted}
use Rattle.spi_intern.proofs.MessageLaws.{part_laws, part_true}
use Rattle.spi_intern.proofs.messages.Messages.noted_part.Goals as goal

pub returns-then-eq-clause-some : goal.returns-then-eq-clause-some
returns-then-eq-clause-some c =
    is_noted part_laws c.self.inside.parts.keys c.args.self.now c.in_ok-place.place c.args.part c.in_ok-known.known.now c.self.view_is c.self.invariant (sym c.in_ok-known.ensures.key) (part_true c.in_ok-known.known.now c.args.part (sym c.eq.ensures ∙ c.if-eq.true))
