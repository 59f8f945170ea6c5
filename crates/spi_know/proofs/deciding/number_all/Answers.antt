use Rattle.std.proofs.Common.{ap, ◌∙◌, slice_get, map, sym}
use Rattle.spi_term.specs.View.{message}
use Rattle.spi_know.proofs.Starting.{starts_all, length_from}
use Rattle.spi_know.proofs.deciding.number_all.Goals as goal

pub returns-clause-starts : goal.returns-clause-starts
returns-clause-starts c =
    starts_all _ _ (map message c.args.sent.now) _ _ _ _ (sym (length_from c.args.sent.now)) c.in_ok-unit.ensures.kept.messages c.in_ok-push.ensures.items
    (ap (slice_get c.message.new.self.messages) c.place.ensures ∙ c.in_ok-unit.ensures.at) c.in_ok-start.ensures.numbers
