use Rattle.std.proofs.Common.{◌∙◌, ap, ◌++◌, ◌∷◌, []}
use Rattle.spi_term.specs.View.{message}
use Rattle.spi_trace.proofs.Paying.{none_numbered, numbered_next}
use Rattle.spi_trace.proofs.labels.number_labels.Goals as goal

pub loop-e-init : goal.loop-e-init
loop-e-init c = none_numbered c.new-store.result.messages c.new-numbers.result.items c.new-numbers.ensures.items

pub loop-e-preserved : goal.loop-e-preserved
loop-e-preserved c = numbered_next c.loop-e.store.messages c.message.new.self.messages c.loop-e.numbers.items c.push.new.self.items c.args.events.now c.loop-e.e-index c.e-item.result c.in_ok-id.id.place (message c.label.result.now) c.message.ensures.kept.messages c.loop-e.invariant c.loop-e-test.true c.e-item.is c.in_ok-id.ensures.at c.label.ensures (c.in_ok-push.ensures.items ∙ ap (λ n. c.loop-e.numbers.items ++ n ∷ []) c.place.ensures)
