use Rattle.std.proofs.Common.{sym, ◌∙◌}
use Rattle.spi_intern.proofs.Tables.{keeps_append}
use Rattle.spi_replay.proofs.Bindings.{can_enter, has_bound, keeps_as}
use Rattle.spi_replay.proofs.places.entered_with.Goals as goal

pub entered-requires : goal.entered-requires
entered-requires c = can_enter (c.deref.ensures.value ∙ c.in_ok-before.ensures.links) c.in_ok-before.ensures.last c.requires

pub returns-clause-at : goal.returns-clause-at
returns-clause-at c = has_bound c.args.store.now.messages c.entered.new.store.messages c.args.links.now.items c.bind.new.links.items c.deref.result.now c.args.source.now c.args.node c.args.last c.in_ok-before.before c.args.value c.in_ok-before.ensures.links c.in_ok-before.ensures.last c.deref.ensures.value c.entered.result c.entered.ensures.at

pub returns-clause-links : goal.returns-clause-links
returns-clause-links c = keeps_as (sym c.in_ok-before.ensures.links) (keeps_append _ _)
