use Rattle.std.proofs.Common.{sym}
use Rattle.spi_intern.proofs.Tables.{keeps_append, keeps_more}
use Rattle.spi_replay.proofs.Bindings.{can_bind, has_bound_two, keeps_as}
use Rattle.spi_replay.proofs.places.entered_with_two.Goals as goal

pub entered_with-requires : goal.entered_with-requires
entered_with-requires c = can_bind c.in_ok-before.ensures.links c.in_ok-before.ensures.last c.requires

pub returns-clause-at : goal.returns-clause-at
returns-clause-at c = has_bound_two c.args.store.now.messages c.entered_with.new.store.messages c.args.links.now.items c.bind.new.links.items c.entered_with.new.links.items c.args.source.now c.args.node c.args.last c.in_ok-before.before c.args.first c.args.second c.in_ok-before.ensures.links c.in_ok-before.ensures.last c.entered_with.result c.entered_with.ensures.at

pub returns-clause-links : goal.returns-clause-links
returns-clause-links c = keeps_more (keeps_as (sym c.in_ok-before.ensures.links) (keeps_append _ _)) c.entered_with.ensures.links
