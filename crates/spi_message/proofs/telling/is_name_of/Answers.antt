use Rattle.std.proofs.Common.{refl, []}
use Rattle.spi_intern.proofs.Meanings.{terms_same}
use Rattle.spi_message.proofs.Standing.{found_at, missing_at}
use Rattle.spi_message.proofs.Questions.{name_typed, name_untyped}
use Rattle.spi_message.proofs.Typings.{fills_none}
use Rattle.spi_message.proofs.telling.is_name_of.Goals as goal

pub returns-in-Some : goal.returns-in-Some
returns-in-Some c =
    name_typed (terms_same c.args.store.now) c.distinct.ensures.differ (found_at c.args.types.now c.args.x c.in-Some.known.now _ c.in-Some.ensures.lookup.0 c.in-Some.ensures.lookup.1) (fills_none c.args.store.now [] 0 c.args.t refl) c.eq.result c.eq.ensures

pub returns-in-None : goal.returns-in-None
returns-in-None c = name_untyped (missing_at c.args.types.now c.args.x c.in-None.ensures.lookup.0)
