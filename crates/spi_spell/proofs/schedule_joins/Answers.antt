use Rattle.std.proofs.lemmas.List.Elements.{recursion_from_All}
use Rattle.spi_spell.specs.Joined.{HasLowPlaces}
use Rattle.spi_spell.proofs.Joining.{with_a_schedule}
use Rattle.spi_spell.proofs.schedule_joins.Goals as goal

pub returns : goal.returns
returns c = λ bytes file steps spells no_steps none few places short.
    with_a_schedule bytes file spells.0 spells.1 spells.2 no_steps none steps few (recursion_from_All HasLowPlaces steps places) short
