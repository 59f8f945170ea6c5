use Rattle.std.proofs.Common.{[], ◌∷◌}
use Rattle.spi_intern.proofs.Tables.{is_there}
use Rattle.spi_intern.proofs.EffectLaws.{list_laws}
use Rattle.spi_intern.proofs.effects.Effects.put_one.Goals as goal

pub returns-in-Some-clause-grows : goal.returns-in-Some-clause-grows
returns-in-Some-clause-grows c = is_there list_laws c.args.self.now c.in-Some.place (c.args.a ∷ []) c.in-Some.ensures.some
