use Rattle.std.proofs.Common.{◌∙◌}
use Rattle.spi_intern.specs.Atoms.{same_atoms, SaysList, said_list}
use Rattle.spi_intern.proofs.Tables.{says_some, says_none}
use Rattle.spi_intern.proofs.EffectLaws.{list_laws, vec_eq}
use Rattle.spi_intern.proofs.effects.Effects.atoms.Goals as goal

pub returns-in-Some : goal.returns-in-Some
returns-in-Some c ids at = c.deref.ensures.value ∙ says_some SaysList said_list same_atoms vec_eq list_laws _ _ c.self.view_is c.self.invariant _ _ ids c.in-Some.ensures.key at

pub returns-in-None : goal.returns-in-None
returns-in-None c ids at = absurd (says_none SaysList said_list same_atoms vec_eq list_laws _ _ c.self.view_is c.self.invariant _ ids c.in-None.ensures.key at)
