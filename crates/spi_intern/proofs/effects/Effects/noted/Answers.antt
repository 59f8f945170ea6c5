use Rattle.std.proofs.Common.{sym, ◌∙◌, [], ◌∷◌}
use Rattle.spi_intern.proofs.EffectLaws.{list_noted}
use Rattle.spi_intern.proofs.effects.Effects.noted.Goals as goal

pub returns-then-is_only-clause-some : goal.returns-then-is_only-clause-some
returns-then-is_only-clause-some c =
    list_noted c.self.inside.lists.keys c.args.self.now c.in_ok-place.place c.in_ok-atoms.atoms.now (c.args.a ∷ []) c.self.view_is c.self.invariant (sym c.in_ok-atoms.ensures.key) (sym c.deref.ensures.value ∙ c.is_only.ensures c.if-is_only.true)
