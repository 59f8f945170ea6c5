-- What a pool's state is when it starts. No public clause names it.
use Rattle.std.specs.Prelude.{◌≡◌, [], ◌∷◌, ◌++◌}
use Rattle.spi_term.specs.Spelling.{Spelling}
use Rattle.spi_intern.specs.Table.{KeepsAll}
use Rattle.spi_replay.specs.declared.places.Place.{Place}
use Rattle.spi_replay.specs.declared.running.State.{State}
use Rattle.spi_replay.specs.Standing.{StandsAt}

-- one place more, which stands at the first node of a process
pub record HasFirstPlace (sp : Spelling) (old new : State) : Type 0 where
  pub first : Place
  pub stands : StandsAt new.store.messages new.links.items sp 0 [] first
  pub added : new.index.places.items ≡ old.index.places.items ++ first ∷ []
  pub kept : KeepsAll old.store.messages new.store.messages
  pub links : new.links.items ≡ old.links.items
  pub names : new.names ≡ old.names
  pub most : new.most ≡ old.most
