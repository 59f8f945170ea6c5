-- An environment whose types are numbers of a store, and the environments that it stands for.
use Rattle.std.specs.Prelude.{◌≡◌, ℕ, ◌+◌, ◌<◌, ◌≤◌, ◌^◌, List, [], ◌∷◌, length}
use Rattle.spi_term.specs.Term.{Ty}
use Rattle.spi_term.specs.Spelling.{ty_nodes}
use Rattle.spi_rules.specs.Environment.{Env}
use Rattle.spi_intern.specs.declared.store.Store.{Store}
use Rattle.spi_intern.specs.declared.types.TyId.{TyId}
use Rattle.spi_intern.specs.Meaning.{Means, Keeps}

-- a judge as its callers see it: its store, how many names stay, and the number of each name's type
pub record Numbered : Type 0 where
  pub store : Store
  pub free : ℕ
  pub types : List TyId

-- each number means the type at its place
pub data StandFor (s : Store) : List TyId → Env → Type 0 where
  stand_none : StandFor s [] []
  stand_next : {i : TyId} {t : Ty} {ids : List TyId} {env : Env} → Means s i.place t → StandFor s ids env
      → StandFor s (i ∷ ids) (t ∷ env)

-- The judge's environment is env. A number means its type up to equal counts of atoms within each Nonce, so a judge
-- stands for several environments, and what it answers is so in each of them.
abbrev pub Stands : Numbered → Env → Type 0
Stands j env = StandFor j.store j.types env

-- a number that the store gave for a type with few enough nodes to be judged where so many names are in scope
pub record IsGivenSmall (s : Store) (i names : ℕ) : Type 0 where
  pub type : Ty
  pub means : Means s i type
  pub few : names + ty_nodes type < 2 ^ 32

-- the environment is as before, and each number means what it meant
pub record IsKept (old new : Numbered) : Type 0 where
  pub store : Keeps old.store new.store
  pub free : new.free ≡ old.free
  pub types : new.types ≡ old.types

-- what holds of the fields of every judge
pub record IsJudge (s : Store) (free : ℕ) (ids : List TyId) : Type 0 where
  pub small : length ids < 2 ^ 32
  pub within : free ≤ length ids
  pub env : Env
  pub stands : StandFor s ids env
