-- Effects by counts, where messages are told by their numbers in a store and have keys, and what atoms do that go in or out.
use Rattle.std.specs.Prelude.{◌≡◌, ◌<◌, ℕ, List, [], ◌∷◌, ◌++◌, slice_get, Some}
use Rattle.spi_term.specs.Term.{Message, Atom, ends, checks, many, Effect}
use Rattle.spi_effect.specs.Made.{minus}
use Rattle.spi_intern.specs.declared.store.Store.{Store}
use Rattle.spi_intern.specs.declared.atoms.AtomId.{AtomId}
use Rattle.spi_intern.specs.Table.{TellsAll}
use Rattle.spi_intern.specs.Atoms.{SaysAtom}
use Rattle.spi_count.specs.Sums.{name_bound, key_of, kind_of_atom, StandsForEffect}
use Rattle.spi_count.specs.Keeping.{with_keys, IsKeyed, HasKey, HaveKeys}
use Rattle.spi_count.specs.declared.keys.Keys.{Keys}
use Rattle.spi_count.specs.declared.sum.AtomKind.{AtomKind}
use Rattle.spi_count.specs.declared.sum.AtomKind.TheVariants.{End, Check, Many}
use Rattle.spi_count.specs.declared.sum.Sum.{Sum}
use Rattle.spi_count.specs.declared.pile.Pile.{Pile}
use Rattle.spi_count.specs.declared.pile.Late.{Late}
use Rattle.spi_count.specs.Piles.{waits, StandsForPile}
use Rattle.spi_term.specs.Counts.{cut, count}
use Rattle.spi_intern.specs.Parts.{message_of}

-- counts for an effect, by the numbers and keys
abbrev pub SumOf : Store → Keys → Sum → Effect → Type 0
SumOf s keys sum es = StandsForEffect (with_keys s keys) sum es

-- an atom whose message has a key goes in
abbrev pub AddsAtom : Keys → AtomId → Sum → Sum → Type 0
AddsAtom keys a old new =
    (s : Store) (b : Atom) (es : Effect) → IsKeyed s keys → SaysAtom s.messages a b
    → HasKey s keys (message_of b) → SumOf s keys old es → SumOf s keys new (es ++ b ∷ [])

-- an atom goes out, where it stands there
abbrev pub TakesAtom : Keys → AtomId → Sum → Sum → Type 0
TakesAtom keys a old new =
    (s : Store) (b : Atom) (es : Effect) → IsKeyed s keys → SaysAtom s.messages a b → SumOf s keys old es
    → SumOf s keys new (minus es (b ∷ []))

-- the same for the atoms of an effect
abbrev pub AddsAll : Keys → List AtomId → Sum → Sum → Type 0
AddsAll keys ids old new =
    (s : Store) (fs es : Effect) → IsKeyed s keys → TellsAll (SaysAtom s.messages) ids fs → HaveKeys s keys fs
    → SumOf s keys old es → SumOf s keys new (es ++ fs)

abbrev pub TakesAll : Keys → List AtomId → Sum → Sum → Type 0
TakesAll keys ids old new =
    (s : Store) (fs es : Effect) → IsKeyed s keys → TellsAll (SaysAtom s.messages) ids fs
    → SumOf s keys old es → SumOf s keys new (minus es fs)

-- the same where atoms wait to be counted
abbrev pub PileOf : Store → Keys → Pile → Effect → Type 0
PileOf s keys pile es = StandsForPile (with_keys s keys) pile es

abbrev pub AddsTo : Keys → AtomId → Pile → Pile → Type 0
AddsTo keys a old new =
    (s : Store) (b : Atom) (es : Effect) → IsKeyed s keys → SaysAtom s.messages a b
    → HasKey s keys (message_of b) → PileOf s keys old es → PileOf s keys new (es ++ b ∷ [])

abbrev pub TakesFrom : Keys → AtomId → Pile → Pile → Type 0
TakesFrom keys a old new =
    (s : Store) (b : Atom) (es : Effect) → IsKeyed s keys → SaysAtom s.messages a b → PileOf s keys old es
    → PileOf s keys new (minus es (b ∷ []))

abbrev pub AddsAllTo : Keys → List AtomId → Pile → Pile → Type 0
AddsAllTo keys ids old new =
    (s : Store) (fs es : Effect) → IsKeyed s keys → TellsAll (SaysAtom s.messages) ids fs → HaveKeys s keys fs
    → PileOf s keys old es → PileOf s keys new (es ++ fs)

abbrev pub TakesAllFrom : Keys → List AtomId → Pile → Pile → Type 0
TakesAllFrom keys ids old new =
    (s : Store) (fs es : Effect) → IsKeyed s keys → TellsAll (SaysAtom s.messages) ids fs
    → PileOf s keys old es → PileOf s keys new (minus es fs)

-- each of the atoms that wait has the key of a message of the store
abbrev pub AreKeyed : Store → Keys → List Late → Type 0
AreKeyed s keys ws = (i : ℕ) (w : Late) → slice_get ws i ≡ Some w → 0 < w.count
    → (j : ℕ) × (m : Message) × with_keys s keys j m × (w.key ≡ key_of (name_bound m) j)

-- the atoms of an effect are those that wait
pub record AreRead (s : Store) (keys : Keys) (ws : List Late) (es : Effect) : Type 0 where
  pub counts : (a : Atom) (i : ℕ) → with_keys s keys i (message_of a)
      → count a es ≡ cut a (waits (kind_of_atom a) ws (key_of (name_bound (message_of a)) i))
  pub known : HaveKeys s keys es

-- an atom by its kind and its message
abbrev pub atom_of_kind : AtomKind → Message → Atom
atom_of_kind End m = ends m
atom_of_kind Check m = checks m
atom_of_kind Many m = many m

-- the key of a message of the store
abbrev pub IsKey : Store → Keys → ℕ → Type 0
IsKey s keys q = (i : ℕ) × (m : Message) × with_keys s keys i m × (q ≡ key_of (name_bound m) i)
