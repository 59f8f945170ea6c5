-- The keys that are kept, of messages of a store.
use Rattle.std.specs.Prelude.{◌≡◌, ℕ, Some, nat_eq}
use Rattle.indexmap.specs.IndexMap.{get}
use Rattle.spi_term.specs.Term.{Message, Atom, Effect}
use Rattle.spi_term.specs.Lists.{In}
use Rattle.spi_intern.specs.Meaning.{NoneTwice, Keeps}
use Rattle.spi_intern.specs.declared.store.Store.{Store}
use Rattle.spi_count.specs.Keys.{Keyed, AreKeys}
use Rattle.spi_count.specs.declared.keys.Keys.{Keys}
use Rattle.spi_intern.specs.Parts.{message_of}

-- the messages of a store that have their key among these
abbrev pub with_keys : Store → Keys → ℕ → Message → Type 0
with_keys s keys i m = Keyed s.messages (λ i. get nat_eq keys.keys i) i m

-- the message has a number and a key
abbrev pub HasKey : Store → Keys → Message → Type 0
HasKey s keys m = (i : ℕ) × with_keys s keys i m

-- each message of the effect has them
abbrev pub HaveKeys : Store → Keys → Effect → Type 0
HaveKeys s keys es = (a : Atom) → In a es → HasKey s keys (message_of a)

-- each key is that of the message with its number
abbrev pub AreKept : Store → Keys → Type 0
AreKept s keys = AreKeys s.messages (λ i. get nat_eq keys.keys i)

-- the same, and nothing in the store has two numbers
pub record IsKeyed (s : Store) (keys : Keys) : Type 0 where
  pub once : NoneTwice s
  pub keyed : AreKept s keys

-- what has a key keeps it
pub record GrowsTo (s : Store) (ks : Keys) (r : Store) (ls : Keys) : Type 0 where
  pub store : Keeps s r
  pub keys : (i k : ℕ) → get nat_eq ks.keys i ≡ Some k → get nat_eq ls.keys i ≡ Some k
  pub are : AreKept r ls
