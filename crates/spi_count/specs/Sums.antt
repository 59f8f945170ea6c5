-- What counts by key say of an effect. A message has a number, and its key orders messages by their greatest names, so
-- that the last key tells whether a name occurs.
use Rattle.std.specs.Prelude.{◌≡◌, ◌≢◌, ℕ, List, [], Option, None, Some, suc, ◌+◌, ◌*◌, ◌<◌, ◌≤◌, max}
use Rattle.std.proofs.Common.{inl}
use Rattle.std.specs.BTreeMap.{BTreeMap, btree_map_len}
use Rattle.std_collections.specs.Layout.BTreeMap.{btree_map}
use Rattle.std.specs.Global.{Box}
use Rattle.spi_term.specs.Term.{Message, bound, name, unit, pair, in_left, in_right, enc, hash, Atom, ends, checks, many, Effect}
use Rattle.spi_term.specs.Lists.{In}
use Rattle.spi_term.specs.Counts.{count}
use Rattle.spi_count.specs.Counts.{count_of, Sets}
use Rattle.spi_count.specs.declared.sum.AtomKind.{AtomKind}
use Rattle.spi_count.specs.declared.sum.AtomKind.TheVariants.{End, Check, Many}
use Rattle.spi_count.specs.declared.sum.Counted.{Counted}
use Rattle.spi_count.specs.declared.sum.Sum.{Sum}
use Rattle.spi_intern.specs.Parts.{message_of}

-- the least number above each name of a message
abbrev pub name_bound : Message → ℕ
name_bound (bound i) = 0
name_bound (name x) = suc x
name_bound unit = 0
name_bound (pair a b) = max (name_bound a) (name_bound b)
name_bound (in_left a) = name_bound a
name_bound (in_right a) = name_bound a
name_bound (enc a b) = max (name_bound a) (name_bound b)
name_bound (hash a) = name_bound a

-- the key of a message with this number
abbrev pub key_of : ℕ → ℕ → ℕ
key_of above i = above * 4294967296 + i

abbrev pub kind_of_atom : Atom → AtomKind
kind_of_atom (ends m) = End
kind_of_atom (checks m) = Check
kind_of_atom (many m) = Many

-- the counts of the atoms of one kind, where there was an atom
abbrev pub counts_of : AtomKind → Counted → BTreeMap ℕ ℕ
counts_of End c = c.ends.counts
counts_of Check c = c.checks.counts
counts_of Many c = c.lasting.counts

-- the keys that are counted, each with its count; there are none before the first atom comes
abbrev pub entries_of : AtomKind → Option (Box Counted) → List (ℕ × ℕ)
entries_of kind None = []
entries_of kind (Some c) = (counts_of kind c.value).entries

-- the counts of the atoms of one kind, as a map of its own, wherever they lie
abbrev pub part : AtomKind → Sum → BTreeMap ℕ ℕ
part kind s = btree_map (entries_of kind s.counted) (inl (record {}))

-- a count with one more, which for `many` is at least 1, and the count of a sum
abbrev pub one_more : AtomKind → ℕ → ℕ
one_more End n = n + 1
one_more Check n = n + 1
one_more Many n = max n 1

abbrev pub both_counts : AtomKind → ℕ → ℕ → ℕ
both_counts End m n = m + n
both_counts Check m n = m + n
both_counts Many m n = max m n

-- how many keys are kept
abbrev pub counted_keys : Counted → ℕ
counted_keys c = btree_map_len c.ends.counts + btree_map_len c.checks.counts + btree_map_len c.lasting.counts

abbrev pub sum_keys : Sum → ℕ
sum_keys s = btree_map_len (part End s) + btree_map_len (part Check s) + btree_map_len (part Many s)

-- the atoms of that kind are counted so high at a key, and all else is as before
pub record Puts (kind : AtomKind) (old new : Sum) (key n : ℕ) : Type 0 where
  pub here : Sets (part kind old) (part kind new) key n
  pub others : (k : AtomKind) → k ≢ kind → part k new ≡ part k old

-- The counts are those of an effect, where At i m says that the message m has the number i.
pub record StandsForEffect (At : ℕ → Message → Type 0) (s : Sum) (es : Effect) : Type 0 where
  pub counted : (a : Atom) (i : ℕ) → At i (message_of a)
      → count_of (part (kind_of_atom a) s) (key_of (name_bound (message_of a)) i) ≡ count a es
  pub known : (a : Atom) → In a es → (i : ℕ) × At i (message_of a)
  pub kept : (kind : AtomKind) (k : ℕ) → 0 < count_of (part kind s) k
      → (i : ℕ) × (m : Message) × At i m × (k ≡ key_of (name_bound m) i)

-- numbers below 2 ^ 32, of which no two are of one message and none is of two
pub record AreNumbers (At : ℕ → Message → Type 0) : Type 0 where
  pub small : {i : ℕ} {m : Message} → At i m → i < 4294967296
  pub differ : {i j : ℕ} {m : Message} → At i m → At j m → i ≡ j
  pub one : {i : ℕ} {m n : Message} → At i m → At i n → m ≡ n

-- each name of the effect is below n
abbrev pub Below : ℕ → Effect → Type 0
Below n es = (a : Atom) → In a es → name_bound (message_of a) ≤ n
