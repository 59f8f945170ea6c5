-- Effects by counts, and what changes do to them. The atoms that have a name out of scope are held by their names alone.
use Rattle.std.specs.Prelude.{◌≡◌, ℕ, suc, ◌<◌, ◌≤◌, Bool, true, false, not, ◌||◌, nat_lt, List, [], ◌∷◌, ◌++◌}
use Rattle.std.specs.BTreeMap.{BTreeMap}
use Rattle.spi_term.specs.Counts.{count}
use Rattle.spi_term.specs.Term.{Message, Atom, Effect}
use Rattle.spi_intern.specs.declared.store.Store.{Store}
use Rattle.spi_effect.specs.Effect.{IsMany}
use Rattle.spi_effect.specs.Made.{is_free, is_free_at, mentions, minus}
use Rattle.spi_count.specs.Counts.{count_of}
use Rattle.spi_count.specs.Sums.{name_bound}
use Rattle.spi_count.specs.declared.sum.AtomKind.{AtomKind}
use Rattle.spi_count.specs.declared.sum.AtomKind.TheVariants.{End, Check, Many}
use Rattle.spi_count.specs.declared.sum.Sum.{Sum}
use Rattle.spi_count.specs.declared.keys.Keys.{Keys}
use Rattle.spi_audit.specs.declared.accounts.Account.{Account}
use Rattle.spi_count.specs.Keeping.{IsKeyed}
use Rattle.spi_count.specs.Adding.{SumOf}
use Rattle.spi_intern.specs.Parts.{message_of}

-- An effect is held: the atoms that aren't loose by counts, the loose ones by the names that they have and by whether each
-- is a `many`.
pub record HeldBy (s : Store) (keys : Keys) (loose : Atom → Bool) (sum : Sum) (names : BTreeMap ℕ ℕ)
    (lasting : Bool) (es : Effect) : Type 0 where
  pub inner : Effect
  pub stands : SumOf s keys sum inner
  pub inside : (a : Atom) → loose a ≡ false → count a inner ≡ count a es
  pub outside : (a : Atom) → loose a ≡ true → count a inner ≡ 0
  pub named : (a : Atom) (y : ℕ) → loose a ≡ true → 0 < count a es → is_free_at y a ≡ true
      → 0 < count_of names y
  pub names_of : (y : ℕ) → 0 < count_of names y
      → (a : Atom) × (loose a ≡ true) × (0 < count a es) × (is_free_at y a ≡ true)
  pub lasts : lasting ≡ true → (a : Atom) → loose a ≡ true → 0 < count a es → IsMany a
  pub once : lasting ≡ false → (a : Atom) × (loose a ≡ true) × (0 < count a es) × (IsMany a → ⊥)

-- an atom has a name from n on
abbrev pub outer : ℕ → Atom → Bool
outer n a = nat_lt n (name_bound (message_of a))

abbrev pub Held : Store → Keys → ℕ → Account → Effect → Type 0
Held s keys n acc es = HeldBy s keys (outer n) acc.sum acc.loose.counts acc.lasting es

-- effects where n names are in scope, one by one
pub data HoldsEffects (s : Store) (keys : Keys) : List ℕ → List Account → List Effect → Type 0 where
  holds_none : HoldsEffects s keys [] [] []
  holds_next : {n : ℕ} {acc : Account} {es : Effect} {ns : List ℕ} {accs : List Account} {st : List Effect}
      → Held s keys n acc es → HoldsEffects s keys ns accs st
      → HoldsEffects s keys (n ∷ ns) (acc ∷ accs) (es ∷ st)

-- whether each is a `many`, with one more of this kind
abbrev pub lasting_with : Bool → AtomKind → Bool
lasting_with b End = false
lasting_with b Check = false
lasting_with b Many = b

-- some effect is held
abbrev pub IsHeld : Store → Keys → Account → Type 0
IsHeld s keys acc = IsKeyed s keys × (n : ℕ) × (es : Effect) × Held s keys n acc es

-- the names of a message are marked too
abbrev pub Marks : BTreeMap ℕ ℕ → BTreeMap ℕ ℕ → Message → Type 0
Marks old new m =
    ((y : ℕ) → 0 < count_of old y → 0 < count_of new y)
    × ((y : ℕ) → is_free y m ≡ true → 0 < count_of new y)
    × ((y : ℕ) → count_of old y ≡ 0 → is_free y m ≡ false → count_of new y ≡ 0)

-- names from k on have left, and whether none did
abbrev pub IsScopeCut : Store → Keys → ℕ → Account → Bool → Account → Type 0
IsScopeCut s keys k old b new =
    (n : ℕ) (es : Effect) → k ≤ n → Held s keys n old es
    → Held s keys k new es
    × (b ≡ true → (a : Atom) → 0 < count a es → name_bound (message_of a) ≤ n → name_bound (message_of a) ≤ k)
    × (b ≡ false → (a : Atom) × (0 < count a es) × (k < name_bound (message_of a))
    × (name_bound (message_of a) ≤ n))

-- the name k has left, or two names from k on, and whether none of them did
abbrev pub LeavesOne : Store → Keys → ℕ → Account → Bool → Account → Type 0
LeavesOne s keys k old b new = (es : Effect) → Held s keys (suc k) old es
    → Held s keys k new es × (b ≡ not (mentions k es))

abbrev pub LeavesTwo : Store → Keys → ℕ → Account → Bool → Account → Type 0
LeavesTwo s keys k old b new = (es : Effect) → Held s keys (suc (suc k)) old es
    → Held s keys k new es × (b ≡ not (mentions k es || mentions (suc k) es))

-- atoms with names in scope go in, or out
abbrev pub HoldsMore : Store → Keys → ℕ → Effect → Account → Account → Type 0
HoldsMore s keys k fs old new = (es : Effect) → Held s keys k old es → Held s keys k new (es ++ fs)

abbrev pub HoldsLess : Store → Keys → ℕ → Effect → Account → Account → Type 0
HoldsLess s keys k fs old new = (es : Effect) → Held s keys k old es → Held s keys k new (minus es fs)
