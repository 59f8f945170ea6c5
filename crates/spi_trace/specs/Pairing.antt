-- Which begin pays for which end.
use Rattle.std.specs.Prelude.{ℕ, ◌<◌, List, [], ◌∷◌, ◌++◌, Option, Some, None}
use Rattle.spi_term.specs.Lists.{At, In}
use Rattle.spi_term.specs.Term.{Message}
use Rattle.spi_run.specs.Reduction.{Event, begun, ended, ended_many}

-- event number i of those seen is a begin of the label, and no end has taken it
abbrev pub IsFree : List Event → List ℕ → Message → ℕ → Type 0
IsFree seen taken m i = At seen i (begun m) × (In i taken → ⊥)

-- the earliest of them
pub record IsEarliest (seen : List Event) (taken : List ℕ) (m : Message) (i : ℕ) : Type 0 where
  pub free : IsFree seen taken m i
  pub first : (j : ℕ) → j < i → IsFree seen taken m j → ⊥

-- The begins of the further events, where these are seen and these begins are taken. An end takes the earliest begin
-- of its label that no end has taken, and an endmany has the earliest one, which it doesn't take.
pub data Pairs : List Event → List ℕ → List Event → List (Option ℕ) → Type 0 where
  pairs_none : {seen : List Event} {taken : List ℕ} → Pairs seen taken [] []
  pairs_begin : {seen : List Event} {taken : List ℕ} {m : Message} {es : List Event} {is : List (Option ℕ)}
      → Pairs (seen ++ begun m ∷ []) taken es is → Pairs seen taken (begun m ∷ es) (None ∷ is)
  pairs_end : {seen : List Event} {taken : List ℕ} {m : Message} {i : ℕ} {es : List Event}
      {is : List (Option ℕ)}
      → IsEarliest seen taken m i → Pairs (seen ++ ended m ∷ []) (i ∷ taken) es is
      → Pairs seen taken (ended m ∷ es) (Some i ∷ is)
  pairs_unpaid : {seen : List Event} {taken : List ℕ} {m : Message} {es : List Event} {is : List (Option ℕ)}
      → ((i : ℕ) → IsFree seen taken m i → ⊥) → Pairs (seen ++ ended m ∷ []) taken es is
      → Pairs seen taken (ended m ∷ es) (None ∷ is)
  pairs_end_many : {seen : List Event} {taken : List ℕ} {m : Message} {i : ℕ} {es : List Event}
      {is : List (Option ℕ)}
      → IsEarliest seen [] m i → Pairs (seen ++ ended_many m ∷ []) taken es is
      → Pairs seen taken (ended_many m ∷ es) (Some i ∷ is)
  pairs_unpaid_many : {seen : List Event} {taken : List ℕ} {m : Message} {es : List Event}
      {is : List (Option ℕ)}
      → ((i : ℕ) → IsFree seen [] m i → ⊥) → Pairs (seen ++ ended_many m ∷ []) taken es is
      → Pairs seen taken (ended_many m ∷ es) (None ∷ is)

-- the pairing of events
abbrev pub IsPairing : List Event → List (Option ℕ) → Type 0
IsPairing events is = Pairs [] [] events is

-- each end, and each endmany, has a begin
abbrev pub EndsPaired : List Event → List (Option ℕ) → Type 0
EndsPaired events is = (i : ℕ) (m : Message) → At events i (ended m) → At is i None → ⊥

abbrev pub ManysPaired : List Event → List (Option ℕ) → Type 0
ManysPaired events is = (i : ℕ) (m : Message) → At events i (ended_many m) → At is i None → ⊥
