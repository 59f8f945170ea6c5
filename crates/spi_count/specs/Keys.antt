-- The keys of the messages that stand in effects.
use Rattle.std.specs.Prelude.{◌≡◌, ℕ, ◌<◌, List, Option, Some, None, slice_get}
use Rattle.spi_term.specs.Term.{Message}
use Rattle.spi_intern.specs.declared.messages.MsgId.{MsgId}
use Rattle.spi_count.specs.Sums.{name_bound, key_of}

-- the place of a number of a store, where there is one
abbrev pub place_of_key : Option MsgId → Option ℕ
place_of_key None = None
place_of_key (Some id) = Some id.place

-- the message number i of a store is m, and has its key
pub record Keyed (ms : List Message) (kept : ℕ → Option ℕ) (i : ℕ) (m : Message) : Type 0 where
  pub at : slice_get ms i ≡ Some m
  pub key : kept i ≡ Some (key_of (name_bound m) i)
  pub small : i < 4294967296

-- each key that is kept is that of the message with the number
pub record AreKeys (ms : List Message) (kept : ℕ → Option ℕ) : Type 0 where
  pub keyed : (i k : ℕ) → kept i ≡ Some k → (m : Message) × Keyed ms kept i m
