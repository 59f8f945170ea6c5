-- What a word of some length is whose fours of bytes spell these numbers, low byte first: its first four, its last four and,
-- where it has more than eight, the four behind the first.
use Rattle.std.specs.Prelude.{ℕ, List, ◌-◌, ◌++◌, drop}
use Rattle.std.specs.Int.{to_le_bytes, w32}

abbrev pub short_word : ℕ → ℕ → ℕ → List ℕ
short_word count first last = to_le_bytes w32 first ++ drop (8 - count) (to_le_bytes w32 last)

abbrev pub long_word : ℕ → ℕ → ℕ → ℕ → List ℕ
long_word count first second last = to_le_bytes w32 first ++ to_le_bytes w32 second ++ drop (12 - count) (to_le_bytes w32 last)
