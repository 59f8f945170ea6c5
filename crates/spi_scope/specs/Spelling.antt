-- The number that tells a short word: of a word of up to three bytes what they spell to the base 256, and of a longer
-- one what its first four and its last four spell.
use Rattle.std.specs.Prelude.{ℕ, ◌+◌, ◌*◌, ◌^◌, ◌<◌, List, [], ◌∷◌, length, take, drop, ◌-◌, nat_lt, nat_le, if◌then◌else◌, slice_index_or}
use Rattle.std.specs.Hash as fed

abbrev pub spelled : List ℕ → ℕ
spelled [] = 0
spelled (x ∷ xs) = x + spelled xs * 256

abbrev pub front_of : List ℕ → ℕ
front_of xs = if nat_lt (length xs) 4 then spelled xs else spelled (take 4 xs) + spelled (drop (length xs - 4) xs) * 2 ^ 32

-- a word of up to eight bytes is hashed by this number, and a longer one by its bytes
abbrev pub fed_word : List ℕ → List (List ℕ)
fed_word xs = if nat_le (length xs) 8 then fed.u64 (front_of xs) else fed.str xs

-- every item is a byte
abbrev pub AreBytes : List ℕ → Type 0
AreBytes xs = (i : ℕ) → slice_index_or xs i 0 < 256
