-- Characters counted by blocks of 1,024 bytes.
use Rattle.std.specs.Prelude.{◌≡◌, ℕ, ◌*◌, ◌<◌, not, List, length, take, slice_index}
use Rattle.std.specs.List.{count_by}
use Rattle.spi_text.specs.Place.{continues}

-- how many characters start before each block, and the blocks go past the bytes
pub record AreBlocks (bytes blocks : List ℕ) : Type 0 where
  pub before : (k : ℕ) → k < length blocks
      → slice_index blocks k ≡ count_by (λ b. not (continues b)) (take (k * 1024) bytes)
  pub past : length bytes < length blocks * 1024
