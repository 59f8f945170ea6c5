-- The bytes of a short text.
use Rattle.std.specs.Prelude.{ℕ, List, take}
use Rattle.spi_text.specs.declared.short.Short.{Short}

abbrev pub short_bytes : Short → List ℕ
short_bytes s = take s.len s.bytes
