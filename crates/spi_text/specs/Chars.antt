-- The bytes of a text, wherever they lie.
use Rattle.std.specs.Prelude.{ℕ, List}
use Rattle.std.specs.String.{string_bytes}
use Rattle.spi_text.specs.Short.{short_bytes}
use Rattle.spi_text.specs.declared.text.Chars.{Chars}
use Rattle.spi_text.specs.declared.text.Chars.TheVariants as chars

abbrev pub bytes_of : Chars → List ℕ
bytes_of (chars.Short short) = short_bytes short
bytes_of (chars.Long long) = string_bytes long.value
