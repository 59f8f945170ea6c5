-- The comparisons are held against the definition at each of the 256 bytes, by computing.
use Rattle.std.proofs.Common.{◌&&◌, ◌||◌, ◌==◌, nat_le, bit_or, refl, arith}
use Rattle.std.proofs.lemmas.Bool.{agree_below_at}
use Rattle.spi_lex.specs.Front.{is_plain}
use Rattle.spi_lex.proofs.scan.is_word_byte.Goals as goal

pub returns : goal.returns
returns c = agree_below_at (λ k. (nat_le 97 (bit_or k 32) && nat_le (bit_or k 32) 122) || (nat_le 48 k && nat_le k 57) || (k == 95)) is_plain 256 c.args.byte refl (omega arith)
