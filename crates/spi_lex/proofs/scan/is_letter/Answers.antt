-- The table is held against the definition at each of the 256 bytes, by computing.
use Rattle.std.proofs.Common.{nat_eq, get_or, refl, arith}
use Rattle.std.proofs.lemmas.Bool.{agree_below_at}
use Rattle.spi_lex.specs.declared.scan.TheConstants.{CLASSES}
use Rattle.spi_lex.specs.Front.{is_letter}
use Rattle.spi_lex.proofs.scan.is_letter.Goals as goal

pub returns : goal.returns
returns c = agree_below_at (λ k. nat_eq (get_or CLASSES k 0) 110) is_letter 256 c.args.byte refl (omega arith)
