use Rattle.std.proofs.Common.{◌≡◌, ◌++◌, map, take}
use Rattle.spi_term.specs.View.{atom}
use Rattle.spi_show.specs.Spells.{spelling}
use Rattle.spi_show.specs.Terms.{more_text}
use Rattle.spi_show.proofs.terms.put_more.Given as goal

abbrev pub invariant-loop-a : goal.invariant-loop-a
invariant-loop-a l = l.out.items ≡ l.initial.out.items ++ more_text (spelling l.spell) l.n (map atom (take l.a-index l.atoms))
