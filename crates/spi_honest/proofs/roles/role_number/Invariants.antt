use Rattle.std.proofs.Common.{◌≡◌, take}
use Rattle.spi_tree.specs.declared.tree.SWord.{SWord}
use Rattle.spi_term.specs.Lists.{In}
use Rattle.spi_honest.proofs.roles.role_number.Given as goal

abbrev pub invariant-loop-i : goal.invariant-loop-i
invariant-loop-i l = (r : SWord) → In r (take l.i l.more) → r.word ≡ l.word.word → ⊥
