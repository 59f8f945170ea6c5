use Rattle.std.proofs.Common.{◌≡◌, ◌++◌, map, take}
use Rattle.spi_rules.specs.Deriv.{rule_use}
use Rattle.spi_show.specs.Derivations.{uses_text}
use Rattle.spi_show.proofs.derivations.put_uses.Given as goal

abbrev pub invariant-loop-u : goal.invariant-loop-u
invariant-loop-u l = l.out.items ≡ l.initial.out.items ++ uses_text (map rule_use (take l.u-index l.uses))
