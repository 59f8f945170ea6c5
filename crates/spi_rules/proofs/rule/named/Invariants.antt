use Rattle.std.proofs.Common.{◌≡◌, drop}
use Rattle.spi_rules.specs.Rule.{named}
use Rattle.spi_rules.proofs.rule.named.Given as goal

abbrev pub invariant-loop-rule : goal.invariant-loop-rule
invariant-loop-rule l = named (drop l.rule-index l.rules) l.word ≡ named l.rules l.word
