use Rattle.std.proofs.Common.{◌≡◌, ◌-◌, drop, length}
use Rattle.spi_scope.proofs.names.Names.cut.Given as goal

abbrev pub invariant-loop-self : goal.invariant-loop-self
invariant-loop-self l = record {
  names : drop (length l.self.names - l.len) l.self.names ≡ drop (length l.fn.self.names - l.len) l.fn.self.names;
  noted : l.self.noted ≡ l.fn.self.noted;
}

abbrev pub decreases-loop-self : goal.decreases-loop-self
decreases-loop-self l = length l.self.names
