use Rattle.std.proofs.Common.{map, take}
use Rattle.spi_term.specs.View.{atom}
use Rattle.spi_message.specs.Judging.{IsKept}
use Rattle.spi_count.specs.Keeping.{GrowsTo, HaveKeys}
use Rattle.spi_count.proofs.keeping.keep_atoms.Given as goal

abbrev pub invariant-loop-a : goal.invariant-loop-a
invariant-loop-a l = record {
  at : HaveKeys l.judge.store l.keys (map atom (take l.a-index l.e.atoms.items));
  grows : GrowsTo l.initial.judge.store l.initial.keys l.judge.store l.keys;
  kept : IsKept l.initial.judge l.judge;
}
