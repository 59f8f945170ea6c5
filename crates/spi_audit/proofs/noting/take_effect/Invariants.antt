use Rattle.std.proofs.Common.{map, take}
use Rattle.spi_term.specs.View.{atom}
use Rattle.spi_message.specs.Judging.{IsKept}
use Rattle.spi_count.specs.Keeping.{GrowsTo}
use Rattle.spi_audit.proofs.MessageTaken.{AreTaken}
use Rattle.spi_audit.proofs.noting.take_effect.Given as goal

abbrev pub invariant-loop-a : goal.invariant-loop-a
invariant-loop-a l = record {
  taken : AreTaken l.initial.judge l.judge l.keys (map atom (take l.a-index l.e.atoms.items)) l.ids.items;
  grows : GrowsTo l.initial.judge.store l.initial.keys l.judge.store l.keys;
  kept : IsKept l.initial.judge l.judge;
}
