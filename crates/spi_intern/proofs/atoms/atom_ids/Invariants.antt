use Rattle.std.proofs.Common.{map, take}
use Rattle.spi_term.specs.View.{atom}
use Rattle.spi_intern.specs.Table.{KeepsAll, TellsAll}
use Rattle.spi_intern.specs.Atoms.{SaysAtom}
use Rattle.spi_intern.specs.Parts.{InEffect}
use Rattle.spi_intern.specs.Growing.{AddsMessages}
use Rattle.spi_intern.proofs.atoms.atom_ids.Given as goal

abbrev pub invariant-loop-a : goal.invariant-loop-a
invariant-loop-a l = record {
  ids : TellsAll (SaysAtom l.messages) l.ids.items (map atom (take l.a-index l.e.atoms.items));
  adds : AddsMessages l.initial.messages l.messages (λ x. InEffect x (map atom (take l.a-index l.e.atoms.items)));
  kept : KeepsAll l.initial.messages l.messages;
}
