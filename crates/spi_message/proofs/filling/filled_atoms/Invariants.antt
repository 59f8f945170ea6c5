use Rattle.std.proofs.Common.{take}
use Rattle.spi_intern.specs.Meaning.{Keeps}
use Rattle.spi_message.specs.Filling.{FillsAtoms}
use Rattle.spi_message.specs.Added.{AtomsAreAdded}
use Rattle.spi_message.proofs.filling.filled_atoms.Given as goal

abbrev pub invariant-loop-a : goal.invariant-loop-a
invariant-loop-a l = record {
  kept : Keeps l.initial.store l.store;
  added : AtomsAreAdded l.initial.store l.store l.values l.depth (take l.a-index l.atoms);
  fills : FillsAtoms l.initial.store.messages l.store.messages l.values l.depth (take l.a-index l.atoms) l.filled.items;
}
