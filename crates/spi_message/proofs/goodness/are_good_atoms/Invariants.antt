use Rattle.std.proofs.Common.{drop}
use Rattle.spi_intern.specs.Meaning.{Keeps}
use Rattle.spi_message.specs.Added.{AtomsGive}
use Rattle.spi_message.proofs.Goods.{SameFrom}
use Rattle.spi_message.proofs.goodness.are_good_atoms.Given as goal

abbrev pub invariant-loop-a : goal.invariant-loop-a
invariant-loop-a l = record {
  kept : Keeps l.initial.store l.store;
  gives : AtomsGive l.initial.store l.store l.env l.atoms l.values;
  same : SameFrom l.initial.store l.env l.atoms (drop l.a-index l.atoms) l.values;
}
