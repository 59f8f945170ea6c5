use Rattle.std.proofs.Common.{◌≡◌, ℕ, ◌<◌, true, Some, slice_get}
use Rattle.spi_intern.specs.declared.atoms.AtomId.{AtomId}
use Rattle.spi_message.specs.Filling.{atom_at}
use Rattle.spi_message.specs.Plain.{plain_atom}
use Rattle.spi_message.proofs.plain.are_plain_atoms.Given as goal

abbrev pub invariant-loop-place : goal.invariant-loop-place
invariant-loop-place l = record { seen : (i : ℕ) (a : AtomId) → i < l.place → slice_get l.atoms i ≡ Some a → plain_atom l.names l.depth (atom_at l.store.messages a) ≡ true }
