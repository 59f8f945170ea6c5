use Rattle.std.proofs.Common.{◌≡◌, ◌++◌, drop}
use Rattle.spi_intern.specs.Atoms.{without_repeats}
use Rattle.spi_intern.proofs.atoms.without_repeated.Given as goal

abbrev pub invariant-loop-place : goal.invariant-loop-place
invariant-loop-place l = record { left : l.kept.items ++ without_repeats (drop l.place l.ids) ≡ without_repeats l.ids }
