use Rattle.std.proofs.Common.{◌≡◌, ℕ, ◌^◌, min, map, take}
use Rattle.spi_term.specs.Substitution.{atom_map, put}
use Rattle.spi_term.specs.View.{atom, message}
use Rattle.spi_term.proofs.put.put_effect.Given as goal

abbrev pub invariant-loop-a : goal.invariant-loop-a
invariant-loop-a l = (d : ℕ) → min d (2 ^ 32) ≡ l.depth → map atom l.atoms.items ≡ map (atom_map (put (message l.value) d)) (map atom (take l.a-index l.e.atoms.items))
