-- No node stands above the last.
use Rattle.std.proofs.Common.{◌≡◌, sym, subst, ℕ, ◌≤◌, List, [], arith}
use Rattle.spi_infer.proofs.Blocked.{reach_within}
use Rattle.spi_infer.proofs.Nodes.{reached_of}
use Rattle.spi_origin.specs.Listing.{AreAll}
use Rattle.spi_origin.specs.Origins.{IsOriginIn}
use Rattle.spi_term.specs.Lists.{In}
use Rattle.spi_term.specs.Term.{Atom, Process, process_size}

none_so : (k : ℕ) (p : Process) (node : ℕ) (a : Atom) → process_size p ≤ node → (i : ℕ) → IsOriginIn k p node a i → In i []
none_so k p node a l i o = let h = reach_within (reached_of o.3) in absurd (omega (arith, h, l))

pub none_beyond : (k : ℕ) (p : Process) (node : ℕ) (a : Atom) (is : List ℕ) → process_size p ≤ node → is ≡ [] → AreAll (IsOriginIn k p node a) is
none_beyond k p node a is l e = subst (AreAll (IsOriginIn k p node a)) (sym e) (record {
  ascending = tt;
  each = λ i. (λ h. elim h [ ], λ o. none_so k p node a l i o);
})
