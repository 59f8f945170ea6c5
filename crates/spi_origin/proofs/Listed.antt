-- The lists that are gathered have what their contracts say.
use Rattle.std.proofs.Common.{◌≡◌, sym, subst, ℕ, List, [], length, arith}
use Rattle.spi_origin.proofs.Blocking.{chosen_blocks, blocks_chosen}
use Rattle.spi_origin.proofs.OriginNodes.{chosen_origin, origin_chosen}
use Rattle.spi_origin.proofs.Chosen.{Chosen, listed, ascends}
use Rattle.spi_origin.specs.Gathering.{all_blocking, all_origins, picked}
use Rattle.spi_origin.specs.Listing.{AreAll}
use Rattle.spi_origin.specs.Origins.{IsOrigin, IsOriginIn}
use Rattle.spi_count.specs.Keeping.{with_keys, GrowsTo}
use Rattle.spi_infer.proofs.Kept.{are_noted_keep}
use Rattle.spi_infer.specs.Accounts.{IsNoted}
use Rattle.spi_infer.specs.Own.{AreFormsNoted}
use Rattle.spi_infer.specs.Passes.{scan}
use Rattle.spi_infer.specs.declared.own.Noted.{Noted}
use Rattle.spi_intern.specs.declared.store.Store.{Store}
use Rattle.spi_infer.proofs.Descending.{one_node}
use Rattle.spi_rules.specs.Blocking.{NodeOf, Blocks}
use Rattle.spi_rules.specs.Environment.{Env, untrusted}
use Rattle.spi_term.specs.Names.{ProcessOver}
use Rattle.spi_term.specs.Spelling.{numbered, spelled}
use Rattle.spi_term.specs.Term.{Atom, Process}

pub blocking_listed : (env : Env) (p : Process) (l : List ℕ) → l ≡ picked all_blocking (numbered [] (length env) p) env 0 → AreAll (Blocks env p) l
blocking_listed env p l e = subst (AreAll (Blocks env p)) (sym e) (record {
  ascending = ascends all_blocking (numbered [] (length env) p) env 0;
  each = λ i. (
    λ h. let b = (listed all_blocking p env 0 i).0 h in
        let z : b.0 ≡ i = omega (arith, b.1) in
        chosen_blocks (subst (Chosen all_blocking env p) z b.2),
    λ b. (listed all_blocking p env 0 i).1 (i, omega arith, blocks_chosen b),
  );
})

pub origins_listed : (k : ℕ) (p : Process) (node : ℕ) (a : Atom) (e : Env) (q : Process) (l : List ℕ) → NodeOf (untrusted k) p node e q → ProcessOver (length e) q → l ≡ picked (all_origins a) (numbered [] (length e) q) e node → AreAll (IsOriginIn k p node a) l
origins_listed k p node a e q l n over g = subst (AreAll (IsOriginIn k p node a)) (sym g) (record {
  ascending = ascends (all_origins a) (numbered [] (length e) q) e node;
  each = λ i. (
    λ h. let b = (listed (all_origins a) q e node i).0 h in
        (e, q, b.0, n, chosen_origin over b.2, b.1),
    λ o. let w = one_node o.3 n in
        (listed (all_origins a) q e node i).1 (o.2, o.5, origin_chosen a (subst (λ q. IsOrigin a e q o.2) w.1 (subst (λ e. IsOrigin a e o.1 o.2) w.0 o.4))),
  );
})

-- what is kept of the nodes stays as the store and the keys grow
pub noted_grows : (s r : Store) (noted new : Noted) (k : ℕ) (p : Process) (env : Env) → new.notes.items ≡ noted.notes.items → GrowsTo s noted.keys r new.keys → IsNoted s noted k p env → IsNoted r new k p env
noted_grows s r noted new k p env f g h = record {
  names = h.names;
  keyed = g.are;
  each = subst (AreFormsNoted r (with_keys r new.keys) (spelled k p) (scan 0 env [] (spelled k p))) (sym f) (are_noted_keep g h.each);
}
