-- Where the backward pass ends.
use Rattle.std.proofs.Common.{◌≡◌, ap, ◌∙◌, subst, ℕ, List, [], ◌∷◌, ◌++◌, length, drop, Option, arith}
use Rattle.spi_term.specs.Term.{Effect, Process}
use Rattle.spi_term.specs.Spelling.{numbered, spelled}
use Rattle.spi_rules.specs.Environment.{Env}
use Rattle.spi_rules.specs.Blocking.{NodeOf}
use Rattle.spi_intern.specs.declared.store.Store.{Store}
use Rattle.spi_count.specs.declared.pile.Pile.{Pile}
use Rattle.spi_infer.specs.declared.own.Noted.{Noted}
use Rattle.spi_count.specs.Keeping.{with_keys}
use Rattle.spi_infer.specs.Own.{PileFor}
use Rattle.spi_infer.specs.Forms.{effect_of}
use Rattle.spi_infer.specs.Passes.{scan, run_notes, first_stuck}
use Rattle.spi_infer.specs.Accounts.{Tops, IsNoted}
use Rattle.spi_infer.proofs.Accounted.{tops_top}
use Rattle.spi_infer.proofs.Nodes.{reached_of}
use Rattle.spi_infer.proofs.Located.{RunsTo, runs_to}

pub ends_stuck : (k : ℕ) (p : Process) (env : Env) (from id : ℕ) → id ≡ from → (r : Option ℕ) → r ≡ first_stuck id (drop id (spelled k p)) (drop id (scan 0 env [] (spelled k p))) → r ≡ first_stuck from (drop from (spelled k p)) (drop from (scan 0 env [] (spelled k p)))
ends_stuck k p env from id e r w =
    w ∙ ap (λ i. first_stuck i (drop i (spelled k p)) (drop i (scan 0 env [] (spelled k p)))) e

none_left : (s : Store) (noted : Noted) (items : List (Option Pile)) (o : Option Effect) (st : List (Option Effect)) → length items ≡ 0 → Tops s noted.keys items (o ∷ st) → ⊥
none_left s noted [] o st e t = absurd (cc)
none_left s noted (x ∷ items) o st e t = absurd (omega (arith, e))

module _ (s : Store) (noted : Noted) (k : ℕ) (p : Process) (env : Env) (h : IsNoted s noted k p env) (from : ℕ) (e : Env) (q : Process) (n : NodeOf env p from e q)
    (id : ℕ) (z : id ≡ from) (items : List (Option Pile)) (t : Tops s noted.keys items (run_notes (drop id (spelled k p)) (drop id (scan 0 env [] (spelled k p))))) where
  node_runs : RunsTo k p env from e q
  node_runs = runs_to k h.names (reached_of n)

  stack_is : Tops s noted.keys items (effect_of (numbered [] (length e) q) e ∷ node_runs.others)
  stack_is =
      subst (Tops s noted.keys items) (ap (λ i. run_notes (drop i (spelled k p)) (drop i (scan 0 env [] (spelled k p)))) z ∙ node_runs.is) t

  pub ends_with : (rest : List (Option Pile)) (o : Option Pile) → items ≡ rest ++ o ∷ [] → PileFor (with_keys s noted.keys) o (effect_of (numbered [] (length e) q) e)
  ends_with rest o f =
      (tops_top (with_keys s noted.keys) items rest o (effect_of (numbered [] (length e) q) e ∷ node_runs.others) f stack_is).0

  pub ends_not_empty : length items ≡ 0 → ⊥
  ends_not_empty f = none_left s noted items (effect_of (numbered [] (length e) q) e) node_runs.others f stack_is
