-- The two passes over one judge.
use Rattle.std.proofs.Common.{◌≡◌, sym, ◌∙◌, subst, ℕ, [], length}
use Rattle.spi_term.specs.Term.{Process}
use Rattle.spi_term.specs.Names.{ProcessOver}
use Rattle.spi_term.specs.Spelling.{spelled}
use Rattle.spi_rules.specs.Environment.{Env}
use Rattle.spi_rules.specs.Blocking.{NodeOf}
use Rattle.spi_intern.specs.declared.store.Store.{Store}
use Rattle.spi_message.specs.Judging.{Numbered, Stands}
use Rattle.spi_message.proofs.Standing.{stand_length}
use Rattle.spi_infer.specs.declared.own.Noted.{Noted}
use Rattle.spi_count.specs.Keeping.{with_keys, AreKept}
use Rattle.spi_infer.specs.Own.{AreFormsNoted}
use Rattle.spi_infer.specs.Passes.{scan}
use Rattle.spi_infer.specs.Accounts.{IsNoted}
use Rattle.spi_infer.proofs.Nodes.{reached_of}
use Rattle.spi_infer.proofs.Located.{over_reached}

-- what the forward pass keeps over a judge is what the backward pass wants, in each environment that the judge stood for
pub noted_in : (j : Numbered) (s r : Store) (noted : Noted) (k : ℕ) (p : Process) (env : Env) → length j.types ≡ k → Stands j env → s ≡ r → AreKept r noted.keys
    → AreFormsNoted r (with_keys r noted.keys) (spelled k p) (scan 0 env [] (spelled k p)) noted.notes.items → IsNoted s noted k p env
noted_in j s r noted k p env n h e keys notes =
    subst (λ s. IsNoted s noted k p env) (sym e) (record { names = sym n ∙ stand_length h; keyed = keys; each = notes })

-- what a node's process is over
pub over_at : (k : ℕ) (p : Process) (env e : Env) (q : Process) (i : ℕ) → k ≡ length env → NodeOf env p i e q → ProcessOver k p → ProcessOver (length e) q
over_at k p env e q i n h o = over_reached (reached_of h) (subst (λ k. ProcessOver k p) n o)
