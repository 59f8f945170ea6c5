-- The premises of a node's process are those of its shape.
use Rattle.std.proofs.Common.{◌≡◌, sym, ap, ◌∙◌, ℕ, suc, ◌+◌, List, [], ◌∷◌, ◌++◌, drop, length, Some, arith, subst}
use Rattle.std.specs.Prelude.{slice_get}
use Rattle.spi_explain.specs.Premises.{premises, premises_at, AreAnswered}
use Rattle.spi_explain.specs.declared.blaming.Answer.{Answer}
use Rattle.spi_infer.proofs.Descending.{one_node}
use Rattle.spi_infer.proofs.Located.{located}
use Rattle.spi_infer.proofs.Nodes.{reached_of}
use Rattle.spi_message.proofs.Opened.{numbered_leaf, numbered_prefix, numbered_fork}
use Rattle.spi_rules.specs.Blocking.{NodeOf}
use Rattle.spi_rules.specs.Environment.{Env, untrusted}
use Rattle.spi_rules.proofs.Typing.{length_untrusted}
use Rattle.spi_term.proofs.Lists.{head_is, drop_get}
use Rattle.spi_term.specs.Spelling.{Shape, flat, numbered, spelled}
use Rattle.spi_term.specs.Term.{Process, leaf, prefix, fork}

shaped : (id : ℕ) (e : Env) (q : Process) (x : Shape) (xs rest : List Shape) → x ∷ xs ≡ flat id (length e) (numbered [] (length e) q) ++ rest → premises_at x ≡ premises q
shaped id e (leaf l) x xs rest h = ap premises_at (head_is (h ∙ ap (λ t. flat id (length e) t ++ rest) (numbered_leaf (length e) l)))
shaped id e (prefix s p) x xs rest h = ap premises_at (head_is (h ∙ ap (λ t. flat id (length e) t ++ rest) (numbered_prefix e s p)))
shaped id e (fork f p q) x xs rest h = ap premises_at (head_is (h ∙ ap (λ t. flat id (length e) t ++ rest) (numbered_fork e f p q)))

pub premises_are : (k : ℕ) (p : Process) (id : ℕ) (e : Env) (q : Process) (x : Shape) → NodeOf (untrusted k) p id e q → slice_get (spelled k p) id ≡ Some x → premises_at x ≡ premises q
premises_are k p id e q x node at =
    let w = located 0 (reached_of node) in
    let z : 0 + id ≡ id = omega arith in
    shaped id e q x (drop (suc id) (spelled k p)) w.rest (sym (drop_get (spelled k p) id x at) ∙ ap (λ k. drop id (spelled k p)) (sym (length_untrusted k)) ∙ w.shapes ∙ ap (λ j. flat j (length e) (numbered [] (length e) q) ++ w.rest) z)

pub answered_at : (k : ℕ) (p : Process) (id : ℕ) (e env : Env) (r q : Process) (x : Shape) (l : List Answer) → NodeOf (untrusted k) p id e r → NodeOf (untrusted k) p id env q → slice_get (spelled k p) id ≡ Some x → AreAnswered e (premises_at x) l → AreAnswered env (premises q) l
answered_at k p id e env r q x l m n at h =
    let w = one_node m n in
    subst (λ e. AreAnswered e (premises q) l) w.0 (subst (λ qs. AreAnswered e qs l) (premises_are k p id e q x (subst (λ e. NodeOf (untrusted k) p id e q) (sym w.0) n) at) h)
