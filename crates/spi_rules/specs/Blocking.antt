-- Nodes of a process with their reached environments, and the nodes at which typing blocks.
use Rattle.std.specs.Prelude.{ℕ, suc, [], ◌+◌}
use Rattle.spi_rules.specs.Environment.{Env, extended, opened, opened_two, opened_ty}
use Rattle.spi_rules.specs.Processes.{HasEffect}
use Rattle.spi_term.specs.Substitution.{ty_put}
use Rattle.spi_term.specs.Term.{Message, Effect, Ty, Process, recv, serve, split, select, branch, decrypt, check, begin, end, end_many, cast, fresh, par, process_size}

-- the process children of a process, each with how many nodes stand before it, and its environment
pub data Child : Env → Process → ℕ → Env → Process → Type 0 where
  child_recv : {env : Env} {m : Message} {t : Ty} {p : Process}
      → Child env (recv m t p) 1 (extended env t) (opened env p)
  child_serve : {env : Env} {m : Message} {t : Ty} {p : Process}
      → Child env (serve m t p) 1 (extended env t) (opened env p)
  child_split : {env : Env} {m : Message} {t u : Ty} {p : Process}
      → Child env (split m t u p) 1 (extended (extended env t) (opened_ty env u)) (opened_two env p)
  child_select : {env : Env} {m n : Message} {t u : Ty} {p : Process}
      → Child env (select m t n u p) 1 (extended env (ty_put n u)) (opened env p)
  child_left : {env : Env} {m : Message} {t u : Ty} {p q : Process}
      → Child env (branch m t p u q) 1 (extended env t) (opened env p)
  child_right : {env : Env} {m : Message} {t u : Ty} {p q : Process}
      → Child env (branch m t p u q) (suc (process_size p)) (extended env u) (opened env q)
  child_decrypt : {env : Env} {m n : Message} {t : Ty} {p : Process}
      → Child env (decrypt m t n p) 1 (extended env t) (opened env p)
  child_check : {env : Env} {m n : Message} {p : Process} → Child env (check m n p) 1 env p
  child_begin : {env : Env} {m : Message} {p : Process} → Child env (begin m p) 1 env p
  child_end : {env : Env} {m : Message} {p : Process} → Child env (end m p) 1 env p
  child_end_many : {env : Env} {m : Message} {p : Process} → Child env (end_many m p) 1 env p
  child_cast : {env : Env} {m : Message} {t : Ty} {p : Process}
      → Child env (cast m t p) 1 (extended env t) (opened env p)
  child_fresh : {env : Env} {t : Ty} {p : Process}
      → Child env (fresh t p) 1 (extended env t) (opened env p)
  child_first : {env : Env} {p q : Process} → Child env (par p q) 1 env p
  child_rest : {env : Env} {p q : Process} → Child env (par p q) (suc (process_size p)) env q

-- node number i of a process in preorder, with its reached environment and its process
pub data NodeOf : Env → Process → ℕ → Env → Process → Type 0 where
  node_root : {env : Env} {p : Process} → NodeOf env p 0 env p
  node_below : {env env' env'' : Env} {p p' p'' : Process} {i j : ℕ}
      → Child env p i env' p' → NodeOf env' p' j env'' p'' → NodeOf env p (i + j) env'' p''

-- the process has some effect
abbrev pub HasSome : Env → Process → Type 0
HasSome env p = (es : Effect) × HasEffect [] env p es

-- the process has no effect, and each of its process children has one
pub record BlocksAt (env : Env) (p : Process) : Type 0 where
  pub none : HasSome env p → ⊥
  pub children : (i : ℕ) (env' : Env) (p' : Process) → Child env p i env' p' → HasSome env' p'

-- node number i blocks
abbrev pub Blocks : Env → Process → ℕ → Type 0
Blocks env p i = (env' : Env) × ((p' : Process) × (NodeOf env p i env' p' × BlocksAt env' p'))
