-- Environments: the list of the types of names 0, 1 and so on.
use Rattle.std.specs.Prelude.{ℕ, suc, List, [], ◌∷◌, ◌++◌, length, replicate}
use Rattle.spi_term.specs.Lists.{At}
use Rattle.spi_term.specs.Names.{TyOver}
use Rattle.spi_term.specs.Substitution.{ty_put, process_put, process_put_two}
use Rattle.spi_term.specs.Term.{name, Process, Ty, un}

abbrev pub Env : Type 0
Env = List Ty

-- env with one more name
abbrev pub extended : Env → Ty → Env
extended env t = env ++ t ∷ []

-- what a binder binds is opened with the next name, and what two bind with the next two
abbrev pub opened : Env → Process → Process
opened env p = process_put (name (length env)) p

abbrev pub opened_two : Env → Process → Process
opened_two env p = process_put_two (name (length env)) (name (suc (length env))) p

-- the type under one binder, opened with the next name
abbrev pub opened_ty : Env → Ty → Ty
opened_ty env t = ty_put (name (length env)) t

-- k names of type Un
abbrev pub untrusted : ℕ → Env
untrusted k = replicate k un

-- No type of env has a loose index. A type without one is over some number of names, and env is finite: so the number
-- `above` is no condition.
pub record HasNoLooseIndex (env : Env) : Type 0 where
  pub above : ℕ
  pub types : (x : ℕ) (t : Ty) → At env x t → TyOver above t
