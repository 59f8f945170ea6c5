-- Why no rule is for a question.
use Rattle.std.specs.Prelude.{ℕ, ⊤}
use Rattle.spi_blame.specs.Blaming.{Question, typed, subject}
use Rattle.spi_rules.specs.Environment.{Env}
use Rattle.spi_term.specs.Lists.{At}
use Rattle.spi_term.specs.SameTy.{SameTy}
use Rattle.spi_term.specs.Term.{Message, bound, name, unit, pair, in_left, in_right, Ty, un, unit_ty, pair_ty, sum_ty}

-- A message of this outermost form may have a type of this one: a name any, each other message Un, and (), (M, N), inl(M)
-- and inr(M) those of their own forms
abbrev pub MayHaveType : Message → Ty → Type 0
MayHaveType (name x) t = ⊤
MayHaveType (bound i) t = ⊥
MayHaveType m un = ⊤
MayHaveType unit unit_ty = ⊤
MayHaveType (pair m n) (pair_ty t u) = ⊤
MayHaveType (in_left m) (sum_ty t u) = ⊤
MayHaveType (in_right m) (sum_ty t u) = ⊤
MayHaveType _ _ = ⊥

-- an index with no binder, or a name that is not in scope
pub data IsUnscoped (env : Env) : Message → Type 0 where
  loose : {i : ℕ} → IsUnscoped env (bound i)
  unknown : {x : ℕ} → ((s : Ty) → At env x s → ⊥) → IsUnscoped env (name x)

-- a name has another type than the one that is asked, or no message of this form has such a type
pub data Mismatch (env : Env) : Question → Type 0 where
  has_other : {x : ℕ} {s t : Ty} → At env x s → (SameTy s t → ⊥) → Mismatch env (typed (name x) t)
  never_has : {m : Message} {t : Ty} → (MayHaveType m t → ⊥) → Mismatch env (typed m t)

-- why no rule is for a question
pub data Reason (env : Env) : Question → Type 0 where
  mismatched : {q : Question} → Mismatch env q → Reason env q
  unscoped : {q : Question} → IsUnscoped env (subject q) → Reason env q
