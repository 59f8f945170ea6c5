-- Good effects and good types.
use Rattle.std.specs.Prelude.{List, [], ◌∷◌}
use Rattle.spi_rules.specs.Environment.{Env, extended, opened_ty}
use Rattle.spi_rules.specs.Messages.{Cast, HasType, IsLabel}
use Rattle.spi_term.specs.Term.{Message, ends, checks, many, Effect, Ty, un, unit_ty, pair_ty, sum_ty, key, nonce}

-- an effect is good: its labels are labels, and what is checked has type Un
pub data GoodEffect (casts : List Cast) (env : Env) : Effect → Type 0 where
  good_none : GoodEffect casts env []
  good_ends : {m : Message} {es : Effect}
      → IsLabel casts env m → GoodEffect casts env es → GoodEffect casts env (ends m ∷ es)
  good_many : {m : Message} {es : Effect}
      → IsLabel casts env m → GoodEffect casts env es → GoodEffect casts env (many m ∷ es)
  good_checks : {m : Message} {es : Effect}
      → HasType casts env m un → GoodEffect casts env es → GoodEffect casts env (checks m ∷ es)

-- a type is good
pub data GoodTy (casts : List Cast) : Env → Ty → Type 0 where
  good_un : {env : Env} → GoodTy casts env un
  good_unit : {env : Env} → GoodTy casts env unit_ty
  good_pair : {env : Env} {t u : Ty}
      → GoodTy casts env t → GoodTy casts (extended env t) (opened_ty env u)
      → GoodTy casts env (pair_ty t u)
  good_sum : {env : Env} {t u : Ty} → GoodTy casts env t → GoodTy casts env u → GoodTy casts env (sum_ty t u)
  good_key : {env : Env} {t : Ty} → GoodTy casts env t → GoodTy casts env (key t)
  good_nonce : {env : Env} {es : Effect} → GoodEffect casts env es → GoodTy casts env (nonce es)
