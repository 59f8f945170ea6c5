-- The typing rules of messages, and labels.
use Rattle.std.specs.Prelude.{ℕ, List}
use Rattle.spi_rules.specs.Environment.{Env}
use Rattle.spi_term.specs.Lists.{At, In}
use Rattle.spi_term.specs.SameTy.{SameTy}
use Rattle.spi_term.specs.Substitution.{ty_put}
use Rattle.spi_term.specs.Term.{Message, name, unit, pair, in_left, in_right, enc, hash, Effect, Ty, un, unit_ty, pair_ty, sum_ty, key, nonce}

-- a message that was cast, and the effect of the Nonce type that it was cast to. A program's own text has none: these come up as it runs
pub record Cast : Type 0 where
  pub subject : Message
  pub effect : Effect

abbrev pub cast_of : Message → Effect → Cast
cast_of m fs = record { subject = m; effect = fs }

mutual
  -- A message M has a type T in an environment E: M : T. Above each rule stands its paper form: what is asked ⟹ what follows.
  pub data HasType (casts : List Cast) (env : Env) : Message → Ty → Type 0 where
    -- MsgName:  x: S is in E,  S is the same as T  ⟹  x : T
    msg_name : {x : ℕ} {s t : Ty} → At env x s → SameTy s t → HasType casts env (name x) t
    -- MsgUnit:  ⟹  () : ()
    msg_unit : HasType casts env unit unit_ty
    -- MsgUnitUn:  ⟹  () : Un
    msg_unit_un : HasType casts env unit un
    -- MsgPair:  M : T,  N : U{x := M}  ⟹  (M, N) : (x: T, U)
    msg_pair : {m n : Message} {t u : Ty}
        → HasType casts env m t → HasType casts env n (ty_put m u)
        → HasType casts env (pair m n) (pair_ty t u)
    -- MsgPairUn:  M : Un,  N : Un  ⟹  (M, N) : Un
    msg_pair_un : {m n : Message} → HasType casts env m un → HasType casts env n un
        → HasType casts env (pair m n) un
    -- MsgInl:  M : T  ⟹  inl M : (T + U)
    msg_inl : {m : Message} {t u : Ty} → HasType casts env m t → HasType casts env (in_left m) (sum_ty t u)
    -- MsgInlUn:  M : Un  ⟹  inl M : Un
    msg_inl_un : {m : Message} → HasType casts env m un → HasType casts env (in_left m) un
    -- MsgInr:  M : U  ⟹  inr M : (T + U)
    msg_inr : {m : Message} {t u : Ty} → HasType casts env m u → HasType casts env (in_right m) (sum_ty t u)
    -- MsgInrUn:  M : Un  ⟹  inr M : Un
    msg_inr_un : {m : Message} → HasType casts env m un → HasType casts env (in_right m) un
    -- MsgEnc:  M : T,  x: Key(T) is in E  ⟹  {M}x : Un
    msg_enc : {m : Message} {x : ℕ} {t : Ty}
        → HasType casts env m t → At env x (key t) → HasType casts env (enc m (name x)) un
    -- MsgEncUn:  M : Un,  N : Un  ⟹  {M}N : Un
    msg_enc_un : {m n : Message} → HasType casts env m un → HasType casts env n un
        → HasType casts env (enc m n) un
    -- MsgHash:  M is a label  ⟹  hash(M) : Un
    msg_hash : {m : Message} → IsLabel casts env m → HasType casts env (hash m) un
    -- (as a process runs):  M was cast to Nonce fs,  Nonce fs is the same as T  ⟹  M : T
    msg_cast : {m : Message} {fs : Effect} {t : Ty}
        → In (cast_of m fs) casts → SameTy (nonce fs) t → HasType casts env m t

  -- a message is a label
  pub data IsLabel (casts : List Cast) (env : Env) : Message → Type 0 where
    label_name : {x : ℕ} {t : Ty} → At env x t → IsLabel casts env (name x)
    label_unit : IsLabel casts env unit
    label_pair : {m n : Message} → IsLabel casts env m → IsLabel casts env n → IsLabel casts env (pair m n)
    label_inl : {m : Message} → IsLabel casts env m → IsLabel casts env (in_left m)
    label_inr : {m : Message} → IsLabel casts env m → IsLabel casts env (in_right m)
    label_enc : {m n : Message} → HasType casts env (enc m n) un → IsLabel casts env (enc m n)
    label_hash : {m : Message} → IsLabel casts env m → IsLabel casts env (hash m)
