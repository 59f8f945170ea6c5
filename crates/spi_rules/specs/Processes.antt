-- The typing rules of processes.
use Rattle.std.specs.Prelude.{ℕ, suc, List, [], ◌∷◌, length, ⊤}
use Rattle.spi_effect.specs.Effect.{Within, IsSum, IsDifference, IsGreater, AllMany}
use Rattle.spi_rules.specs.Environment.{Env, extended, opened, opened_two, opened_ty}
use Rattle.spi_rules.specs.Good.{GoodEffect, GoodTy}
use Rattle.spi_rules.specs.Messages.{Cast, cast_of, HasType, IsLabel}
use Rattle.spi_term.specs.Lists.{At, In}
use Rattle.spi_term.specs.Names.{EffectAvoids}
use Rattle.spi_term.specs.Substitution.{ty_put}
use Rattle.spi_term.specs.Term.{Message, name, ends, checks, many, Effect, Ty, un, unit_ty, pair_ty, sum_ty, key, nonce, Process, send, recv, serve, split, select, branch, decrypt, check, begin, end, end_many, cast, fresh, par, stop}

-- the key of `z`: z is a name of a Nonce type, or was cast to one
pub data IsNonce (casts : List Cast) (env : Env) : Message → Effect → Type 0 where
  nonce_name : {x : ℕ} {fs : Effect} → At env x (nonce fs) → IsNonce casts env (name x) fs
  nonce_cast : {m : Message} {fs : Effect} → In (cast_of m fs) casts → IsNonce casts env m fs

-- what `new` may make
abbrev pub IsGenerative : Ty → Type 0
IsGenerative un = ⊤
IsGenerative unit_ty = ⊥
IsGenerative (pair_ty t u) = ⊥
IsGenerative (sum_ty t u) = ⊥
IsGenerative (key t) = ⊤
IsGenerative (nonce es) = ⊥

-- A process P has an effect es in an environment E: E ⊢ P : es. Above each rule stands its paper form: what is asked ⟹
-- what follows, both in E where nothing stands before ⊢. A rule that computes an effect (a sum, a difference, a greatest
-- count) concludes with any list of the counts that it states; the others conclude with the very list of their premise,
-- with the empty one where no premise has an effect, and ProcSub with the list that it writes.
pub data HasEffect (casts : List Cast) : Env → Process → Effect → Type 0 where
  -- ProcStop:  ⟹  stop : []
  proc_stop : {env : Env} → HasEffect casts env stop []
  -- ProcOut:  M : Un,  N : Un
  --     ⟹  out M N : []
  proc_out : {env : Env} {m n : Message}
      → HasType casts env m un → HasType casts env n un → HasEffect casts env (send m n) []
  -- ProcIn:  M : Un,  E, x: Un ⊢ P : es,  x not in es
  --     ⟹  inp M (x: Un); P : es
  proc_in : {env : Env} {m : Message} {p : Process} {es : Effect}
      → HasType casts env m un → HasEffect casts (extended env un) (opened env p) es
      → EffectAvoids (length env) es → HasEffect casts env (recv m un p) es
  -- ProcRepeat:  M : Un,  E, x: Un ⊢ P : es,  each atom of es is a many,  x not in es
  --     ⟹  repeat inp M (x: Un); P : es
  proc_repeat : {env : Env} {m : Message} {p : Process} {es : Effect}
      → HasType casts env m un → HasEffect casts (extended env un) (opened env p) es
      → AllMany es → EffectAvoids (length env) es → HasEffect casts env (serve m un p) es
  -- ProcSplit:  M : (x: T, U),  E, x: T, y: U ⊢ P : es,  (x: T, U) is good,  x and y not in es
  --     ⟹  split M is (x: T, y: U); P : es
  proc_split : {env : Env} {m : Message} {t u : Ty} {p : Process} {es : Effect}
      → HasType casts env m (pair_ty t u)
      → HasEffect casts (extended (extended env t) (opened_ty env u)) (opened_two env p) es
      → GoodTy casts env (pair_ty t u) → EffectAvoids (length env) es → EffectAvoids (suc (length env)) es
      → HasEffect casts env (split m t u p) es
  -- ProcSplitUn:  M : Un,  E, x: Un, y: Un ⊢ P : es,  x and y not in es
  --     ⟹  split M is (x: Un, y: Un); P : es
  proc_split_un : {env : Env} {m : Message} {p : Process} {es : Effect}
      → HasType casts env m un → HasEffect casts (extended (extended env un) un) (opened_two env p) es
      → EffectAvoids (length env) es → EffectAvoids (suc (length env)) es
      → HasEffect casts env (split m un un p) es
  -- ProcMatch:  M : (x: T, U),  N : T,  E, y: U{x := N} ⊢ P : es,  (x: T, U) is good,  y not in es
  --     ⟹  match M is (x: T = N, y: U); P : es
  proc_match : {env : Env} {m n : Message} {t u : Ty} {p : Process} {es : Effect}
      → HasType casts env m (pair_ty t u) → HasType casts env n t
      → HasEffect casts (extended env (ty_put n u)) (opened env p) es
      → GoodTy casts env (pair_ty t u) → EffectAvoids (length env) es
      → HasEffect casts env (select m t n u p) es
  -- ProcMatchUn:  M : Un,  N : Un,  E, y: Un ⊢ P : es,  y not in es
  --     ⟹  match M is (x: Un = N, y: Un); P : es
  proc_match_un : {env : Env} {m n : Message} {p : Process} {es : Effect}
      → HasType casts env m un → HasType casts env n un
      → HasEffect casts (extended env un) (opened env p) es
      → EffectAvoids (length env) es → HasEffect casts env (select m un n un p) es
  -- ProcCase:  M : (T + U),  E, x: T ⊢ P : es,  E, y: U ⊢ Q : fs,  T, U are good,  x not in es,  y not in fs
  --     ⟹  case M is inl (x: T); P is inr (y: U); Q : the greater counts of es and fs
  proc_case : {env : Env} {m : Message} {t u : Ty} {p q : Process} {es fs rs : Effect}
      → HasType casts env m (sum_ty t u)
      → HasEffect casts (extended env t) (opened env p) es
      → HasEffect casts (extended env u) (opened env q) fs → GoodTy casts env t
      → GoodTy casts env u → EffectAvoids (length env) es → EffectAvoids (length env) fs → IsGreater rs es fs
      → HasEffect casts env (branch m t p u q) rs
  -- ProcCaseUn:  M : Un,  E, x: Un ⊢ P : es,  E, y: Un ⊢ Q : fs,  x not in es,  y not in fs
  --     ⟹  case M is inl (x: Un); P is inr (y: Un); Q : the greater counts of es and fs
  proc_case_un : {env : Env} {m : Message} {p q : Process} {es fs rs : Effect}
      → HasType casts env m un → HasEffect casts (extended env un) (opened env p) es
      → HasEffect casts (extended env un) (opened env q) fs
      → EffectAvoids (length env) es → EffectAvoids (length env) fs → IsGreater rs es fs
      → HasEffect casts env (branch m un p un q) rs
  -- ProcDecrypt:  M : Un,  N : Key(T),  E, x: T ⊢ P : es,  T is good,  x not in es
  --     ⟹  decrypt M is {x: T}N; P : es
  proc_decrypt : {env : Env} {m n : Message} {t : Ty} {p : Process} {es : Effect}
      → HasType casts env m un → HasType casts env n (key t)
      → HasEffect casts (extended env t) (opened env p) es → GoodTy casts env t
      → EffectAvoids (length env) es → HasEffect casts env (decrypt m t n p) es
  -- ProcDecryptUn:  M : Un,  N : Un,  E, x: Un ⊢ P : es,  x not in es
  --     ⟹  decrypt M is {x: Un}N; P : es
  proc_decrypt_un : {env : Env} {m n : Message} {p : Process} {es : Effect}
      → HasType casts env m un → HasType casts env n un
      → HasEffect casts (extended env un) (opened env p) es
      → EffectAvoids (length env) es → HasEffect casts env (decrypt m un n p) es
  -- ProcCheck:  M : Un,  P : es,  z : Nonce fs
  --     ⟹  check M is z; P : (es - fs) + [check M]
  proc_check : {env : Env} {m n : Message} {p : Process} {es fs ds rs : Effect}
      → HasType casts env m un → HasEffect casts env p es → IsNonce casts env n fs → IsDifference ds es fs
      → IsSum rs ds (checks m ∷ []) → HasEffect casts env (check m n p) rs
  -- ProcCheckUn:  M : Un,  N : Un,  P : es
  --     ⟹  check M is N; P : es
  proc_check_un : {env : Env} {m n : Message} {p : Process} {es : Effect}
      → HasType casts env m un → HasType casts env n un → HasEffect casts env p es
      → HasEffect casts env (check m n p) es
  -- ProcBegin:  P : es,  L is a label
  --     ⟹  begin L; P : es - [end L, many L]
  proc_begin : {env : Env} {m : Message} {p : Process} {es rs : Effect}
      → HasEffect casts env p es → IsLabel casts env m → IsDifference rs es (ends m ∷ many m ∷ [])
      → HasEffect casts env (begin m p) rs
  -- ProcEnd:  P : es,  L is a label
  --     ⟹  end L; P : es + [end L]
  proc_end : {env : Env} {m : Message} {p : Process} {es rs : Effect}
      → HasEffect casts env p es → IsLabel casts env m → IsSum rs es (ends m ∷ [])
      → HasEffect casts env (end m p) rs
  -- ProcEndMany:  P : es,  L is a label
  --     ⟹  endmany L; P : es + [many L]
  proc_end_many : {env : Env} {m : Message} {p : Process} {es rs : Effect}
      → HasEffect casts env p es → IsLabel casts env m → IsSum rs es (many m ∷ [])
      → HasEffect casts env (end_many m p) rs
  -- ProcCast:  M : Un,  E, x: Nonce fs ⊢ P : es,  Nonce fs is good,  x not in es
  --     ⟹  cast M is (x: Nonce fs); P : es + fs
  proc_cast : {env : Env} {m : Message} {p : Process} {es fs rs : Effect}
      → HasType casts env m un
      → HasEffect casts (extended env (nonce fs)) (opened env p) es
      → GoodTy casts env (nonce fs) → EffectAvoids (length env) es → IsSum rs es fs
      → HasEffect casts env (cast m (nonce fs) p) rs
  -- ProcCastUn:  M : Un,  E, x: Un ⊢ P : es,  x not in es
  --     ⟹  cast M is (x: Un); P : es
  proc_cast_un : {env : Env} {m : Message} {p : Process} {es : Effect}
      → HasType casts env m un → HasEffect casts (extended env un) (opened env p) es
      → EffectAvoids (length env) es → HasEffect casts env (cast m un p) es
  -- ProcNew:  E, x: T ⊢ P : es,  T is Un or a Key type, and good,  x not in es - [check x]
  --     ⟹  new (x: T); P : es - [check x]
  proc_new : {env : Env} {t : Ty} {p : Process} {es rs : Effect}
      → HasEffect casts (extended env t) (opened env p) es → IsGenerative t
      → GoodTy casts env t → IsDifference rs es (checks (name (length env)) ∷ [])
      → EffectAvoids (length env) rs → HasEffect casts env (fresh t p) rs
  -- ProcPar:  P : es,  Q : fs
  --     ⟹  P | Q : es + fs
  proc_par : {env : Env} {p q : Process} {es fs rs : Effect}
      → HasEffect casts env p es → HasEffect casts env q fs → IsSum rs es fs
      → HasEffect casts env (par p q) rs
  -- ProcSub:  P : es,  es is within fs,  fs is good
  --     ⟹  P : fs
  proc_sub : {env : Env} {p : Process} {es fs : Effect}
      → HasEffect casts env p es → Within es fs → GoodEffect casts env fs → HasEffect casts env p fs
