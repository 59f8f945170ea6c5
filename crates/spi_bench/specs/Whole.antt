-- The whole process of shared types and parts, and what makes it derivable.
use Rattle.std.specs.Prelude.{◌↔◌, ℕ, suc, ◌+◌, length, List, [], ◌∷◌, ◌++◌, if◌then◌else◌, ◌==◌, ⊤}
use Rattle.spi_term.specs.Lists.{In}
use Rattle.spi_term.specs.Names.{TyOver, ProcessOver}
use Rattle.spi_term.specs.Substitution.{message_map, process_map}
use Rattle.spi_term.specs.Term.{Message, bound, name, checks, Effect, Ty, Process, fresh, par, stop}
use Rattle.spi_rules.specs.Environment.{Env, extended, untrusted}
use Rattle.spi_effect.specs.Effect.{Within}
use Rattle.spi_rules.specs.Derivations.{Derivable}
use Rattle.spi_rules.specs.Good.{GoodTy}
use Rattle.spi_rules.specs.Least.{Least}
use Rattle.spi_rules.specs.Processes.{IsGenerative}

-- the name k as the index of a binder that stands outside of d others
abbrev pub indexed_message : ℕ → ℕ → Message → Message
indexed_message k d m = message_map bound (λ x. if x == k then bound d else name x) m

-- new (x: T); P, where x is the name k in P
abbrev pub new_named : ℕ → Ty → Process → Process
new_named k t p = fresh t (process_map (indexed_message k) 0 p)

-- P1 | P2 and so on, or `stop` where there are none
abbrev pub together : List Process → Process
together [] = stop
together (p ∷ []) = p
together (p ∷ (q ∷ ps)) = par p (together (q ∷ ps))

-- new (x1: T1); up to new (xm: Tm); and then the parts, in which the shared names are k, k + 1 and so on
abbrev pub whole_process_of : ℕ → List Ty → List Process → Process
whole_process_of k [] ps = together ps
whole_process_of k (t ∷ ts) ps = new_named k t (whole_process_of (suc k) ts ps)

-- each type is closed over the names before it
abbrev pub AreOver : ℕ → List Ty → Type 0
AreOver k [] = ⊤
AreOver k (t ∷ ts) = TyOver k t × AreOver (suc k) ts

-- each type is one that `new` may make, and good in the environment of the names before it
abbrev pub AreShared : Env → List Ty → Type 0
AreShared env [] = ⊤
AreShared env (t ∷ ts) = IsGenerative t × GoodTy [] env t × AreShared (extended env t) ts

-- one `check x` for each shared name x
abbrev pub each_check : ℕ → List Ty → Effect
each_check k [] = []
each_check k (t ∷ ts) = checks (name k) ∷ each_check (suc k) ts

-- the sum of effects: their atoms, of which a `many` counts once
abbrev pub sum_of : List Effect → Effect
sum_of [] = []
sum_of (es ∷ ess) = es ++ sum_of ess

-- the least effects of the parts, one for each
abbrev pub AreLeast : Env → List Process → List Effect → Type 0
AreLeast env [] [] = ⊤
AreLeast env [] (es ∷ ess) = ⊥
AreLeast env (p ∷ ps) [] = ⊥
AreLeast env (p ∷ ps) (es ∷ ess) = Least env p es × AreLeast env ps ess

-- no effect is derivable for it
abbrev pub HasNone : Env → Process → Type 0
HasNone env p = (es : Effect) → Derivable env p es → ⊥

-- each process is over n names
abbrev pub AreAllOver : ℕ → List Process → Type 0
AreAllOver n ps = (p : Process) → In p ps → ProcessOver n p

-- the least effect of parts side by side is the sum of their least effects
abbrev pub SumIsLeast : Type 0
SumIsLeast = (env : Env) (ps : List Process) (ess : List Effect) → AreLeast env ps ess
    → Least env (together ps) (sum_of ess)

-- they have no effect exactly where one of them has none
abbrev pub OneHasNone : Type 0
OneHasNone =
    (env : Env) (ps : List Process) → AreAllOver (length env) ps
    → HasNone env (together ps) ↔ ((p : Process) × In p ps × HasNone env p)

-- each shared type is in order, each part has a least effect, and the sum of these is at most one `check x` for each shared
-- name x, and nothing else
abbrev pub ProcessesArePaid : ℕ → List Ty → List Process → Type 0
ProcessesArePaid k ts ps =
    AreShared (untrusted k) ts
    × ((ess : List Effect) × AreLeast (untrusted k ++ ts) ps ess × Within (sum_of ess) (each_check k ts))

-- the whole is derivable with no effect exactly there
abbrev pub PartsDecide : Type 0
PartsDecide =
    (k : ℕ) (ts : List Ty) (ps : List Process) → AreOver k ts → AreAllOver (k + length ts) ps
    → Derivable (untrusted k) (whole_process_of k ts ps) [] ↔ ProcessesArePaid k ts ps
