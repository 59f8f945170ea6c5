-- Forms as they are entered: the types that a form binds, and its processes with their binders opened.
use Rattle.std.specs.Prelude.{ℕ, zero, suc, Bool, true, false, [], ◌∷◌, length, Option, Some, None}
use Rattle.spi_term.specs.Term.{name, Effect, Ty, nonce, Prefix, Recvs, Serves, Splits, Selects, Decrypts, Checks, Begins, Ends, EndManys, Casts, Freshes, Fork, Branches, Pars, Process}
use Rattle.spi_term.specs.Substitution.{process_map, put, ty_put}
use Rattle.spi_rules.specs.Environment.{Env}

-- the process under n binders, the outermost opened with the name k, the next with k + 1 and so on
abbrev pub enter : ℕ → ℕ → Process → Process
enter zero k p = p
enter (suc n) k p = enter n (suc k) (process_map (put (name k)) n p)

-- the types of the names that a form binds
abbrev pub more : Env → Prefix → Env
more e (Recvs m t) = t ∷ []
more e (Serves m t) = t ∷ []
more e (Splits m t u) = t ∷ (ty_put (name (length e)) u ∷ [])
more e (Selects m t n u) = ty_put n u ∷ []
more e (Decrypts m t n) = t ∷ []
more e (Checks m n) = []
more e (Begins m) = []
more e (Ends m) = []
more e (EndManys m) = []
more e (Casts m t) = t ∷ []
more e (Freshes t) = t ∷ []

abbrev pub on_first : Fork → Env
on_first Pars = []
on_first (Branches m t u) = t ∷ []

abbrev pub on_rest : Fork → Env
on_rest Pars = []
on_rest (Branches m t u) = u ∷ []

-- the effect of a type that is cast to
abbrev pub cast_effect_of : Ty → Effect
cast_effect_of (nonce es) = es
cast_effect_of _ = []

-- whether there is an effect
abbrev pub is_nonce : Option Effect → Bool
is_nonce None = false
is_nonce (Some es) = true
