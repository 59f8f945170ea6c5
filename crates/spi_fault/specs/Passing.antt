-- When a check passes at a node.
use Rattle.std.specs.Prelude.{◌≡◌, ◌⊎◌, ℕ, ◌+◌, ◌<◌, ◌≤◌, [], ◌∷◌, length, ⊤}
use Rattle.spi_effect.specs.Effect.{IsDifference, IsMany}
use Rattle.spi_rules.specs.Environment.{Env}
use Rattle.spi_rules.specs.Messages.{HasType, IsLabel}
use Rattle.spi_rules.specs.Good.{GoodTy}
use Rattle.spi_rules.specs.Processes.{IsGenerative, IsNonce}
use Rattle.spi_rules.specs.Least.{Least}
use Rattle.spi_rules.specs.Blocking.{Child}
use Rattle.spi_term.specs.Lists.{In}
use Rattle.spi_term.specs.Names.{OfAtom, Avoids}
use Rattle.spi_term.specs.Term.{name, Atom, checks, Effect, Ty, un, unit_ty, pair_ty, sum_ty, key, nonce, Process}
use Rattle.spi_fault.specs.Checks.{Check, channel, datum, untrusted, good, scrutinee, sealed, first, key_of, nonce_of, label, generative, castable, served, stays, made}

-- what `cast` may cast to
abbrev pub IsCastable : Ty → Type 0
IsCastable un = ⊤
IsCastable unit_ty = ⊥
IsCastable (pair_ty t u) = ⊥
IsCastable (sum_ty t u) = ⊥
IsCastable (key t) = ⊥
IsCastable (nonce es) = ⊤

-- the least effect of the process that stands in this node, behind so many nodes
pub record HasLeastBehind (env : Env) (p : Process) (at : ℕ) (es : Effect) : Type 0 where
  pub inner : Env
  pub process : Process
  pub child : Child env p at inner process
  pub least : Least inner process es

-- one of so many names from n on is free in the atom
abbrev pub HasBoundName : ℕ → ℕ → Atom → Type 0
HasBoundName n k a = (x : ℕ) × (n ≤ x) × (x < n + k) × (OfAtom (Avoids x) a → ⊥)

-- an atom for which a check of effects fails
pub data Spoils (env : Env) (p : Process) : Check → Atom → Type 0 where
  not_many : {at : ℕ} {es : Effect} {a : Atom}
      → HasLeastBehind env p at es → In a es → (IsMany a → ⊥) → Spoils env p (served at) a
  escapes : {k at : ℕ} {es : Effect} {a : Atom}
      → HasLeastBehind env p at es → In a es → HasBoundName (length env) k a → Spoils env p (stays k at) a
  unchecked : {at : ℕ} {es ds : Effect} {a : Atom}
      → HasLeastBehind env p at es → IsDifference ds es (checks (name (length env)) ∷ []) → In a ds
      → HasBoundName (length env) 1 a
      → Spoils env p (made at) a

-- Where a typed rule and its Un form have different premises on a message, one of the two holds, with what it asks of
-- the annotations.
abbrev pub Passes : Env → Process → Check → Type 0
Passes env p (channel m) = HasType [] env m un
Passes env p (datum m) = HasType [] env m un
Passes env p (untrusted t) = t ≡ un
Passes env p (good t) = GoodTy [] env t
Passes env p (scrutinee m whole t u) = HasType [] env m whole ⊎ (HasType [] env m un × (t ≡ un) × (u ≡ un))
Passes env p (sealed m) = HasType [] env m un
Passes env p (first m t) = HasType [] env m t
Passes env p (key_of m t) = HasType [] env m (key t) ⊎ (HasType [] env m un × (t ≡ un))
Passes env p (nonce_of m) = ((fs : Effect) × IsNonce [] env m fs) ⊎ HasType [] env m un
Passes env p (label m) = IsLabel [] env m
Passes env p (generative t) = IsGenerative t
Passes env p (castable t) = IsCastable t
Passes env p (served at) = (a : Atom) → Spoils env p (served at) a → ⊥
Passes env p (stays k at) = (a : Atom) → Spoils env p (stays k at) a → ⊥
Passes env p (made at) = (a : Atom) → Spoils env p (made at) a → ⊥
