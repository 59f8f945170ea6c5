-- The least effect of a process that stands in a node.
use Rattle.std.proofs.Common.{◌≡◌, ⊎_elim, subst, ℕ, length}
use Rattle.spi_term.specs.Lists.{In}
use Rattle.spi_term.specs.Names.{ProcessOver}
use Rattle.spi_term.specs.Term.{Atom, Effect, Process}
use Rattle.spi_effect.specs.Effect.{Within, IsDifference}
use Rattle.spi_effect.proofs.Laws.{within_trans, within_in, within_difference, difference_within}
use Rattle.spi_rules.specs.Environment.{Env}
use Rattle.spi_rules.specs.Derivations.{Derivable}
use Rattle.spi_rules.specs.Least.{Least}
use Rattle.spi_rules.specs.Blocking.{Child, node_root, node_below, HasSome}
use Rattle.spi_infer.proofs.Nodes.{reached_of}
use Rattle.spi_infer.proofs.Located.{over_reached}
use Rattle.spi_infer.proofs.Descending.{one_node}
use Rattle.spi_infer.proofs.Deriving.{least_or_none}
use Rattle.spi_fault.specs.Passing.{HasLeastBehind}

pub child_over : {env env' : Env} {p p' : Process} {i : ℕ} → ProcessOver (length env) p → Child env p i env' p' → ProcessOver (length env') p'
child_over over c = over_reached (reached_of (node_below c node_root)) over

-- where it has an effect at all
pub has_least : {env env' : Env} {p p' : Process} {i : ℕ} → ProcessOver (length env) p → Child env p i env' p' → HasSome env' p' → (es : Effect) × Least env' p' es
has_least {env' = env'} {p' = p'} over c some =
    let o = child_over over c in
    let none : ((es : Effect) → Derivable env' p' es → ⊥) → (es : Effect) × Least env' p' es
    = λ none. absurd (none some.0 (record { over = o; has = some.1 })) in
    ⊎_elim (λ (l : (es : Effect) × Least env' p' es). l) none (least_or_none env' p' o)

-- a child is told by its place
one_child : {env e f : Env} {p q r : Process} {i : ℕ} → Child env p i e q → Child env p i f r → (e ≡ f) × (q ≡ r)
one_child c d = one_node (node_below c node_root) (node_below d node_root)

least_at : {e f : Env} {q r : Process} {es : Effect} → e ≡ f → q ≡ r → Least e q es → Least f r es
least_at {e} {f} {q} {r} {es} a b l = subst (λ q. Least f q es) b (subst (λ e. Least e q es) a l)

-- and so its least effect is, up to counts
pub follows_within : {env : Env} {p : Process} {i : ℕ} {es fs : Effect} → HasLeastBehind env p i es → HasLeastBehind env p i fs → Within es fs
follows_within f g =
    let same = one_child g.child f.child in
    f.least.least _ (least_at same.0 same.1 g.least).derivable

pub follows_in : {env : Env} {p : Process} {i : ℕ} {es fs : Effect} {a : Atom} → HasLeastBehind env p i es → HasLeastBehind env p i fs → In a es → In a fs
follows_in f g i = within_in (follows_within f g) i

-- the same where something is taken off both
pub less_in : {ds cs es fs gs : Effect} {a : Atom} → IsDifference ds es gs → IsDifference cs fs gs → Within es fs → In a ds → In a cs
less_in d c w i = within_in (within_difference d (within_trans w (difference_within c))) i
