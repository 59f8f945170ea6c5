-- What is to be done on the way through the nodes: for each process that is left, the types of the names that its form
-- binds there.
use Rattle.std.specs.Prelude.{◌≡◌, ℕ, ◌-◌, List, [], ◌∷◌, ◌++◌, length, map, reverse, take}
use denote.Ref.{Bor}
use Rattle.spi_term.specs.Term as Term
use Rattle.spi_term.specs.declared.term.Ty.{Ty}
use Rattle.spi_term.specs.View as View
use Rattle.spi_term.specs.Spelling.{Shape, leaf_at, prefix_at, fork_at}
use Rattle.spi_rules.specs.Derivations.{RuleUse}
use Rattle.spi_rules.specs.Deriv.{rule_use}
use Rattle.spi_rules.specs.declared.deriv.RuleUse as declared
use Rattle.spi_message.specs.Forms.{on_first, on_rest}
use Rattle.spi_deriv.specs.declared.agenda.Binding.{Binding}
use Rattle.spi_deriv.specs.declared.agenda.Binding.TheVariants as B
use Rattle.spi_deriv.specs.Uses.{leaf_uses, prefix_uses, fork_uses, binding}

-- the types that references point to
abbrev pub types_of : List (Bor Ty) → List Term.Ty
types_of rs = map (λ r. View.ty r.now) rs

-- these uses are pushed at the end
abbrev pub PushesUses : List declared.RuleUse → List declared.RuleUse → List RuleUse → Type 0
PushesUses old new us = map rule_use new ≡ map rule_use old ++ us

abbrev pub bound_types : Binding → List Term.Ty
bound_types B.None = []
bound_types (B.One t) = View.ty t.now ∷ []
bound_types (B.Two t u) = View.ty t.now ∷ (View.ty u.now ∷ [])

-- the stack grows at its end, and is read from there
abbrev pub top_types : List Binding → List (List Term.Ty)
top_types bs = reverse (map bound_types bs)

-- what the processes in a form bind
abbrev pub next_types : Shape → List (List Term.Ty)
next_types (leaf_at k l) = []
next_types (prefix_at k s b) = binding s ∷ []
next_types (fork_at k f a r) = on_first f ∷ (on_rest f ∷ [])

-- the uses of a node itself and of its messages
abbrev pub node_uses : List Term.Ty → Shape → List RuleUse
node_uses e (leaf_at k l) = leaf_uses e l
node_uses e (prefix_at k s b) = prefix_uses e s
node_uses e (fork_at k f a r) = fork_uses e f

-- the last on the stack is bound on top of the names that are in scope outside
pub record IsAgendaSettled (scope : ℕ) (b : List Term.Ty) (rest : List (List Term.Ty))
    (old new : List Term.Ty)
    (after : List (List Term.Ty)) : Type 0 where
  pub types : new ≡ take (scope - length b) old ++ b
  pub left : after ≡ rest

-- A node is passed: its uses are added, and the processes in it are to be done.
pub record IsPassed (scope : ℕ) (x : Shape) (b : List Term.Ty) (rest : List (List Term.Ty))
    (old new : List Term.Ty) (after : List (List Term.Ty)) (us vs : List RuleUse) : Type 0 where
  pub types : new ≡ take (scope - length b) old ++ b
  pub left : after ≡ next_types x ++ rest
  pub uses : vs ≡ us ++ node_uses new x
