-- The nodes that an opponent may have.
use Rattle.std.specs.Prelude.{◌≡◌, ℕ, ◌<◌, Some, slice_get, List, ⊤}
use Rattle.spi_term.specs.Term.{Prefix, Recvs, Serves, Splits, Selects, Decrypts, Checks, Begins, Ends, EndManys, Casts, Freshes, Fork, Branches, Pars}
use Rattle.spi_term.specs.Spelling.{Shape, leaf_at, prefix_at, fork_at}
use Rattle.spi_run.specs.Opponent.{IsUn}

-- a form that neither begins nor ends, with Un for each annotation
abbrev pub PrefixAllowed : Prefix → Type 0
PrefixAllowed (Recvs m t) = IsUn t
PrefixAllowed (Serves m t) = IsUn t
PrefixAllowed (Splits m t u) = IsUn t × IsUn u
PrefixAllowed (Selects m t n u) = IsUn t × IsUn u
PrefixAllowed (Decrypts m t n) = IsUn t
PrefixAllowed (Checks m n) = ⊤
PrefixAllowed (Begins m) = ⊥
PrefixAllowed (Ends m) = ⊥
PrefixAllowed (EndManys m) = ⊥
PrefixAllowed (Casts m t) = IsUn t
PrefixAllowed (Freshes t) = IsUn t

abbrev pub ForkAllowed : Fork → Type 0
ForkAllowed (Branches m t u) = IsUn t × IsUn u
ForkAllowed Pars = ⊤

abbrev pub Allowed : Shape → Type 0
Allowed (leaf_at k l) = ⊤
Allowed (prefix_at k s b) = PrefixAllowed s
Allowed (fork_at k f a r) = ForkAllowed f

-- the node with this number is the first in preorder that no opponent has
pub record IsFirstOffence (nodes : List Shape) (node : ℕ) : Type 0 where
  pub shape : Shape
  pub there : slice_get nodes node ≡ Some shape
  pub offends : Allowed shape → ⊥
  pub before : (i : ℕ) (earlier : Shape) → i < node → slice_get nodes i ≡ Some earlier → Allowed earlier
