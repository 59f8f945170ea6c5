-- The first point at which something is wrong.
use Rattle.std.specs.Prelude.{◌≡◌, ℕ, ◌+◌, List, [], ◌∷◌, ◌++◌, Some, None, ⊤}
use Rattle.spi_tree.specs.Trees as t
use Rattle.spi_scope.specs.declared.fault.ScopeFault.{ScopeFault}
use Rattle.spi_scope.specs.Points.{Point, fault_at, added, in_order, file_points}

-- the running count behind these points
abbrev pub count_points : List Point → ℕ
count_points [] = 0
count_points (p ∷ ps) = added p + count_points ps

-- nothing is wrong at these points, before the first of which the running count is c
abbrev pub Clean : ℕ → List Point → Type 0
Clean c [] = ⊤
Clean c (p ∷ ps) = (fault_at c p ≡ None) × Clean (c + added p) ps

-- this fault is what is wrong at the first point where something is
pub record IsFirst (points : List Point) (f : ScopeFault) : Type 0 where
  pub before : List Point
  pub at : Point
  pub after : List Point
  pub cut : points ≡ before ++ at ∷ after
  pub clean : Clean 0 before
  pub wrong : fault_at (count_points before) at ≡ Some f

-- nothing is wrong with the tree, and the first fault of the tree
abbrev pub IsClean : t.File → Type 0
IsClean tree = Clean 0 (in_order (file_points tree))

abbrev pub HasFirst : t.File → ScopeFault → Type 0
HasFirst tree f = IsFirst (in_order (file_points tree)) f
