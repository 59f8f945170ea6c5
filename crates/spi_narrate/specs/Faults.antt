-- What is tested of a narration that is read, in reading order: shared names, roles and lines against their limits, roles
-- against those before them, and the roles that lines name. The first fault is answered.
use Rattle.std.specs.Prelude.{◌≡◌, ◌≤◌, ◌⊎◌, ◌+◌, ℕ, List, [], ◌∷◌, ◌++◌, length}
use Rattle.spi_text.specs.declared.lines.Span.{Span}
use Rattle.spi_tree.specs.declared.tree.SWord.{SWord}
use Rattle.spi_heading.specs.Headings.{Shared}
use Rattle.spi_narrate.specs.declared.fault.NarrateFault.{NarrateFault}
use Rattle.spi_narrate.specs.declared.fault.NarrateFault.TheVariants as faults
use Rattle.spi_narrate.specs.Narrations as n

abbrev pub shared_limit : ℕ
shared_limit = 16

abbrev pub role_limit : ℕ
role_limit = 8

abbrev pub line_limit : ℕ
line_limit = 200

-- A role that is declared behind these; a word that a line names, where these are the roles; or an item with its number from
-- 0, the limit and the number of all items of its kind.
pub data FaultItem : Type 0 where
  declares : List SWord → SWord → FaultItem
  speaks : List SWord → SWord → FaultItem
  counts : ℕ → ℕ → ℕ → Span → FaultItem

-- one of the words has this spelling
abbrev pub IsAmong : List SWord → SWord → Type 0
IsAmong [] w = ⊥
IsAmong (x ∷ xs) w = (x.word ≡ w.word) ⊎ IsAmong xs w

abbrev pub HasFault : FaultItem → Type 0
HasFault (declares before w) = IsAmong before w
HasFault (speaks roles w) = IsAmong roles w → ⊥
HasFault (counts i limit all s) = limit ≤ i

abbrev pub fault_of : FaultItem → NarrateFault
fault_of (declares before w) = faults.RoleTwice w.span w.word
fault_of (speaks roles w) = faults.UnknownRole w.span w.word
fault_of (counts i limit all s) = faults.NarrationTooLarge s all

-- ---- the items in reading order

abbrev pub shared_items : ℕ → ℕ → List Shared → List FaultItem
shared_items i all [] = []
shared_items i all (s ∷ ss) = counts i shared_limit all s.span ∷ shared_items (i + 1) all ss

-- at one place the fault with the lower number comes first: a role that is declared again, before one past the limit
abbrev pub role_items : ℕ → ℕ → List SWord → List SWord → List FaultItem
role_items i all before [] = []
role_items i all before (w ∷ ws) =
    declares before w ∷ counts i role_limit all w.span ∷ role_items (i + 1) all (before ++ w ∷ []) ws

-- and a sender that isn't declared, before a line past the limit
abbrev pub line_items : ℕ → ℕ → List SWord → List n.Line → List FaultItem
line_items i all roles [] = []
line_items i all roles (n.local s role x ∷ ls) =
    speaks roles role ∷ counts i line_limit all s ∷ line_items (i + 1) all roles ls
line_items i all roles (n.pass s from to channel m x ∷ ls) =
    speaks roles from ∷ counts i line_limit all s ∷ speaks roles to ∷ line_items (i + 1) all roles ls

abbrev pub items_of : n.Narration → List FaultItem
items_of x = shared_items 0 (length x.shared) x.shared
    ++ (role_items 0 (length x.roles) [] x.roles ++ line_items 0 (length x.lines) x.roles x.lines)

-- ---- the first fault of items, or none

abbrev pub IsFirstFault : List FaultItem → NarrateFault → Type 0
IsFirstFault [] f = ⊥
IsFirstFault (x ∷ xs) f = (HasFault x × (f ≡ fault_of x)) ⊎ ((HasFault x → ⊥) × IsFirstFault xs f)

abbrev pub IsFaultless : List FaultItem → Type 0
IsFaultless [] = Unit {0}
IsFaultless (x ∷ xs) = (HasFault x → ⊥) × IsFaultless xs
