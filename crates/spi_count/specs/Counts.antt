-- Counts by key: how high each number is counted.
use Rattle.std.specs.Prelude.{◌≡◌, ℕ, ◌<◌, eqb, if◌then◌else◌, unwrap_or, Some}
use Rattle.std.specs.Ordering.{nat_cmp}
use Rattle.std.specs.BTreeMap.{BTreeMap, get}

-- no count is kept that is 0
abbrev pub ArePositive : BTreeMap ℕ ℕ → Type 0
ArePositive m = (k n : ℕ) → get nat_cmp m k ≡ Some n → 0 < n

-- how high a key is counted
abbrev pub count_of : BTreeMap ℕ ℕ → ℕ → ℕ
count_of m k = unwrap_or (get nat_cmp m k) 0

-- the key is counted so high, and each other as before
abbrev pub Sets : BTreeMap ℕ ℕ → BTreeMap ℕ ℕ → ℕ → ℕ → Type 0
Sets old new k n = (q : ℕ) → count_of new q ≡ (if eqb k q then n else count_of old q)

-- no key is counted
abbrev pub IsNothing : BTreeMap ℕ ℕ → Type 0
IsNothing m = (k : ℕ) → count_of m k ≡ 0
