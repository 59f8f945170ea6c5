-- Tables of the places that wait on each channel, as places change.
use Rattle.std.specs.Prelude.{◌≡◌, ◌≤◌, ⊤, ℕ, suc, Bool, false, List, [], ◌∷◌, ◌++◌, filter, if◌then◌else◌, nat_lt, Option}
use Rattle.std.specs.Global.{Vec}
use Rattle.spi_replay.specs.declared.waits.Wait.{Wait}
use Rattle.spi_replay.specs.declared.waits.Wait.TheVariants.{Puts, Takes, TakesAgain}
use Rattle.spi_replay.specs.Indexed.{out_channel, in_channel, is_on, or_none}

-- an ascending list whose first number is i at least
abbrev pub Rises : ℕ → List ℕ → Type 0
Rises i [] = ⊤
Rises i (x ∷ xs) = (i ≤ x) × Rises (suc x) xs

-- each list of a table ascends
abbrev pub AllRise : (ℕ → Option (Vec ℕ)) → Type 0
AllRise t = (c : ℕ) → Rises 0 (or_none (t c))

-- an ascending list, with place k or without it
abbrev pub with_place : ℕ → Bool → List ℕ → List ℕ
with_place k on is =
    filter (λ i. nat_lt i k) is ++ ((if on then k ∷ [] else []) ++ filter (λ i. nat_lt k i) is)

-- the table u has the lists of t, where that of a channel, if there is one, has place k or hasn't it
abbrev pub SetsPlace : ℕ → Bool → Option ℕ → (ℕ → Option (Vec ℕ)) → (ℕ → Option (Vec ℕ)) → Type 0
SetsPlace k on o t u = (c : ℕ)
    → or_none (u c) ≡ (if is_on c o then with_place k on (or_none (t c)) else or_none (t c))

-- two tables have the same lists
abbrev pub AreAlike : (ℕ → Option (Vec ℕ)) → (ℕ → Option (Vec ℕ)) → Type 0
AreAlike t u = (c : ℕ) → or_none (u c) ≡ or_none (t c)

-- whether they wait on one channel, and on the same side of it
abbrev pub wait_alike : Wait → Wait → Bool
wait_alike (Puts c d) w = is_on c.place (out_channel w)
wait_alike (Takes c b) w = is_on c.place (in_channel w)
wait_alike (TakesAgain c b) w = is_on c.place (in_channel w)
wait_alike v w = false
