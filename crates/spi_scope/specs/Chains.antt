-- Chains of spellings that share what they have in common: a link is a spelling and the number of an earlier chain.
use Rattle.std.specs.Prelude.{ℕ, ◌+◌, ◌<◌, List, [], ◌∷◌, ◌++◌, map, Option, Some, None, ⊤, slice_get, refl}
use Rattle.std.specs.Coded.{Coded, coded_list, coded×, code_by}
use Rattle.spi_scope.specs.Scope.{Word, Names}
use Rattle.spi_scope.specs.Table.{coded_names}
use Rattle.spi_scope.specs.declared.trail.Link.{Link}

-- the chains so far, and those that were noted
pub record Chained : Type 0 where
  pub chains : List Names
  pub noted : List Names

abbrev pub coded_chained : Coded Chained
coded_chained =
    code_by (List Names × List Names) (coded× (coded_list coded_names) (coded_list coded_names))
    (λ s. (s.chains, s.noted)) (λ p. record { chains = p.0; noted = p.1 }) (λ _. refl)

pub record Pair : Type 0 where
  pub word : Word
  pub outer : ℕ

abbrev pub link : Link → Pair
link l = record { word = l.word; outer = l.outer }

abbrev pub found_names : Option Names → Names
found_names None = []
found_names (Some xs) = xs

-- the chain with this number, and none where there isn't one
abbrev pub chain_at : List Names → ℕ → Names
chain_at cs i = found_names (slice_get cs i)

-- the chains so far, and those of more links, each of which leads to an earlier chain
abbrev pub longer : List Names → List Pair → List Names
longer cs [] = cs
longer cs (l ∷ ls) = longer (cs ++ (l.word ∷ chain_at cs l.outer) ∷ []) ls

-- chain 0 has no names
abbrev pub chains : List Pair → List Names
chains ls = longer ([] ∷ []) ls

-- each link leads to a chain before its own
abbrev pub LeadBack : ℕ → List Pair → Type 0
LeadBack n [] = ⊤
LeadBack n (l ∷ ls) = (l.outer < n) × LeadBack (n + 1) ls

abbrev pub all_at : List Names → List ℕ → List Names
all_at cs is = map (chain_at cs) is

abbrev pub AreNumbersBelow : ℕ → List ℕ → Type 0
AreNumbersBelow n [] = ⊤
AreNumbersBelow n (i ∷ is) = (i < n) × AreNumbersBelow n is
