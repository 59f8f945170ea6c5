-- Effects as multisets: how often an atom stands in an effect.
use Rattle.std.specs.Prelude.{◌≡◌, ℕ, ◌+◌, min, if◌then◌else◌, [], ◌∷◌}
use Rattle.spi_term.specs.Term.{Atom, ends, checks, many, same_atom, Effect}

-- how often an atom stands in a list
abbrev pub tally : Atom → Effect → ℕ
tally a [] = 0
tally a (b ∷ es) = (if same_atom a b then 1 else 0) + tally a es

-- a count, which for `many` is at most 1
abbrev pub cut : Atom → ℕ → ℕ
cut (ends m) n = n
cut (checks m) n = n
cut (many m) n = min n 1

abbrev pub count : Atom → Effect → ℕ
count a es = cut a (tally a es)

-- the counts of es are those of fs
pub record SameEffect (es fs : Effect) : Type 0 where
  pub at : (a : Atom) → count a es ≡ count a fs
