-- Tests of counts, of types and of free names, which compute. Proofs join each to the relation that it decides.
use Rattle.std.specs.Prelude.{ℕ, Bool, true, false, ◌&&◌, ◌||◌, eqb, leb, [], ◌∷◌}
use Rattle.spi_term.specs.Term.{Message, bound, name, unit, pair, in_left, in_right, enc, hash, Atom, ends, checks, many, Effect, Ty, un, unit_ty, pair_ty, sum_ty, key, nonce}
use Rattle.spi_term.specs.Counts.{count}

-- each atom of gs has a count in es that is at most that in fs
abbrev pub each_within : Effect → Effect → Effect → Bool
each_within [] es fs = true
each_within (a ∷ gs) es fs = leb (count a es) (count a fs) && each_within gs es fs

abbrev pub is_within : Effect → Effect → Bool
is_within es fs = each_within es es fs

abbrev pub same_ty : Ty → Ty → Bool
same_ty un un = true
same_ty unit_ty unit_ty = true
same_ty (pair_ty t u) (pair_ty v w) = same_ty t v && same_ty u w
same_ty (sum_ty t u) (sum_ty v w) = same_ty t v && same_ty u w
same_ty (key t) (key u) = same_ty t u
same_ty (nonce es) (nonce fs) = is_within es fs && is_within fs es
same_ty _ _ = false

-- the name is free in a message, and in some atom of an effect
abbrev pub is_free : ℕ → Message → Bool
is_free x (bound i) = false
is_free x (name y) = eqb x y
is_free x unit = false
is_free x (pair a b) = is_free x a || is_free x b
is_free x (in_left m) = is_free x m
is_free x (in_right m) = is_free x m
is_free x (enc a b) = is_free x a || is_free x b
is_free x (hash m) = is_free x m

abbrev pub is_free_at : ℕ → Atom → Bool
is_free_at x (ends m) = is_free x m
is_free_at x (checks m) = is_free x m
is_free_at x (many m) = is_free x m

abbrev pub mentions : ℕ → Effect → Bool
mentions x [] = false
mentions x (a ∷ es) = is_free_at x a || mentions x es

abbrev pub is_free_ty : ℕ → Ty → Bool
is_free_ty x un = false
is_free_ty x unit_ty = false
is_free_ty x (pair_ty t u) = is_free_ty x t || is_free_ty x u
is_free_ty x (sum_ty t u) = is_free_ty x t || is_free_ty x u
is_free_ty x (key t) = is_free_ty x t
is_free_ty x (nonce es) = mentions x es
