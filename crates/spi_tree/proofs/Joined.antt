-- Lists put one behind another as a loop goes over the items.
use Rattle.std.proofs.Common.{◌≡◌, ℕ, zero, suc, ◌+◌, ◌<◌, List, [], ◌∷◌, ◌++◌, length, map, take, get_or, refl, sym, ap, ◌∙◌, append_assoc, append-nil, add-one, arith}
use Rattle.spi_lex.specs.declared.token.Kind.{Kind}
use Rattle.spi_tree.specs.Listed.{joined}

joined_suc : {X Y : Type 0} (f : Y → List Kind) (g : X → Y) (xs : List X) (i : ℕ) (d : X) → i < length xs
    → joined f (map g (take (suc i) xs)) ≡ joined f (map g (take i xs)) ++ f (g (get_or xs i d))
joined_suc f g [] i d h = absurd (omega arith)
joined_suc f g (x ∷ xs) zero d h = append-nil (f (g x))
joined_suc f g (x ∷ xs) (suc i) d h = ap (λ l. f (g x) ++ l) (joined_suc f g xs i d (omega arith)) ∙ sym (append_assoc (f (g x)) _ _)

-- one item more
pub joined_more : {X Y : Type 0} (f : Y → List Kind) (g : X → Y) (xs : List X) (i : ℕ) (d : X) → i < length xs
    → joined f (map g (take (i + 1) xs)) ≡ joined f (map g (take i xs)) ++ f (g (get_or xs i d))
joined_more f g xs i d h = rw add-one (joined_suc f g xs i d h)

plain_suc : {X : Type 0} (f : X → List Kind) (xs : List X) (i : ℕ) (d : X) → i < length xs
    → joined f (take (suc i) xs) ≡ joined f (take i xs) ++ f (get_or xs i d)
plain_suc f [] i d h = absurd (omega arith)
plain_suc f (x ∷ xs) zero d h = append-nil (f x)
plain_suc f (x ∷ xs) (suc i) d h = ap (λ l. f x ++ l) (plain_suc f xs i d (omega arith)) ∙ sym (append_assoc (f x) _ _)

pub joined_plain : {X : Type 0} (f : X → List Kind) (xs : List X) (i : ℕ) (d : X) → i < length xs
    → joined f (take (i + 1) xs) ≡ joined f (take i xs) ++ f (get_or xs i d)
joined_plain f xs i d h = rw add-one (plain_suc f xs i d h)

-- the parts of a file
pub file_chain : (o0 o1 o2 o3 o4 o5 o6 o7 a b c d e f g : List Kind) → o0 ≡ [] → o1 ≡ o0 ++ a → o2 ≡ o1 ++ b → o3 ≡ o2 ++ c → o4 ≡ o3 ++ d → o5 ≡ o4 ++ e → o6 ≡ o5 ++ f → o7 ≡ o6 ++ g
    → o7 ≡ a ++ b ++ c ++ d ++ e ++ f ++ g
file_chain o0 o1 o2 o3 o4 o5 o6 o7 a b c d e f g h0 h1 h2 h3 h4 h5 h6 h7 = rw (h7, h6, h5, h4, h3, h2, h1, h0) refl
