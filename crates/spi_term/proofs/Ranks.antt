-- The order of messages and of atoms is total, and only equal ones tie.
use Rattle.std.proofs.Common.{◌≡◌, refl, ◌∙◌, ap, subst, ℕ, List, [], ◌∷◌, ◌<◌}
use Rattle.std.specs.Cmp.{IsTotalOrder}
use Rattle.std.specs.Cmp.Lexicographic.{slice_cmp}
use Rattle.std.specs.declared.cmp.Ordering.{Ordering}
use Rattle.std.specs.declared.cmp.Ordering.TheVariants.{Less, Equal, Greater}
use Rattle.std.specs.Ordering.{nat_cmp, ordering_then, MatchOrdering}
use Rattle.std.proofs.lemmas.Cmp.{nat_list_cmp_total, on_total, ranked, tied_itself}
use Rattle.spi_term.specs.Term.{Message, bound, name, unit, pair, in_left, in_right, enc, hash, Atom, ends, checks, many}
use Rattle.spi_term.specs.Order.{message_cmp, atom_cmp}

-- a message as numbers, in which no message begins another
abbrev spell_message : Message → List ℕ → List ℕ
spell_message (bound i) ks = 0 ∷ (i ∷ ks)
spell_message (name x) ks = 1 ∷ (x ∷ ks)
spell_message unit ks = 2 ∷ ks
spell_message (pair a b) ks = 3 ∷ spell_message a (spell_message b ks)
spell_message (in_left a) ks = 4 ∷ spell_message a ks
spell_message (in_right a) ks = 5 ∷ spell_message a ks
spell_message (enc a b) ks = 6 ∷ spell_message a (spell_message b ks)
spell_message (hash a) ks = 7 ∷ spell_message a ks

abbrev spell_atom : Atom → List ℕ
spell_atom (ends m) = 0 ∷ spell_message m []
spell_atom (checks m) = 1 ∷ spell_message m []
spell_atom (many m) = 2 ∷ spell_message m []

abbrev list_cmp : List ℕ → List ℕ → Ordering
list_cmp = slice_cmp nat_cmp

then_then : (o p q : Ordering) → ordering_then o (ordering_then p q) ≡ ordering_then (ordering_then o p) q
then_then Less p q = refl
then_then Equal p q = refl
then_then Greater p q = refl

then_equal : (o : Ordering) → ordering_then o Equal ≡ o
then_equal Less = refl
then_equal Equal = refl
then_equal Greater = refl

spelled_cmp : (m n : Message) (xs ys : List ℕ) → list_cmp (spell_message m xs) (spell_message n ys) ≡ ordering_then (message_cmp m n) (list_cmp xs ys)
spelled_cmp (bound i) (bound j) xs ys = refl
spelled_cmp (name x) (name y) xs ys = refl
spelled_cmp unit unit xs ys = refl
spelled_cmp (pair a b) (pair c d) xs ys =
    spelled_cmp a c (spell_message b xs) (spell_message d ys) ∙ ap (ordering_then (message_cmp a c)) (spelled_cmp b d xs ys) ∙ then_then (message_cmp a c) (message_cmp b d) (list_cmp xs ys)
spelled_cmp (in_left a) (in_left b) xs ys = spelled_cmp a b xs ys
spelled_cmp (in_right a) (in_right b) xs ys = spelled_cmp a b xs ys
spelled_cmp (enc a b) (enc c d) xs ys =
    spelled_cmp a c (spell_message b xs) (spell_message d ys) ∙ ap (ordering_then (message_cmp a c)) (spelled_cmp b d xs ys) ∙ then_then (message_cmp a c) (message_cmp b d) (list_cmp xs ys)
spelled_cmp (hash a) (hash b) xs ys = spelled_cmp a b xs ys
spelled_cmp _ _ xs ys = refl

whole_cmp : (m n : Message) → list_cmp (spell_message m []) (spell_message n []) ≡ message_cmp m n
whole_cmp m n = spelled_cmp m n [] [] ∙ then_equal (message_cmp m n)

atom_spelled : (a b : Atom) → list_cmp (spell_atom a) (spell_atom b) ≡ atom_cmp a b
atom_spelled (ends m) (ends n) = whole_cmp m n
atom_spelled (checks m) (checks n) = whole_cmp m n
atom_spelled (many m) (many n) = whole_cmp m n
atom_spelled _ _ = refl

pub atom_total : IsTotalOrder atom_cmp
atom_total = subst (λ R. IsTotalOrder R) (λ i a b. atom_spelled a b i) (on_total spell_atom nat_list_cmp_total)

-- only equal ones tie
number_tied : (x y : ℕ) → nat_cmp x y ≡ Equal → x ≡ y
number_tied x y e = subst (λ o. MatchOrdering o (x < y) (x ≡ y) (y < x)) e (ranked x y (nat_cmp x y) refl)

both_tied : (o p : Ordering) → ordering_then o p ≡ Equal → (o ≡ Equal) × (p ≡ Equal)
both_tied Less p e = cc
both_tied Equal p e = (refl, e)
both_tied Greater p e = cc

message_tied : (m n : Message) → message_cmp m n ≡ Equal → m ≡ n
message_tied (bound i) (bound j) e = ap bound (number_tied i j e)
message_tied (name x) (name y) e = ap name (number_tied x y e)
message_tied unit unit e = refl
message_tied (pair a b) (pair c d) e = let t = both_tied _ _ e in λ i. pair (message_tied a c t.0 i) (message_tied b d t.1 i)
message_tied (in_left a) (in_left b) e = ap in_left (message_tied a b e)
message_tied (in_right a) (in_right b) e = ap in_right (message_tied a b e)
message_tied (enc a b) (enc c d) e = let t = both_tied _ _ e in λ i. enc (message_tied a c t.0 i) (message_tied b d t.1 i)
message_tied (hash a) (hash b) e = ap hash (message_tied a b e)
message_tied _ _ e = cc

pub atom_tied : (a b : Atom) → atom_cmp a b ≡ Equal → a ≡ b
atom_tied (ends m) (ends n) e = ap ends (message_tied m n e)
atom_tied (checks m) (checks n) e = ap checks (message_tied m n e)
atom_tied (many m) (many n) e = ap many (message_tied m n e)
atom_tied _ _ e = cc

pub atom_ties : (a b : Atom) → a ≡ b → atom_cmp a b ≡ Equal
atom_ties a b e = subst (λ c. atom_cmp a c ≡ Equal) e (tied_itself atom_total a)
