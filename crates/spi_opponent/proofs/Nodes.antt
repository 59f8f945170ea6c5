-- A process is an opponent exactly where each of its nodes is allowed.
use Rattle.std.proofs.Common.{◌≡◌, ℕ, zero, suc, ◌<◌, List, [], ◌∷◌, ◌++◌, length, subst, refl, arith}
use Rattle.std.specs.Prelude.{slice_get, Some, ⊤}
use Rattle.spi_term.specs.Term.{Message, Ty, un, Sends, Stops, Recvs, Serves, Splits, Selects, Decrypts, Checks, Begins, Ends, EndManys, Casts, Freshes, Branches, Pars, Process, leaf, prefix, fork}
use Rattle.spi_term.specs.Substitution.{ty_map}
use Rattle.spi_term.specs.Spelling.{Shape, flat, numbered}
use Rattle.spi_run.proofs.Untrusted.{un_map}
use Rattle.spi_run.specs.Opponent.{IsUn, IsOpponent}
use Rattle.spi_opponent.specs.Allowed.{Allowed}

abbrev pub AllAllowed : List Shape → Type 0
AllAllowed [] = ⊤
AllAllowed (x ∷ xs) = Allowed x × AllAllowed xs

all_front : (xs ys : List Shape) → AllAllowed (xs ++ ys) → AllAllowed xs
all_front [] ys h = tt
all_front (x ∷ xs) ys h = (h.0, all_front xs ys h.1)

all_back : (xs ys : List Shape) → AllAllowed (xs ++ ys) → AllAllowed ys
all_back [] ys h = h
all_back (x ∷ xs) ys h = all_back xs ys h.1

all_both : (xs ys : List Shape) → AllAllowed xs → AllAllowed ys → AllAllowed (xs ++ ys)
all_both [] ys h k = k
all_both (x ∷ xs) ys h k = (h.0, all_both xs ys h.1 k)

-- a map of messages makes no annotation Un
un_was : (f : ℕ → Message → Message) (k : ℕ) (t : Ty) → IsUn (ty_map f k t) → IsUn t
un_was f k un h = tt
un_was f k _ h = absurd h

pub allowed_of : (p : Process) (names : List ℕ) (i k : ℕ) → IsOpponent p → AllAllowed (flat i k (numbered names k p))
allowed_of (leaf l) names i k h = (tt, tt)
allowed_of (prefix (Recvs m t) p) names i k h = (un_map _ 0 t h.0, allowed_of p _ _ _ h.1)
allowed_of (prefix (Serves m t) p) names i k h = (un_map _ 0 t h.0, allowed_of p _ _ _ h.1)
allowed_of (prefix (Decrypts m t n) p) names i k h = (un_map _ 0 t h.0, allowed_of p _ _ _ h.1)
allowed_of (prefix (Casts m t) p) names i k h = (un_map _ 0 t h.0, allowed_of p _ _ _ h.1)
allowed_of (prefix (Freshes t) p) names i k h = (un_map _ 0 t h.0, allowed_of p _ _ _ h.1)
allowed_of (prefix (Splits m t u) p) names i k h = ((un_map _ 0 t h.0, un_map _ 1 u h.1), allowed_of p _ _ _ h.2)
allowed_of (prefix (Selects m t n u) p) names i k h = ((un_map _ 0 t h.0, un_map _ 1 u h.1), allowed_of p _ _ _ h.2)
allowed_of (prefix (Checks m n) p) names i k h = (tt, allowed_of p _ _ _ h)
allowed_of (prefix (Begins m) p) names i k h = absurd h
allowed_of (prefix (Ends m) p) names i k h = absurd h
allowed_of (prefix (EndManys m) p) names i k h = absurd h
allowed_of (fork (Branches m t u) p q) names i k h = ((un_map _ 0 t h.0, un_map _ 0 u h.2), all_both _ _ (allowed_of p _ _ _ h.1) (allowed_of q _ _ _ h.3))
allowed_of (fork Pars p q) names i k h = (tt, all_both _ _ (allowed_of p _ _ _ h.0) (allowed_of q _ _ _ h.1))

pub opponent_of : (p : Process) (names : List ℕ) (i k : ℕ) → AllAllowed (flat i k (numbered names k p)) → IsOpponent p
opponent_of (leaf (Sends m n)) names i k h = tt
opponent_of (leaf Stops) names i k h = tt
opponent_of (prefix (Recvs m t) p) names i k h = (un_was _ 0 t h.0, opponent_of p _ _ _ h.1)
opponent_of (prefix (Serves m t) p) names i k h = (un_was _ 0 t h.0, opponent_of p _ _ _ h.1)
opponent_of (prefix (Decrypts m t n) p) names i k h = (un_was _ 0 t h.0, opponent_of p _ _ _ h.1)
opponent_of (prefix (Casts m t) p) names i k h = (un_was _ 0 t h.0, opponent_of p _ _ _ h.1)
opponent_of (prefix (Freshes t) p) names i k h = (un_was _ 0 t h.0, opponent_of p _ _ _ h.1)
opponent_of (prefix (Splits m t u) p) names i k h = (un_was _ 0 t h.0.0, un_was _ 1 u h.0.1, opponent_of p _ _ _ h.1)
opponent_of (prefix (Selects m t n u) p) names i k h = (un_was _ 0 t h.0.0, un_was _ 1 u h.0.1, opponent_of p _ _ _ h.1)
opponent_of (prefix (Checks m n) p) names i k h = opponent_of p _ _ _ h.1
opponent_of (prefix (Begins m) p) names i k h = absurd h.0
opponent_of (prefix (Ends m) p) names i k h = absurd h.0
opponent_of (prefix (EndManys m) p) names i k h = absurd h.0
opponent_of (fork (Branches m t u) p q) names i k h = (un_was _ 0 t h.0.0, opponent_of p _ _ _ (all_front _ _ h.1), un_was _ 0 u h.0.1, opponent_of q _ _ _ (all_back _ _ h.1))
opponent_of (fork Pars p q) names i k h = (opponent_of p _ _ _ (all_front _ _ h.1), opponent_of q _ _ _ (all_back _ _ h.1))

-- the nodes by their numbers
pub all_get : (xs : List Shape) → ((i : ℕ) (x : Shape) → i < length xs → slice_get xs i ≡ Some x → Allowed x) → AllAllowed xs
all_get [] f = tt
all_get (x ∷ xs) f = (f 0 x (omega arith) refl, all_get xs (λ i y p e. f (suc i) y (omega (arith, p)) e))

pub get_all : (xs : List Shape) (i : ℕ) (x : Shape) → slice_get xs i ≡ Some x → AllAllowed xs → Allowed x
get_all [] i x e h = absurd (cc)
get_all (y ∷ xs) zero x e h = let q : y ≡ x = cc in subst (λ z. Allowed z) q h.0
get_all (y ∷ xs) (suc i) x e h = get_all xs i x e h.1
