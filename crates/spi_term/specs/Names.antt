-- Which names a term has: a statement about each message of a term, given how many binders stand over it.
use Rattle.std.specs.Prelude.{ℕ, suc, ◌+◌, ◌<◌, ◌≢◌, [], ◌∷◌, ⊤}
use Rattle.spi_term.specs.Term.{Message, bound, name, unit, pair, in_left, in_right, enc, hash, Atom, ends, checks, many, Effect, Ty, un, unit_ty, pair_ty, sum_ty, key, nonce, Leaf, Sends, Stops, Prefix, Recvs, Serves, Splits, Selects, Decrypts, Checks, Begins, Ends, EndManys, Casts, Freshes, Fork, Branches, Pars, Process, leaf, prefix, fork, binds, fork_binds}

-- the names are below n and the indices below k
abbrev pub MessageOver : ℕ → ℕ → Message → Type 0
MessageOver n k (bound i) = i < k
MessageOver n k (name x) = x < n
MessageOver n k unit = ⊤
MessageOver n k (pair a b) = MessageOver n k a × MessageOver n k b
MessageOver n k (in_left a) = MessageOver n k a
MessageOver n k (in_right a) = MessageOver n k a
MessageOver n k (enc a b) = MessageOver n k a × MessageOver n k b
MessageOver n k (hash a) = MessageOver n k a

-- P of the message of an atom, and of each atom
abbrev pub OfAtom : (Message → Type 0) → Atom → Type 0
OfAtom P (ends m) = P m
OfAtom P (checks m) = P m
OfAtom P (many m) = P m

abbrev pub OfEffect : (Message → Type 0) → Effect → Type 0
OfEffect P [] = ⊤
OfEffect P (a ∷ es) = OfAtom P a × OfEffect P es

-- P d of each message of a type, where d is k and the number of binders passed
abbrev pub OfTy : (ℕ → Message → Type 0) → ℕ → Ty → Type 0
OfTy P k un = ⊤
OfTy P k unit_ty = ⊤
OfTy P k (pair_ty t u) = OfTy P k t × OfTy P (suc k) u
OfTy P k (sum_ty t u) = OfTy P k t × OfTy P k u
OfTy P k (key t) = OfTy P k t
OfTy P k (nonce es) = OfEffect (P k) es

-- the same for a form and a process
abbrev pub OfLeaf : (ℕ → Message → Type 0) → ℕ → Leaf → Type 0
OfLeaf P k (Sends m n) = P k m × P k n
OfLeaf P k Stops = ⊤

abbrev pub OfPrefix : (ℕ → Message → Type 0) → ℕ → Prefix → Type 0
OfPrefix P k (Recvs m t) = P k m × OfTy P k t
OfPrefix P k (Serves m t) = P k m × OfTy P k t
OfPrefix P k (Splits m t u) = P k m × OfTy P k t × OfTy P (suc k) u
OfPrefix P k (Selects m t n u) = P k m × OfTy P k t × P k n × OfTy P (suc k) u
OfPrefix P k (Decrypts m t n) = P k m × OfTy P k t × P k n
OfPrefix P k (Checks m n) = P k m × P k n
OfPrefix P k (Begins m) = P k m
OfPrefix P k (Ends m) = P k m
OfPrefix P k (EndManys m) = P k m
OfPrefix P k (Casts m t) = P k m × OfTy P k t
OfPrefix P k (Freshes t) = OfTy P k t

abbrev pub OfFork : (ℕ → Message → Type 0) → ℕ → Fork → Type 0
OfFork P k (Branches m t u) = P k m × OfTy P k t × OfTy P k u
OfFork P k Pars = ⊤

abbrev pub OfProcess : (ℕ → Message → Type 0) → ℕ → Process → Type 0
OfProcess P k (leaf l) = OfLeaf P k l
OfProcess P k (prefix b p) = OfPrefix P k b × OfProcess P (k + binds b) p
OfProcess P k (fork b p q) = OfFork P k b × OfProcess P (k + fork_binds b) p
    × OfProcess P (k + fork_binds b) q

-- a type over n names, and a process over n names, with no loose index
abbrev pub TyOver : ℕ → Ty → Type 0
TyOver n t = OfTy (MessageOver n) 0 t

abbrev pub EffectOver : ℕ → Effect → Type 0
EffectOver n es = OfEffect (MessageOver n 0) es

abbrev pub ProcessOver : ℕ → Process → Type 0
ProcessOver n p = OfProcess (MessageOver n) 0 p

-- the name x isn't free in a message, and in no atom of an effect
abbrev pub Avoids : ℕ → Message → Type 0
Avoids x (bound i) = ⊤
Avoids x (name y) = y ≢ x
Avoids x unit = ⊤
Avoids x (pair a b) = Avoids x a × Avoids x b
Avoids x (in_left a) = Avoids x a
Avoids x (in_right a) = Avoids x a
Avoids x (enc a b) = Avoids x a × Avoids x b
Avoids x (hash a) = Avoids x a

abbrev pub EffectAvoids : ℕ → Effect → Type 0
EffectAvoids x es = OfEffect (Avoids x) es

abbrev pub TyAvoids : ℕ → Ty → Type 0
TyAvoids x t = OfTy (λ d. Avoids x) 0 t
