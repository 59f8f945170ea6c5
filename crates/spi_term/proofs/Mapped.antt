-- What a map makes of a message, by what it makes of the bound names and of the free ones.
use Rattle.std.proofs.Common.{◌≡◌, ◌∙◌, refl, ℕ, ◌<◌}
use Rattle.spi_term.specs.Term.{Message, bound, name, unit, pair, in_left, in_right, enc, hash}
use Rattle.spi_term.specs.Substitution.{message_map}
use Rattle.spi_term.specs.Names.{MessageOver}

-- names below n and indices below k to messages over j names and d binders
module _ (f g : ℕ → Message) (n k j d : ℕ) (inner : (i : ℕ) → i < k → MessageOver j d (f i)) (outer : (x : ℕ) → x < n → MessageOver j d (g x)) where
  pub over_mapped : (m : Message) → MessageOver n k m → MessageOver j d (message_map f g m)
  over_mapped (bound i) h = inner i h
  over_mapped (name x) h = outer x h
  over_mapped unit h = tt
  over_mapped (pair a b) h = (over_mapped a h.0, over_mapped b h.1)
  over_mapped (in_left a) h = over_mapped a h
  over_mapped (in_right a) h = over_mapped a h
  over_mapped (enc a b) h = (over_mapped a h.0, over_mapped b h.1)
  over_mapped (hash a) h = over_mapped a h

-- two maps that agree on the names below n and the indices below k
module _ (f g f' g' : ℕ → Message) (n k : ℕ) (inner : (i : ℕ) → i < k → f i ≡ f' i) (outer : (x : ℕ) → x < n → g x ≡ g' x) where
  pub mapped_alike : (m : Message) → MessageOver n k m → message_map f g m ≡ message_map f' g' m
  mapped_alike (bound i) h = inner i h
  mapped_alike (name x) h = outer x h
  mapped_alike unit h = refl
  mapped_alike (pair a b) h = rw (mapped_alike a h.0, mapped_alike b h.1)
  mapped_alike (in_left a) h = rw (mapped_alike a h)
  mapped_alike (in_right a) h = rw (mapped_alike a h)
  mapped_alike (enc a b) h = rw (mapped_alike a h.0, mapped_alike b h.1)
  mapped_alike (hash a) h = rw (mapped_alike a h)

-- two maps one after the other, as one
pub mapped_twice : (f g f' g' : ℕ → Message) (m : Message) → message_map f g (message_map f' g' m) ≡ message_map (λ i. message_map f g (f' i)) (λ x. message_map f g (g' x)) m
mapped_twice f g f' g' (bound i) = refl
mapped_twice f g f' g' (name x) = refl
mapped_twice f g f' g' unit = refl
mapped_twice f g f' g' (pair a b) = rw (mapped_twice f g f' g' a, mapped_twice f g f' g' b)
mapped_twice f g f' g' (in_left a) = rw (mapped_twice f g f' g' a)
mapped_twice f g f' g' (in_right a) = rw (mapped_twice f g f' g' a)
mapped_twice f g f' g' (enc a b) = rw (mapped_twice f g f' g' a, mapped_twice f g f' g' b)
mapped_twice f g f' g' (hash a) = rw (mapped_twice f g f' g' a)

-- the map of each name to itself
pub mapped_to_itself : (m : Message) → message_map bound name m ≡ m
mapped_to_itself (bound i) = refl
mapped_to_itself (name x) = refl
mapped_to_itself unit = refl
mapped_to_itself (pair a b) = rw (mapped_to_itself a, mapped_to_itself b)
mapped_to_itself (in_left a) = rw (mapped_to_itself a)
mapped_to_itself (in_right a) = rw (mapped_to_itself a)
mapped_to_itself (enc a b) = rw (mapped_to_itself a, mapped_to_itself b)
mapped_to_itself (hash a) = rw (mapped_to_itself a)

-- a message whose names and indices a map leaves as they are
pub mapped_kept : (f g : ℕ → Message) (n k : ℕ) → ((i : ℕ) → i < k → f i ≡ bound i) → ((x : ℕ) → x < n → g x ≡ name x) → (m : Message) → MessageOver n k m → message_map f g m ≡ m
mapped_kept f g n k inner outer m h = mapped_alike f g bound name n k inner outer m h ∙ mapped_to_itself m

-- and one for which a second map undoes the first
pub mapped_back : (f g f' g' : ℕ → Message) (n k : ℕ) → ((i : ℕ) → i < k → message_map f g (f' i) ≡ bound i) → ((x : ℕ) → x < n → message_map f g (g' x) ≡ name x) → (m : Message) → MessageOver n k m → message_map f g (message_map f' g' m) ≡ m
mapped_back f g f' g' n k inner outer m h =
    mapped_twice f g f' g' m ∙ mapped_kept (λ i. message_map f g (f' i)) (λ x. message_map f g (g' x)) n k inner outer m h
