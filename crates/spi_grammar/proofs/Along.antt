-- Reading part after part: what fails behind the parts that were read fails the whole, so many tokens later.
use Rattle.std.proofs.Common.{◌≡◌, ℕ, ◌+◌, Bool, List, [], ◌∷◌, length, subst, arith}
use Rattle.spi_grammar.specs.Exactly.{kinds, IsOther, Either, Nothing, at_syntax, IsLive, Apart, IsEven, IsSame, Then, Many, Fault, FailsAtToken, RefusesText, ReadsPart}
use Rattle.spi_grammar.proofs.Answers.{same_refuses, same_fails, first_refuses, first_fails, second_refuses, second_fails, part_fails, further_fails, last_fails, end_fails}
use Rattle.spi_grammar.proofs.Good.{this_fails, other_fails}

module _ {K : Type 0} where
  -- behind n tokens the rest of a W is to be an M
  pub record Behind (W M : List (K × Bool) → Type 0) (ks : List K) (n : ℕ) (rest : List K) : Type 0 where
    pub refuses : (d : Fault) (m : ℕ) → RefusesText d M rest m → RefusesText d W ks (n + m)

  pub start : (W : List (K × Bool) → Type 0) (ks : List K) → Behind W W ks 0 ks
  start W ks = record { refuses = λ d m r. let e : m ≡ 0 + m = omega arith in subst (λ (i : ℕ). RefusesText d W ks i) e r }

  -- the parts told otherwise
  pub start_as : (W M : List (K × Bool) → Type 0) → IsSame M W → (ks : List K) → Behind W M ks 0 ks
  start_as W M s ks = record { refuses = λ d m r. let e : m ≡ 0 + m = omega arith in subst (λ (i : ℕ). RefusesText d W ks i) e (same_refuses M W s d ks m r) }

  module _ (W L M : List (K × Bool) → Type 0) (ks : List K) (n : ℕ) (rest : List K) (b : Behind W (Then L M) ks n rest) (apart : Apart L M) where
    -- the next part is read
    pub next : IsEven L → (a : List (K × Bool)) (more : List K) → ReadsPart L rest a more → Behind W M ks (n + length (kinds a)) more
    next even a more r = record {
      refuses = λ d m f. let e : n + (length (kinds a) + m) ≡ (n + length (kinds a)) + m = omega arith in
          subst (λ (i : ℕ). RefusesText d W ks i) e (b.refuses d (length (kinds a) + m) (second_refuses L M apart even rest a more r d m f));
    }

    -- it fails
    pub next_fails : IsLive M → (d : Fault) (m : ℕ) → RefusesText d L rest m → RefusesText d W ks (n + m)
    next_fails live d m f = b.refuses d m (first_refuses L M apart live d rest m f)

-- The same for whole texts: the kind W is that of the whole text, and what is left is to be an M up to its end.
module _ {K : Type 0} where
  pub record LeadsAlong (W M : List (K × Bool) → Type 0) (ks : List K) (n : ℕ) (rest : List K) : Type 0 where
    pub fails : (d : Fault) (m : ℕ) → FailsAtToken d M rest m → FailsAtToken d W ks (n + m)

  pub lead : (W M : List (K × Bool) → Type 0) → IsSame M W → (ks : List K) → LeadsAlong W M ks 0 ks
  lead W M s ks = record { fails = λ d m r. let e : m ≡ 0 + m = omega arith in subst (λ (i : ℕ). FailsAtToken d W ks i) e (same_fails M W s d ks m r) }

  -- ---- a sequence

  module _ (W L M : List (K × Bool) → Type 0) (ks : List K) (n : ℕ) (rest : List K) (b : LeadsAlong W (Then L M) ks n rest) (apart : Apart L M) where
    pub then_next : IsEven L → (a : List (K × Bool)) (more : List K) → ReadsPart L rest a more → LeadsAlong W M ks (n + length (kinds a)) more
    then_next even a more r = record {
      fails = λ d m f. let e : n + (length (kinds a) + m) ≡ (n + length (kinds a)) + m = omega arith in
          subst (λ (i : ℕ). FailsAtToken d W ks i) e (b.fails d (length (kinds a) + m) (second_fails L M apart even rest a more r d m f));
    }

    pub then_fails : IsLive M → (d : Fault) (m : ℕ) → RefusesText d L rest m → FailsAtToken d W ks (n + m)
    then_fails live d m f = b.fails d m (first_fails L M apart live d rest m f)

  -- ---- a repetition, by the first token

  module _ (W L M : List (K × Bool) → Type 0) (ks : List K) (n : ℕ) where
    module _ (k : K) (rest : List K) (b : LeadsAlong W (Many L M) ks n (k ∷ rest)) (apart : Apart L (Many L M)) (live : IsLive M) (last : (b : List (K × Bool)) → M b → (x : List K) → kinds b ≡ k ∷ x → ⊥) where
      pub many_next : IsEven L → (a : List (K × Bool)) (more : List K) → ReadsPart L (k ∷ rest) a more → LeadsAlong W (Many L M) ks (n + length (kinds a)) more
      many_next even a more r = record {
        fails = λ d m f. let e : n + (length (kinds a) + m) ≡ (n + length (kinds a)) + m = omega arith in
            subst (λ (i : ℕ). FailsAtToken d W ks i) e (b.fails d (length (kinds a) + m) (further_fails L M apart live k rest last even a more r d m f));
      }

      pub many_fails : (d : Fault) (m : ℕ) → RefusesText d L (k ∷ rest) m → FailsAtToken d W ks (n + m)
      many_fails d m f = b.fails d m (part_fails L M apart live k rest last d m f)

    pub many_last : (rest : List K) → LeadsAlong W (Many L M) ks n rest → ((a : List (K × Bool)) → L a → kinds a ≡ [] → ⊥) → ((a : List (K × Bool)) → L a → (k : K) (x y : List K) → kinds a ≡ k ∷ x → rest ≡ k ∷ y → ⊥) → LeadsAlong W M ks n rest
    many_last rest b some none = record { fails = λ d m f. b.fails d m (last_fails L M some rest none d m f) }

    -- ---- a choice, by the first token

    pub either_this : (k : K) (rest : List K) → LeadsAlong W (Either L M) ks n (k ∷ rest) → ((b : List (K × Bool)) → M b → (x : List K) → kinds b ≡ k ∷ x → ⊥) → LeadsAlong W L ks n (k ∷ rest)
    either_this k rest b other = record { fails = λ d m f. b.fails d m (this_fails L M k rest other d m f) }

    pub either_other : (rest : List K) → LeadsAlong W (Either L M) ks n rest → IsOther L rest → LeadsAlong W M ks n rest
    either_other rest b other = record { fails = λ d m f. b.fails d m (other_fails L M rest other d m f) }

  -- ---- the end

  pub at_end : (W : List (K × Bool) → Type 0) (ks : List K) (n : ℕ) (k : K) (rest : List K) → LeadsAlong W Nothing ks n (k ∷ rest) → FailsAtToken at_syntax W ks (n + 0)
  at_end W ks n k rest b = b.fails at_syntax 0 (end_fails k rest)
