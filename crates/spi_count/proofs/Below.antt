-- The names of an effect are below a number.
use Rattle.std.proofs.Common.{◌≡◌, refl, sym, ap, ◌∙◌, ℕ, zero, suc, ◌≤◌, false, [], ◌∷◌, ◌++◌, ◌⊎◌, inl, inr, ⊎_elim, arith, true≢false}
use Rattle.spi_term.specs.Term.{Message, bound, name, unit, pair, in_left, in_right, enc, hash, Atom, ends, checks, many, Effect}
use Rattle.spi_term.specs.Lists.{In, in_first, in_later}
use Rattle.spi_term.specs.Counts.{tally}
use Rattle.spi_term.specs.Names.{MessageOver, OfAtom, OfEffect}
use Rattle.spi_term.proofs.Counting.{in_tally, tally_in, count_tally}
use Rattle.spi_effect.specs.Made.{mentions, minus}
use Rattle.spi_effect.proofs.Made.{minus_difference}
use Rattle.spi_count.specs.Sums.{name_bound, Below}
use Rattle.spi_count.proofs.Standing.{in_mentions}
use Rattle.spi_intern.specs.Parts.{message_of}

pub bound_over : (n k : ℕ) (m : Message) → MessageOver n k m → name_bound m ≤ n
bound_over n k (bound i) h = omega arith
bound_over n k (name x) h = omega (arith, h)
bound_over n k unit h = omega arith
bound_over n k (pair a b) h = let p = bound_over n k a h.0 in let q = bound_over n k b h.1 in omega (arith, p, q)
bound_over n k (in_left a) h = bound_over n k a h
bound_over n k (in_right a) h = bound_over n k a h
bound_over n k (enc a b) h = let p = bound_over n k a h.0 in let q = bound_over n k b h.1 in omega (arith, p, q)
bound_over n k (hash a) h = bound_over n k a h

in_either : (a : Atom) (es fs : Effect) → In a (es ++ fs) → In a es ⊎ In a fs
in_either a [] fs n = inr n
in_either a (b ∷ es) fs in_first = inl in_first
in_either a (b ∷ es) fs (in_later n) = ⊎_elim (λ m. inl (in_later m)) (λ m. inr m) (in_either a es fs n)

pub below_joined : {n : ℕ} (es fs : Effect) → Below n es → Below n fs → Below n (es ++ fs)
below_joined es fs h k a n = ⊎_elim (λ m. h a m) (λ m. k a m) (in_either a es fs n)

pub below_one : {n : ℕ} (b : Atom) → name_bound (message_of b) ≤ n → Below n (b ∷ [])
below_one b h a in_first = h
below_one b h a (in_later n) = elim n [ ]

pub in_minus : (a : Atom) (es fs : Effect) → In a (minus es fs) → In a es
in_minus a es fs n =
    let p = (count_tally a (tally a (minus es fs))).1 (in_tally n) in
    let d = (minus_difference es fs).at a in
    tally_in a es ((count_tally a (tally a es)).0 (omega (arith, p, d)))

pub below_minus : {n : ℕ} (es fs : Effect) → Below n es → Below n (minus es fs)
below_minus es fs h a n = h a (in_minus a es fs n)

pub over_at : {n : ℕ} (k : ℕ) (b : Atom) → OfAtom (MessageOver n k) b → name_bound (message_of b) ≤ n
over_at {n} k (ends m) h = bound_over n k m h
over_at {n} k (checks m) h = bound_over n k m h
over_at {n} k (many m) h = bound_over n k m h

pub below_over : {n : ℕ} (k : ℕ) (es : Effect) → OfEffect (MessageOver n k) es → Below n es
below_over k [] h a n = elim n [ ]
below_over k (b ∷ es) h a in_first = over_at k b h.0
below_over k (b ∷ es) h a (in_later n) = below_over k es h.1 a n

next_or_less : (b k : ℕ) → suc b ≤ suc k → (b ≡ k) ⊎ (suc b ≤ k)
next_or_less zero zero l = inl refl
next_or_less zero (suc k) l = inr (omega arith)
next_or_less (suc b) zero l = absurd (omega (arith, l))
next_or_less (suc b) (suc k) l = ⊎_elim (λ h. inl (ap suc h)) (λ h. inr (omega (arith, h))) (next_or_less b k (omega (arith, l)))

pub below_more : (n m : ℕ) (es : Effect) → n ≤ m → Below n es → Below m es
below_more n m es h b a i = let l = b a i in omega (arith, l, h)

-- the name that a form binds isn't mentioned
pub below_bound : (k : ℕ) (es : Effect) → Below (suc k) es → mentions k es ≡ false → Below k es
below_bound k es h e a n = go (name_bound (message_of a)) refl (h a n)
  where
    go : (b : ℕ) → name_bound (message_of a) ≡ b → b ≤ suc k → b ≤ k
    go zero f l = omega arith
    go (suc b) f l = ⊎_elim (λ g. absurd (true≢false (sym (in_mentions k a es n (f ∙ ap suc g)) ∙ e))) (λ g. g) (next_or_less b k l)
