-- Numbers of the command line.
use Rattle.std.proofs.Common.{◌≡◌, ℕ, zero, suc, ◌+◌, ◌-◌, ◌*◌, ◌<◌, ◌≤◌, List, ◌∷◌, length, get_or, drop, ap, sym, ◌∙◌, arith, Some, None, add-one, drop-cons, ◌⊎◌, inl, inr}
use Rattle.std.proofs.lemmas.Bool.Decides.{nat_tests}
use Rattle.std.proofs.lemmas.List.{drop_all}
use Rattle.spi_commands.specs.Number.{digits}

-- a power of ten, and a bound on those of nine digits
abbrev pub tens : ℕ → ℕ
tens zero = 1
tens (suc k) = tens k * 10

pub tens_within : (i : ℕ) → i < 9 → tens i ≤ 100000000
tens_within zero h = omega arith
tens_within (suc zero) h = omega arith
tens_within (suc (suc zero)) h = omega arith
tens_within (suc (suc (suc zero))) h = omega arith
tens_within (suc (suc (suc (suc zero)))) h = omega arith
tens_within (suc (suc (suc (suc (suc zero))))) h = omega arith
tens_within (suc (suc (suc (suc (suc (suc zero)))))) h = omega arith
tens_within (suc (suc (suc (suc (suc (suc (suc zero))))))) h = omega arith
tens_within (suc (suc (suc (suc (suc (suc (suc (suc zero)))))))) h = omega arith
tens_within (suc (suc (suc (suc (suc (suc (suc (suc (suc k))))))))) h = absurd (omega (arith, h))

-- what a byte does to the value
pub more_digits : (n b : ℕ) (bs : List ℕ) → 48 ≤ b → b ≤ 57 → digits n (b ∷ bs) ≡ digits (n * 10 + (b - 48)) bs
more_digits n b bs low high = grind (arith, nat_tests)

pub no_digit : (n b : ℕ) (bs : List ℕ) → (b < 48) ⊎ (57 < b) → digits n (b ∷ bs) ≡ None
no_digit n b bs (inl low) = grind (arith, nat_tests)
no_digit n b bs (inr high) = grind (arith, nat_tests)

pub digit_at : (text : List ℕ) (n i d : ℕ) → i < length text → 48 ≤ get_or text i 0 → get_or text i 0 ≤ 57 → d ≡ get_or text i 0 - 48 → digits 0 text ≡ digits n (drop i text) → digits 0 text ≡ digits (n * 10 + d) (drop (i + 1) text)
digit_at text n i d within low high is so =
    so ∙ ap (digits n) (drop-cons text i 0 within) ∙ more_digits n (get_or text i 0) (drop (suc i) text) low high ∙ ap (λ k. digits (n * 10 + k) (drop (suc i) text)) (sym is) ∙ ap (λ k. digits (n * 10 + d) (drop k text)) (sym (add-one i))

pub no_digit_at : (text : List ℕ) (n i : ℕ) → i < length text → (get_or text i 0 < 48) ⊎ (57 < get_or text i 0) → digits 0 text ≡ digits n (drop i text) → None ≡ digits 0 text
no_digit_at text n i within out so = sym (so ∙ ap (digits n) (drop-cons text i 0 within) ∙ no_digit n (get_or text i 0) (drop (suc i) text) out)

pub all_digits : (text : List ℕ) (n i : ℕ) → length text ≤ i → digits 0 text ≡ digits n (drop i text) → Some n ≡ digits 0 text
all_digits text n i past so = sym (so ∙ ap (digits n) (drop_all i text past))

pub tens_more : (n i d : ℕ) → n < tens i → d < 10 → n * 10 + d < tens (i + 1)
tens_more n i d small digit = rw add-one (omega (arith, small, digit))
