-- The numbers of words: what they are made of, and that those of short words tell the words.
use Rattle.std.proofs.Common.{◌≡◌, ℕ, zero, suc, ◌+◌, ◌-◌, ◌*◌, ◌^◌, ◌<◌, ◌≤◌, Bool, true, false, cond, ltb, eqb, ◌&&◌, List, [], ◌∷◌, ◌++◌, length, take, drop, refl, sym, ap, ap₂, ◌∙◌, ⊎_elim, arith}
use Rattle.std.proofs.lemmas.Bool.{le-ltb, lt-ltb, eqb-true, cases_lt, both_ways}
use Rattle.std.proofs.lemmas.List.{take-append-drop, take_all, drop-drop, length-drop, length-take-le}
use Rattle.std.proofs.lemmas.Slice.Eq.{bytes_eq-Decides}
use Rattle.std.specs.Cmp.{first_so, second_so}
use Rattle.std.specs.Str.{bytes_eq}
use Rattle.spi_scope.specs.Spelling.{spelled, front_of, AreBytes}

later_bytes : (x : ℕ) (xs : List ℕ) → AreBytes (x ∷ xs) → AreBytes xs
later_bytes x xs b i = b (suc i)

bytes_drop : (n : ℕ) (xs : List ℕ) → AreBytes xs → AreBytes (drop n xs)
bytes_drop zero xs b = b
bytes_drop (suc n) [] b = b
bytes_drop (suc n) (x ∷ xs) b = bytes_drop n xs (later_bytes x xs b)

bytes_take : (n : ℕ) (xs : List ℕ) → AreBytes xs → AreBytes (take n xs)
bytes_take zero xs b zero = omega arith
bytes_take zero xs b (suc i) = omega arith
bytes_take (suc n) [] b i = b i
bytes_take (suc n) (x ∷ xs) b zero = b 0
bytes_take (suc n) (x ∷ xs) b (suc i) = bytes_take n xs (later_bytes x xs b) i

-- as many bytes that spell one number are the same
spelled_tells : (xs ys : List ℕ) → length xs ≡ length ys → AreBytes xs → AreBytes ys → spelled xs ≡ spelled ys → xs ≡ ys
spelled_tells [] [] l a b e = refl
spelled_tells [] (y ∷ ys) l a b e = absurd (omega (arith, l))
spelled_tells (x ∷ xs) [] l a b e = absurd (omega (arith, l))
spelled_tells (x ∷ xs) (y ∷ ys) l a b e =
    let small : x < 256 = a 0 in
    let other : y < 256 = b 0 in
    let first : x ≡ y = omega (arith, e, small, other) in
    let rest : spelled xs ≡ spelled ys = omega (arith, e, small, other) in
    ap (λ z. z ∷ xs) first ∙ ap (λ zs. y ∷ zs) (spelled_tells xs ys (omega (arith, l)) (later_bytes x xs a) (later_bytes y ys b) rest)

four_below : (xs : List ℕ) → length xs ≡ 4 → AreBytes xs → spelled xs < 2 ^ 32
four_below [] l b = absurd (omega (arith, l))
four_below (p ∷ []) l b = absurd (omega (arith, l))
four_below (p ∷ q ∷ []) l b = absurd (omega (arith, l))
four_below (p ∷ q ∷ r ∷ []) l b = absurd (omega (arith, l))
four_below (p ∷ q ∷ r ∷ s ∷ []) l b =
    let p_small : p < 256 = b 0 in
    let q_small : q < 256 = b 1 in
    let r_small : r < 256 = b 2 in
    let s_small : s < 256 = b 3 in
    omega (arith, p_small, q_small, r_small, s_small)
four_below (p ∷ q ∷ r ∷ s ∷ t ∷ xs) l b = absurd (omega (arith, l))

-- the number of a word of up to three bytes, and of a longer one
chosen_true : (b : Bool) (m n : ℕ) → b ≡ true → cond b m n ≡ m
chosen_true true m n e = refl
chosen_true false m n e = absurd (both_ways false refl e)

chosen_false : (b : Bool) (m n : ℕ) → b ≡ false → cond b m n ≡ n
chosen_false true m n e = absurd (both_ways true e refl)
chosen_false false m n e = refl

short_front : (xs : List ℕ) → length xs < 4 → front_of xs ≡ spelled xs
short_front xs h = chosen_true (ltb (length xs) 4) (spelled xs) (spelled (take 4 xs) + spelled (drop (length xs - 4) xs) * 2 ^ 32) (lt-ltb (length xs) 4 h)

long_front : (xs : List ℕ) → 4 ≤ length xs → front_of xs ≡ spelled (take 4 xs) + spelled (drop (length xs - 4) xs) * 2 ^ 32
long_front xs h = chosen_false (ltb (length xs) 4) (spelled xs) (spelled (take 4 xs) + spelled (drop (length xs - 4) xs) * 2 ^ 32) (le-ltb (length xs) 4 h)

pub made_of_fours : (xs : List ℕ) → 4 ≤ length xs → spelled (take 4 (drop 0 xs)) + spelled (take 4 (drop (length xs - 4) xs)) * 2 ^ 32 ≡ front_of xs
made_of_fours xs h =
    ap (λ l. spelled (take 4 xs) + spelled l * 2 ^ 32) (take_all 4 (drop (length xs - 4) xs) (omega (arith, h, length-drop (length xs - 4) xs)))
    ∙ sym (long_front xs h)

halves : (a b c d : ℕ) → a < 2 ^ 32 → c < 2 ^ 32 → a + b * 2 ^ 32 ≡ c + d * 2 ^ 32 → (a ≡ c) × (b ≡ d)
halves a b c d k l e = (omega (arith, k, l, e), omega (arith, k, l, e))

-- what stands behind the first four bytes is among the last four
behind : (xs : List ℕ) → 4 ≤ length xs → length xs ≤ 8 → drop 4 xs ≡ drop (8 - length xs) (drop (length xs - 4) xs)
behind xs h k =
    let e : 4 ≡ (length xs - 4) + (8 - length xs) = omega (arith, h, k) in
    ap (λ n. drop n xs) e ∙ sym (drop-drop (8 - length xs) (length xs - 4) xs)

long_tells : (xs ys : List ℕ) → 4 ≤ length xs → length xs ≤ 8 → length xs ≡ length ys → AreBytes xs → AreBytes ys → front_of xs ≡ front_of ys → xs ≡ ys
long_tells xs ys h k l a b e =
    let m : 4 ≤ length ys = omega (arith, h, l) in
    let xs_four : length (take 4 xs) ≡ 4 = length-take-le 4 xs h in
    let ys_four : length (take 4 ys) ≡ 4 = length-take-le 4 ys m in
    let xs_bytes = bytes_take 4 xs a in
    let ys_bytes = bytes_take 4 ys b in
    let parts = halves (spelled (take 4 xs)) (spelled (drop (length xs - 4) xs)) (spelled (take 4 ys)) (spelled (drop (length ys - 4) ys))
    (four_below (take 4 xs) xs_four xs_bytes) (four_below (take 4 ys) ys_four ys_bytes) (sym (long_front xs h) ∙ e ∙ long_front ys m) in
    let first : take 4 xs ≡ take 4 ys = spelled_tells (take 4 xs) (take 4 ys) (xs_four ∙ sym ys_four) xs_bytes ys_bytes parts.0 in
    let last : drop (length xs - 4) xs ≡ drop (length ys - 4) ys =
    spelled_tells (drop (length xs - 4) xs) (drop (length ys - 4) ys)
    (omega (arith, l, length-drop (length xs - 4) xs, length-drop (length ys - 4) ys))
    (bytes_drop (length xs - 4) xs a) (bytes_drop (length ys - 4) ys b) parts.1 in
    let rest : drop 4 xs ≡ drop 4 ys =
    behind xs h k ∙ ap₂ (λ n zs. drop (8 - n) zs) l last ∙ sym (behind ys m (omega (arith, l, k))) in
    sym (take-append-drop 4 xs) ∙ ap₂ (λ us vs. us ++ vs) first rest ∙ take-append-drop 4 ys

tells : (xs ys : List ℕ) → length xs ≤ 8 → length xs ≡ length ys → AreBytes xs → AreBytes ys → front_of xs ≡ front_of ys → xs ≡ ys
tells xs ys k l a b e =
    ⊎_elim
    (λ h. spelled_tells xs ys l a b (sym (short_front xs h) ∙ e ∙ short_front ys (omega (arith, h, l))))
    (λ h. long_tells xs ys h k l a b e)
    (cases_lt (length xs) 4)

-- words of up to eight bytes with one number and one length are the same
pub short_same : (xs ys : List ℕ) (f g : ℕ) → (eqb f g && eqb (length xs) (length ys)) ≡ true → length xs ≤ 8 → f ≡ front_of xs → g ≡ front_of ys → AreBytes xs → AreBytes ys → bytes_eq xs ys ≡ true
short_same xs ys f g same short p q a b =
    let e = eqb-true f g (first_so (eqb f g) (eqb (length xs) (length ys)) same) in
    let l = eqb-true (length xs) (length ys) (second_so (eqb f g) (eqb (length xs) (length ys)) same) in
    (bytes_eq-Decides xs ys).1 (tells xs ys short l a b (sym p ∙ e ∙ q))
