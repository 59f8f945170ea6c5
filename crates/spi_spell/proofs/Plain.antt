-- Words of letters, digits and `_`, and the digits of a number.
use Rattle.std.proofs.Common.{◌≡◌, ℕ, zero, suc, ◌+◌, ◌/◌, ◌%◌, ◌<◌, ◌≤◌, Bool, true, false, ◌&&◌, ◌||◌, ◌==◌, IsTrue, cond, List, [], ◌∷◌, length, refl, ◌∙◌, arith, nat_lt}
use Rattle.std.proofs.lemmas.Bool.{and_parts, and_from, or_left, ltb-true, agree_below_at}
use Rattle.std.proofs.lemmas.Str.{encodes-IsAscii}
use Rattle.std.proofs.lemmas.Str.Ascii.{IsAscii-cons, IsAscii-nil}
use Rattle.std.specs.Char.{is_ascii_alphabetic, is_ascii_alphanumeric}
use Rattle.std.specs.Fmt.{decimal, digits, digits_onto, digit_glyph}
use Rattle.std.specs.List.{AllByRecursion}
use Rattle.std.specs.Str.{IsAscii, all_scalars}
use lib.Utf8.{scalar, low_scalar}
use Rattle.unicode_ident.specs.Ident.{is_xid_start, is_xid_continue}
use Rattle.unicode_ident.proofs.IdentLemmas.{is_xid_start-ascii, is_xid_continue-ascii}
use Rattle.spi_lex.specs.Lexeme.{starts_name, IsIdentifier}

-- ---- digits

digit_by : (P : ℕ → Type 0) → ((d : ℕ) → d < 10 → P (digit_glyph false d)) → (k n : ℕ) (acc : List ℕ) → AllByRecursion P acc → AllByRecursion P (digits_onto k 10 false n acc)
digit_by P f zero n acc h = h
digit_by P f (suc k) n acc h =
    let d = digit_glyph false (n % 10) in
    let g : P d = f (n % 10) (omega arith) in
    by (n / 10 == 0) (g, h) (digit_by P f k (n / 10) (d ∷ acc) (g, h))
  where
    by : (b : Bool) → AllByRecursion P (digit_glyph false (n % 10) ∷ acc) → AllByRecursion P (digits_onto k 10 false (n / 10) (digit_glyph false (n % 10) ∷ acc)) → AllByRecursion P (cond b (digit_glyph false (n % 10) ∷ acc) (digits_onto k 10 false (n / 10) (digit_glyph false (n % 10) ∷ acc)))
    by true a b = a
    by false a b = b

digits_short : (k n : ℕ) (acc : List ℕ) → length (digits_onto k 10 false n acc) ≤ suc k + length acc
digits_short zero n acc = omega arith
digits_short (suc k) n acc = (let ih = digits_short k (n / 10) (digit_glyph false (n % 10) ∷ acc) in by (n / 10 == 0) (omega (arith, ih)))
  where
    by : (b : Bool) → length (digits_onto k 10 false (n / 10) (digit_glyph false (n % 10) ∷ acc)) ≤ suc (suc k) + length acc → length (cond b (digit_glyph false (n % 10) ∷ acc) (digits_onto k 10 false (n / 10) (digit_glyph false (n % 10) ∷ acc))) ≤ suc (suc k) + length acc
    by true h = omega arith
    by false h = h

decimal_by : (P : ℕ → Type 0) → ((d : ℕ) → d < 10 → P (digit_glyph false d)) → (n : ℕ) → AllByRecursion P (decimal n)
unfolding digits
decimal_by P f n = digit_by P f 64 n [] tt

pub decimal_short : (n : ℕ) → length (decimal n) ≤ 65
unfolding digits
decimal_short n = digits_short 64 n []

-- ---- identifiers of letters, digits and `_`

abbrev pub is_plain_ascii : ℕ → Bool
is_plain_ascii b = nat_lt b 128 && (is_ascii_alphanumeric b || (b == 95))

abbrev pub ArePlain : List ℕ → Type 0
ArePlain bs = AllByRecursion (λ b. is_plain_ascii b ≡ true) bs

digit_plain : (d : ℕ) → d < 10 → is_plain_ascii (digit_glyph false d) ≡ true
digit_plain d l = agree_below_at (λ x. is_plain_ascii (digit_glyph false x)) (λ x. true) 10 d refl l

plain_continue : (bs : List ℕ) → ArePlain bs → AllByRecursion (λ c. IsTrue (is_xid_continue c)) bs × (all_scalars bs ≡ true) × IsAscii bs
plain_continue [] h = (tt, refl, IsAscii-nil)
plain_continue (b ∷ bs) h =
    let p = and_parts (nat_lt b 128) (is_ascii_alphanumeric b || (b == 95)) h.0 in
    let l : b < 128 = ltb-true b 128 p.0 in
    let ih = plain_continue bs h.1 in
    ((is_xid_continue-ascii b l ∙ p.1, ih.0), and_from (scalar b) (all_scalars bs) (low_scalar b (omega (arith, l))) ih.1, IsAscii-cons b bs l ih.2)

pub plain_identifier : (b : ℕ) (bs : List ℕ) → b < 128 → is_ascii_alphabetic b ≡ true → ArePlain (b ∷ bs) → IsIdentifier (b ∷ bs)
plain_identifier b bs l letter h =
    let starts : starts_name b ≡ true = or_left (is_xid_start b) (b == 95) (is_xid_start-ascii b l ∙ letter) in
    let all = plain_continue (b ∷ bs) h in
    (b ∷ bs, (starts, all.0.1), all.1, encodes-IsAscii (b ∷ bs) all.2)

pub decimal_plain : (n : ℕ) → ArePlain (decimal n)
decimal_plain n = decimal_by (λ b. is_plain_ascii b ≡ true) digit_plain n
