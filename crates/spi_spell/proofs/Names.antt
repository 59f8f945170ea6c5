-- The names of bound variables are words that no version reserves, and the numbers in them are small.
use Rattle.std.proofs.Common.{◌≡◌, ℕ, zero, suc, ◌+◌, ◌*◌, ◌<◌, ◌≤◌, ◌⊎◌, ◌^◌, Bool, true, false, not, ◌&&◌, ◌||◌, ◌==◌, IsTrue, if◌then◌else◌, inl, inr, List, [], ◌∷◌, ◌++◌, length, codes, Option, Some, None, slice_get, refl, ◌∙◌, ap, subst, arith, nat_le, nat_lt, le-leb, le-ltb, lt-ltb}
use Rattle.std.proofs.lemmas.Bool.{cases_lt, and_from, or_left, agree_below_at, cond-false, cond-true}
use Rattle.std.proofs.lemmas.Fmt.{decimal_is_IsNumeral_wide, length-decimal-le_wide, IsAscii-decimal_wide}
use Rattle.std.proofs.lemmas.Str.{encodes-IsAscii}
use Rattle.std.proofs.lemmas.Str.Ascii.{IsAscii-cons}
use Rattle.std.proofs.lemmas.Str.Parse.{digit_from_value}
use Rattle.std.specs.Prelude.{⊤}
use Rattle.std.specs.Fmt.{decimal}
use Rattle.std.specs.List.{AllByRecursion}
use Rattle.std.specs.Char.{is_ascii_alphanumeric}
use Rattle.std.specs.Str.{all_scalars}
use Rattle.std.specs.Str.Parse.{AllDigits, digits_value}
use lib.Utf8.{scalar, low_scalar}
use Rattle.unicode_ident.specs.Ident.{is_xid_start, is_xid_continue}
use Rattle.unicode_ident.proofs.IdentLemmas.{is_xid_start-ascii, is_xid_continue-ascii}
use Rattle.spi_lex.specs.declared.token.Kind.TheVariants as kinds
use Rattle.spi_lex.specs.Words.{words_of, word_of}
use Rattle.spi_lex.specs.Lexeme.{starts_name, IsIdentifier}
use Rattle.spi_lex.specs.Writing.{IsKind}
use Rattle.spi_show.specs.Spelled.{bound_text, given_text, name_text, IsApart, IsShift}

-- ---- a `v` and digits

digit_continues : (b : ℕ) → 48 ≤ b → b ≤ 57 → is_xid_continue b ≡ true
digit_continues b low high =
    let all : (not (nat_le 48 b && nat_le b 57) || (is_ascii_alphanumeric b || (b == 95))) ≡ true = agree_below_at (λ c. not (nat_le 48 c && nat_le c 57) || (is_ascii_alphanumeric c || (c == 95))) (λ c. true) 128 b refl (omega arith) in
    let here : (nat_le 48 b && nat_le b 57) ≡ true = and_from _ _ (le-leb 48 b low) (le-leb b 57 high) in
    is_xid_continue-ascii b (omega arith) ∙ subst (λ (x : Bool). (not x || (is_ascii_alphanumeric b || (b == 95))) ≡ true) here all

digits_continue : (ds : List ℕ) → AllDigits 10 ds → AllByRecursion (λ c. IsTrue (is_xid_continue c)) ds × (all_scalars ds ≡ true)
digits_continue [] h = (tt, refl)
digits_continue (d ∷ ds) h =
    let r = digit_from_value d h.0 in
    let ih = digits_continue ds h.1 in
    ((digit_continues d (omega (arith, r)) (omega (arith, r)), ih.0), and_from (scalar d) (all_scalars ds) (low_scalar d (omega (arith, r))) ih.1)

identifier : (i : ℕ) → i < 10 ^ 64 → IsIdentifier (codes "v" ++ decimal i)
identifier i low =
    let ds = digits_continue (decimal i) (decimal_is_IsNumeral_wide i low).0.1 in
    let starts : starts_name 118 ≡ true = or_left (is_xid_start 118) (118 == 95) (is_xid_start-ascii 118 (omega arith)) in
    (118 ∷ decimal i, (starts, ds.0), ds.1, encodes-IsAscii (118 ∷ decimal i) (IsAscii-cons 118 (decimal i) (omega arith) (IsAscii-decimal_wide i low)))

not_reserved : (later : Bool) (ds : List ℕ) → word_of (words_of later) (118 ∷ ds) ≡ None
not_reserved true ds = refl
not_reserved false ds = refl

pub bound_fit : (later : Bool) (i : ℕ) → i < 10 ^ 64 → IsKind (words_of later) (kinds.Word (codes "v" ++ decimal i))
bound_fit later i low = (identifier i low, omega (arith, length-decimal-le_wide 64 i (omega arith) low low), not_reserved later (decimal i))

listed : (P : List ℕ → Type 0) (ws : List (List ℕ)) → AllByRecursion P ws → (i : ℕ) (w : List ℕ) → slice_get ws i ≡ Some w → P w
listed P [] h i w e = absurd cc
listed P (x ∷ ws) h zero w e = (let same : x ≡ w = cc in subst P same h.0)
listed P (x ∷ ws) h (suc i) w e = listed P ws h.1 i w e

given : (P : List ℕ → Type 0) (o : Option (List ℕ)) (other : List ℕ) → ((w : List ℕ) → o ≡ Some w → P w) → P other → P (given_text o other)
given P None other f h = h
given P (Some w) other f h = f w refl

-- every name has a word of the version
pub name_fit : (later : Bool) (s : ℕ) (free : List (List ℕ)) → AllByRecursion (λ w. IsKind (words_of later) (kinds.Word w)) free → s < 10 ^ 60 → (i : ℕ) → i < 100000 → IsKind (words_of later) (kinds.Word (name_text s free i))
name_fit later s free fit low i few =
    let P : List ℕ → Type 0 = λ (w : List ℕ). IsKind (words_of later) (kinds.Word w) in
    given P (slice_get free i) (bound_text s i) (λ w e. listed P free fit i w e) (bound_fit later (i + s) (omega arith))

-- ---- the least number by which bound names are moved up

-- the number in a bound name
abbrev value_of_digits : List ℕ → ℕ
value_of_digits [] = 0
value_of_digits (c ∷ ds) = digits_value 10 ds

-- how many names have at least this number
abbrev count_words : ℕ → List (List ℕ) → ℕ
count_words s [] = 0
count_words s (w ∷ ws) = if nat_lt (value_of_digits w) s then count_words s ws else suc (count_words s ws)

-- none has one of the 100,000 numbers from this one on
abbrev IsFreeFrom : ℕ → List (List ℕ) → Type 0
IsFreeFrom s [] = ⊤
IsFreeFrom s (w ∷ ws) = ((value_of_digits w < s) ⊎ (s + 100000 ≤ value_of_digits w)) × IsFreeFrom s ws

passed : (s : ℕ) (w : List ℕ) (ws : List (List ℕ)) → value_of_digits w < s → count_words s (w ∷ ws) ≡ count_words s ws
passed s w ws h = cond-true (nat_lt (value_of_digits w) s) (count_words s ws) (suc (count_words s ws)) (lt-ltb (value_of_digits w) s h)

counted : (s : ℕ) (w : List ℕ) (ws : List (List ℕ)) → s ≤ value_of_digits w → count_words s (w ∷ ws) ≡ suc (count_words s ws)
counted s w ws h = cond-false (nat_lt (value_of_digits w) s) (count_words s ws) (suc (count_words s ws)) (le-ltb (value_of_digits w) s h)

at_most : (s : ℕ) (ws : List (List ℕ)) → count_words s ws ≤ length ws
at_most s [] = omega arith
at_most s (w ∷ ws) = elim (cases_lt (value_of_digits w) s) [
  | inl below ↦ omega (arith, passed s w ws below, at_most s ws)
  | inr above ↦ omega (arith, counted s w ws above, at_most s ws)
]

fewer : (s : ℕ) (ws : List (List ℕ)) → count_words (s + 100000) ws ≤ count_words s ws
fewer s [] = omega arith
fewer s (w ∷ ws) = elim (cases_lt (value_of_digits w) (s + 100000)) [
  | inl below ↦ elim (cases_lt (value_of_digits w) s) [
    | inl low ↦ omega (arith, passed (s + 100000) w ws below, passed s w ws low, fewer s ws)
    | inr high ↦ omega (arith, passed (s + 100000) w ws below, counted s w ws high, fewer s ws)
  ]
  | inr above ↦ omega (arith, counted (s + 100000) w ws above, counted s w ws (omega arith), fewer s ws)
]

-- none is there, or fewer have at least the number behind them
decided : (s : ℕ) (ws : List (List ℕ)) → IsFreeFrom s ws ⊎ (suc (count_words (s + 100000) ws) ≤ count_words s ws)
decided s [] = inl tt
decided s (w ∷ ws) = elim (cases_lt (value_of_digits w) (s + 100000)) [
  | inl below ↦ elim (cases_lt (value_of_digits w) s) [
    | inl low ↦ elim (decided s ws) [
      | inl free ↦ inl (inl low, free)
      | inr less ↦ inr (omega (arith, passed (s + 100000) w ws below, passed s w ws low))
    ]
    | inr high ↦ inr (omega (arith, passed (s + 100000) w ws below, counted s w ws high, fewer s ws))
  ]
  | inr above ↦ elim (decided s ws) [
    | inl free ↦ inl (inr above, free)
    | inr less ↦ inr (omega (arith, counted (s + 100000) w ws above, counted s w ws (omega arith)))
  ]
]

found : (n s : ℕ) (ws : List (List ℕ)) → count_words s ws ≤ n → (r : ℕ) × (r ≤ s + 100000 * n) × IsFreeFrom r ws
found zero s ws few = elim (decided s ws) [
  | inl free ↦ (s, omega arith, free)
  | inr less ↦ absurd (omega arith)
]
found (suc n) s ws few = elim (decided s ws) [
  | inl free ↦ (s, omega arith, free)
  | inr less ↦ (let x = found n (s + 100000) ws (omega arith) in (x.0, omega (arith, x.1), x.2))
]

value_of : (w : List ℕ) (i : ℕ) → i < 10 ^ 64 → w ≡ codes "v" ++ decimal i → value_of_digits w ≡ i
value_of w i low e = ap value_of_digits e ∙ (decimal_is_IsNumeral_wide i low).1

free_apart : (r : ℕ) (ws : List (List ℕ)) → r + 100000 ≤ 10 ^ 64 → IsFreeFrom r ws → IsApart ws r
free_apart r [] low h i x from to e = absurd cc
free_apart r (w ∷ ws) low h i zero from to e =
    let same : w ≡ codes "v" ++ decimal i = cc in
    let v = value_of w i (omega arith) same in
    elim h.0 [
      | inl below ↦ absurd (omega (arith, v))
      | inr above ↦ absurd (omega (arith, v))
    ]
free_apart r (w ∷ ws) low h i (suc x) from to e = free_apart r ws low h.1 i x from to e

pub shift_low : (free : List (List ℕ)) (s : ℕ) → IsShift free s → length free ≤ 100000 → s < 10 ^ 60
shift_low free s shift few =
    let x = found (length free) 0 free (at_most 0 free) in
    elim (cases_lt x.0 s) [
      | inl before ↦ absurd (shift.least x.0 before (free_apart x.0 free (omega (arith, x.1)) x.2))
      | inr behind ↦ omega (arith, x.1)
    ]
