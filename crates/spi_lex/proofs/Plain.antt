-- ASCII bytes at the front that continue a name.
use Rattle.std.proofs.Common.{◌≡◌, ℕ, zero, suc, ◌+◌, ◌-◌, ◌<◌, ◌≤◌, Bool, true, ◌||◌, ◌==◌, inl, inr, List, [], ◌∷◌, ◌++◌, length, take, drop, length-drop, length-take-le, get_or, refl, sym, ◌∙◌, ap, subst, arith, leb}
use Rattle.std.proofs.lemmas.Bool.{cases_Bool, cond-true, cond-false, agree_below_at, and_parts, and_from, leb-true, eqb-true, or_cases}
use Rattle.std.proofs.lemmas.List.{drop-drop}
use Rattle.std.proofs.lemmas.Str.{encode_ascii, IsCharBoundary-after_ascii}
use Rattle.std.specs.List.{prefix_len}
use Rattle.std.specs.Char.{is_ascii_alphabetic, is_ascii_alphanumeric}
use Rattle.std.specs.Int.{is_in_range}
use Rattle.std.specs.Str.{encode_utf8_all, all_scalars, IsUtf8, IsCharBoundary}
use Rattle.unicode_ident.proofs.IdentLemmas.{is_xid_start-ascii, is_xid_continue-ascii}
use lib.Utf8.{scalar}
use Rattle.spi_lex.specs.declared.scan.Shape.TheVariants as shapes
use Rattle.spi_lex.specs.Front.{is_plain, is_letter, StopsPlain, IsPlainEnd, PassesNameCharacters, Continues, IsFront}
use Rattle.spi_lex.proofs.Fronts.{passes_none, stops_at_end, stops_at_char, name_front}

in_range : (low high b : ℕ) → high < 128 → is_in_range low high b ≡ true → b < 128
in_range low high b h r = let t = leb-true b high (and_parts (leb low b) (leb b high) r).1 in omega (arith, t)

pub plain_ascii : (b : ℕ) → is_plain b ≡ true → b < 128
plain_ascii b h = elim (or_cases (is_ascii_alphanumeric b) (b == 95) h) [
  | inl word ↦ elim (or_cases (is_in_range 48 57 b || is_in_range 65 90 b) (is_in_range 97 122 b) word) [
    | inl early ↦ elim (or_cases (is_in_range 48 57 b) (is_in_range 65 90 b) early) [
      | inl digit ↦ in_range 48 57 b (omega arith) digit
      | inr upper ↦ in_range 65 90 b (omega arith) upper
    ]
    | inr lower ↦ in_range 97 122 b (omega arith) lower
  ]
  | inr line ↦ (let e = eqb-true b 95 line in omega (arith, e))
]

-- where the first of the text are all plain, the others are counted behind them
pub run_goes_on : (n : ℕ) (text : List ℕ) → n ≤ length text → prefix_len is_plain (take n text) ≡ n
    → prefix_len is_plain text ≡ n + prefix_len is_plain (drop n text)
run_goes_on zero text h e = omega arith
run_goes_on (suc n) [] h e = absurd (omega arith)
run_goes_on (suc n) (b ∷ bs) h e = elim (cases_Bool (is_plain b)) [
  | inl is ↦
      let all : 1 + prefix_len is_plain (take n bs) ≡ suc n = sym (cond-true (is_plain b) (1 + prefix_len is_plain (take n bs)) 0 is) ∙ e in
      let more = run_goes_on n bs (omega arith) (omega (arith, all)) in
      cond-true (is_plain b) (1 + prefix_len is_plain bs) 0 is ∙ omega (arith, more)
  | inr isnt ↦
      let none : 0 ≡ suc n = sym (cond-false (is_plain b) (1 + prefix_len is_plain (take n bs)) 0 isnt) ∙ e in
      absurd (omega (arith, none))
]

-- so sixteen more are counted
pub sixteen_more : (text : List ℕ) (at : ℕ) → at + 16 ≤ length text → prefix_len is_plain text ≡ at + prefix_len is_plain (drop at text)
    → prefix_len is_plain (take (at + 16 - at) (drop at text)) ≡ length (take (at + 16 - at) (drop at text))
    → prefix_len is_plain text ≡ at + 16 + prefix_len is_plain (drop (at + 16) text)
sixteen_more text at h so_far all =
    let wide : at + 16 - at ≡ 16 = omega arith in
    let rest : length (drop at text) ≡ length text - at = length-drop at text in
    let fits : 16 ≤ length (drop at text) = omega (arith, rest) in
    let sixteen : prefix_len is_plain (take 16 (drop at text)) ≡ 16 =
    subst (λ (n : ℕ). prefix_len is_plain (take n (drop at text)) ≡ length (take n (drop at text))) wide all ∙ length-take-le 16 (drop at text) fits in
    let more = run_goes_on 16 (drop at text) fits sixteen in
    let past : prefix_len is_plain (drop 16 (drop at text)) ≡ prefix_len is_plain (drop (at + 16) text) = ap (prefix_len is_plain) (drop-drop 16 at text) in
    omega (arith, so_far, more, past)

-- they pass
pub plain_passes : (text : List ℕ) → PassesNameCharacters text (drop (prefix_len is_plain text) text)
plain_passes [] = passes_none []
plain_passes (b ∷ bs) = elim (cases_Bool (is_plain b)) [
  | inl is ↦
      let h : PassesNameCharacters bs (drop (prefix_len is_plain bs) bs) = plain_passes bs in
      let rest : List ℕ = drop (prefix_len is_plain bs) bs in
      let ascii = plain_ascii b is in
      let one_more : suc (prefix_len is_plain bs) ≡ 1 + prefix_len is_plain bs = omega arith in
      let all : PassesNameCharacters (b ∷ bs) rest = record {
        name = b ∷ h.name;
        continue = (is_xid_continue-ascii b ascii ∙ is, h.continue);
        scalars = and_from (scalar b) (all_scalars h.name) (agree_below_at scalar (λ c. true) 128 b refl ascii) h.scalars;
        text_is = ap (λ (cs : List ℕ). b ∷ cs) h.text_is
            ∙ ap (λ (cs : List ℕ). (cs ++ encode_utf8_all h.name) ++ rest) (sym (encode_ascii b ascii));
      } in
      subst (λ (n : ℕ). PassesNameCharacters (b ∷ bs) (drop n (b ∷ bs)))
      (one_more ∙ sym (cond-true (is_plain b) (1 + prefix_len is_plain bs) 0 is)) all
  | inr isnt ↦
      subst (λ (n : ℕ). PassesNameCharacters (b ∷ bs) (drop n (b ∷ bs)))
      (sym (cond-false (is_plain b) (1 + prefix_len is_plain bs) 0 isnt)) (passes_none (b ∷ bs))
]

-- and they stop
pub plain_stops : (text : List ℕ) → StopsPlain (drop (prefix_len is_plain text) text)
plain_stops [] b bs e = absurd (cc)
plain_stops (c ∷ cs) b bs e = elim (cases_Bool (is_plain c)) [
  | inl is ↦
      let one_more : prefix_len is_plain (c ∷ cs) ≡ suc (prefix_len is_plain cs) =
      cond-true (is_plain c) (1 + prefix_len is_plain cs) 0 is ∙ omega arith in
      plain_stops cs b bs (ap (λ (n : ℕ). drop n (c ∷ cs)) (sym one_more) ∙ e)
  | inr isnt ↦
      let none : prefix_len is_plain (c ∷ cs) ≡ 0 = cond-false (is_plain c) (1 + prefix_len is_plain cs) 0 isnt in
      let same : c ∷ cs ≡ b ∷ bs = ap (λ (n : ℕ). drop n (c ∷ cs)) (sym none) ∙ e in
      let first : c ≡ b = cc in
      ap is_plain (sym first) ∙ isnt
]

-- so a name ends there
pub plain_ends : (text rest : List ℕ) → PassesNameCharacters text rest → StopsPlain rest → IsPlainEnd rest → Continues text rest
plain_ends text [] h s n = stops_at_end text [] h refl
plain_ends text (b ∷ bs) h s n =
    let ascii = n b bs refl in
    stops_at_char text (b ∷ bs) bs b h (ap (λ (cs : List ℕ). cs ++ bs) (sym (encode_ascii b ascii)))
    (is_xid_continue-ascii b ascii ∙ s b bs refl)

letter_ascii : (b : ℕ) → is_letter b ≡ true → b < 128
letter_ascii b h = elim (or_cases (is_ascii_alphabetic b) (b == 95) h) [
  | inl letter ↦ elim (or_cases (is_in_range 65 90 b) (is_in_range 97 122 b) letter) [
    | inl upper ↦ in_range 65 90 b (omega arith) upper
    | inr lower ↦ in_range 97 122 b (omega arith) lower
  ]
  | inr line ↦ (let e = eqb-true b 95 line in omega (arith, e))
]

-- a name may begin with a letter
pub letter_cut : (text : List ℕ) → IsUtf8 text → 0 < length text → is_letter (get_or text 0 0) ≡ true
    → IsCharBoundary text 1
letter_cut text u some h = IsCharBoundary-after_ascii text 0 u some (letter_ascii (get_or text 0 0) h)

pub letter_front : (text rest after : List ℕ) → IsUtf8 text → IsUtf8 after → 0 < length text
    → is_letter (get_or text 0 0) ≡ true → rest ≡ drop 1 text → Continues rest after
    → IsFront text shapes.Identifier (length text - length after)
letter_front [] rest after u v some h e k = absurd (omega arith)
letter_front (b ∷ bs) rest after u v some h e k =
    let ascii = letter_ascii b h in
    name_front (b ∷ bs) rest after b u v
    (ap (λ (cs : List ℕ). b ∷ cs) (sym e) ∙ ap (λ (cs : List ℕ). cs ++ rest) (sym (encode_ascii b ascii)))
    (ap (λ (t : Bool). t || (b == 95)) (is_xid_start-ascii b ascii) ∙ h) k
