-- The tokens from a text on, by what stands at its front.
use Rattle.std.proofs.Common.{◌≡◌, ℕ, zero, suc, ◌+◌, ◌-◌, ◌<◌, ◌≤◌, ◌^◌, ◌==◌, Bool, true, false, cond, ◌&&◌, inl, inr, IsTrue, Option, Some, None, List, [], ◌∷◌, ◌++◌, length, take, drop, get_or, refl, sym, ◌∙◌, ap, subst, arith, eq-eqb, length-append, length-drop, length-take-le, take-append-drop, Result, Ok, Err}
use Rattle.std.proofs.lemmas.Bool.{cases_Bool, and_from, and_parts, eqb-true, cond-true, cond-false, false≢true, le-leb, lt-leb, lt-ltb, le-ltb}
use Rattle.std.proofs.lemmas.List.Sums.{prefix_len-le-length}
use Rattle.std.proofs.lemmas.Str.{IsUtf8-append, IsUtf8-from_ascii, IsUtf8-drop, encodes-append, encodes-chars, scalars-chars, chars-nil}
use Rattle.std.proofs.lemmas.Str.Ascii.{IsAscii-cons, IsAscii-nil}
use Rattle.std.specs.List.{AllByRecursion, prefix_len, position_or_len}
use Rattle.std.specs.Char.{is_ascii_digit}
use Rattle.std.specs.Str.{IsUtf8, IsCharBoundary, chars, encode_utf8_all, all_scalars}
use Rattle.std.specs.Str.Parse.{digits_value, ParsesUnsigned}
use Rattle.unicode_ident.specs.Ident.{is_xid_continue}
use lib.Utf8.{scalar}
use Rattle.spi_lex.specs.declared.scan.Class.{Class}
use Rattle.spi_lex.specs.declared.scan.Class.TheVariants as classes
use Rattle.spi_lex.specs.declared.scan.Shape.{Shape}
use Rattle.spi_lex.specs.declared.scan.Shape.TheVariants as shapes
use Rattle.spi_lex.specs.declared.token.Token.{Token}
use Rattle.spi_lex.specs.declared.token.Mark.{Mark}
use Rattle.spi_lex.specs.declared.token.Kind.{Kind}
use Rattle.spi_lex.specs.declared.token.Kind.TheVariants as kinds
use Rattle.spi_text.specs.declared.lines.Span.{Span}
use Rattle.spi_lex.specs.Words.{words_of}
use Rattle.spi_lex.specs.Lexeme.{Lexeme, identifier, number, mark, starts_name, is_blank, IsPart, StartsNone}
use Rattle.spi_lex.specs.Lexing.{token_of, kind_of, is_version_2, kinds_of, is_version, is_two, is_semicolon}
use Rattle.spi_lex.specs.Front.{class_of, lexeme_of, IsShape, IsFront, Continues}
use Rattle.spi_lex.specs.Left.{Found, comment_at, name_at, found_by, front_at, is_allowed, tokens_by, tokens_at, left, left_of}
use Rattle.spi_lex.specs.Reader.{tokens_from, is_next}
use Rattle.spi_lex.proofs.Classes.{Slash-is, blank_class}
use Rattle.spi_lex.proofs.Blanks.{blank_ascii}
use Rattle.spi_lex.proofs.Fronts.{blank_front, sign_front, digits_front, comment_front, no_comment, name_front, no_name}
use Rattle.spi_lex.proofs.Unique.{one_length, no_gap, one_lexeme}
use Rattle.spi_lex.proofs.Total.{stops_there}
use Rattle.spi_lex.proofs.Numerals.{number_value, number_above}

-- what is found stands there
abbrev pub IsFound : List ℕ → Option Found → Type 0
IsFound text None = StartsNone text
IsFound text (Some found) = IsFront text found.shape found.n

second_byte : (text : List ℕ) → get_or text 1 0 ≡ 47 → 1 < length text
second_byte [] e = absurd (omega arith)
second_byte (a ∷ []) e = absurd (omega arith)
second_byte (a ∷ b ∷ rest) e = omega arith

comment_is : (text : List ℕ) → IsUtf8 text → 0 < length text → class_of (get_or text 0 0) ≡ classes.Slash → IsFound text (comment_at text)
comment_is text u h k = elim (cases_Bool (get_or text 1 0 == 47)) [
  | inl second_slash ↦
      let second : get_or text 1 0 ≡ 47 = eqb-true (get_or text 1 0) 47 second_slash in
      subst (IsFound text) (sym (cond-true (get_or text 1 0 == 47) (Some (record { shape = shapes.Gap; n = 2 + position_or_len (λ b. b == 10) (drop 2 text) })) None second_slash))
      (comment_front text (position_or_len (λ b. b == 10) (drop 2 text)) u (second_byte text second) (Slash-is (get_or text 0 0) k) second refl)
  | inr other ↦
      subst (IsFound text) (sym (cond-false (get_or text 1 0 == 47) (Some (record { shape = shapes.Gap; n = 2 + position_or_len (λ b. b == 10) (drop 2 text) })) None other))
      (no_comment text h k (λ l s. false≢true (sym other ∙ eq-eqb (get_or text 1 0) 47 s)))
]

-- the characters that continue a name, and the one that stops it
continuing : (cs : List ℕ) → AllByRecursion (λ c. IsTrue (is_xid_continue c)) (take (prefix_len is_xid_continue cs) cs)
continuing [] = tt
continuing (c ∷ cs) = elim (cases_Bool (is_xid_continue c)) [
  | inl on ↦
      let n : suc (prefix_len is_xid_continue cs) ≡ prefix_len is_xid_continue (c ∷ cs) =
      sym (cond-true (is_xid_continue c) (1 + prefix_len is_xid_continue cs) 0 on ∙ omega arith) in
      subst (λ (i : ℕ). AllByRecursion (λ d. IsTrue (is_xid_continue d)) (take i (c ∷ cs))) n (on, continuing cs)
  | inr off ↦
      subst (λ (i : ℕ). AllByRecursion (λ d. IsTrue (is_xid_continue d)) (take i (c ∷ cs)))
      (sym (cond-false (is_xid_continue c) (1 + prefix_len is_xid_continue cs) 0 off)) tt
]

stopping : (cs : List ℕ) (d : ℕ) (others : List ℕ) → drop (prefix_len is_xid_continue cs) cs ≡ d ∷ others → is_xid_continue d ≡ false
stopping [] d others e = cc
stopping (c ∷ cs) d others e = elim (cases_Bool (is_xid_continue c)) [
  | inl on ↦
      let n : prefix_len is_xid_continue (c ∷ cs) ≡ suc (prefix_len is_xid_continue cs) =
      cond-true (is_xid_continue c) (1 + prefix_len is_xid_continue cs) 0 on ∙ omega arith in
      stopping cs d others (ap (λ (i : ℕ). drop i (c ∷ cs)) (sym n) ∙ e)
  | inr off ↦
      let n : prefix_len is_xid_continue (c ∷ cs) ≡ 0 = cond-false (is_xid_continue c) (1 + prefix_len is_xid_continue cs) 0 off in
      let same : c ∷ cs ≡ d ∷ others = ap (λ (i : ℕ). drop i (c ∷ cs)) (sym n) ∙ e in
      let first : c ≡ d = cc in
      ap is_xid_continue (sym first) ∙ off
]

scalars_apart : (front rest : List ℕ) → all_scalars (front ++ rest) ≡ true → (all_scalars front ≡ true) × (all_scalars rest ≡ true)
scalars_apart [] rest h = (refl, h)
scalars_apart (c ∷ cs) rest h = (let p = and_parts (scalar c) (all_scalars (cs ++ rest)) h in let q = scalars_apart cs rest p.1 in (and_from (scalar c) (all_scalars cs) p.0 q.0, q.1))

-- a name, by the characters of the text
first_name : (text : List ℕ) (c : ℕ) (cs : List ℕ) → IsUtf8 text → all_scalars (c ∷ cs) ≡ true → encode_utf8_all (c ∷ cs) ≡ text → starts_name c ≡ true
    → IsFront text shapes.Identifier (length (encode_utf8_all (c ∷ take (prefix_len is_xid_continue cs) cs)))
first_name text c cs u s e starts =
    let name : List ℕ = take (prefix_len is_xid_continue cs) cs in
    let rest : List ℕ = drop (prefix_len is_xid_continue cs) cs in
    let whole : name ++ rest ≡ cs = take-append-drop (prefix_len is_xid_continue cs) cs in
    let sc = scalars_apart name rest (ap all_scalars whole ∙ (and_parts (scalar c) (all_scalars cs) s).1) in
    let on : Continues (encode_utf8_all cs) (encode_utf8_all rest) = record {
      passes = record { name = name; continue = continuing cs; scalars = sc.0; text_is = ap encode_utf8_all (sym whole) ∙ encodes-append name rest };
      stops = stops_there rest (stopping cs);
    } in
    let bytes : text ≡ encode_utf8_all (c ∷ name) ++ encode_utf8_all rest = sym e ∙ ap (λ (ds : List ℕ). encode_utf8_all (c ∷ ds)) (sym whole) ∙ encodes-append (c ∷ name) rest in
    let len : length text ≡ length (encode_utf8_all (c ∷ name)) + length (encode_utf8_all rest) = ap length bytes ∙ length-append (encode_utf8_all (c ∷ name)) (encode_utf8_all rest) in
    let n : length text - length (encode_utf8_all rest) ≡ length (encode_utf8_all (c ∷ name)) = omega arith in
    subst (IsFront text shapes.Identifier) n (name_front text (encode_utf8_all cs) (encode_utf8_all rest) c u (rest, (sc.1, refl)) (sym e) starts on)

name_is : (text cs : List ℕ) → IsUtf8 text → 0 < length text → class_of (get_or text 0 0) ≡ classes.Other → all_scalars cs ≡ true → encode_utf8_all cs ≡ text → IsFound text (name_at cs)
name_is text [] u h k s e = absurd (let l : 0 ≡ length text = ap length e in omega arith)
name_is text (c ∷ cs) u h k s e = elim (cases_Bool (starts_name c)) [
  | inl starts ↦ subst (IsFound text) (sym (cond-true (starts_name c) (Some (record { shape = shapes.Identifier; n = length (encode_utf8_all (c ∷ take (prefix_len is_xid_continue cs) cs)) })) None starts)) (first_name text c cs u s e starts)
  | inr other ↦ subst (IsFound text) (sym (cond-false (starts_name c) (Some (record { shape = shapes.Identifier; n = length (encode_utf8_all (c ∷ take (prefix_len is_xid_continue cs) cs)) })) None other)) (no_name text (encode_utf8_all cs) c h k (sym e) other)
]

found_is : (text : List ℕ) (k : Class) → IsUtf8 text → 0 < length text → class_of (get_or text 0 0) ≡ k → IsFound text (found_by k text)
found_is text classes.Blank u h e = blank_front text u h e
found_is text classes.Digit u h e = digits_front text (prefix_len is_ascii_digit text) u h e refl
found_is text (classes.Sign m) u h e = sign_front text m u h e
found_is text classes.Slash u h e = comment_is text u h e
found_is text classes.Other u h e = name_is text (chars text) u h e (scalars-chars text u) (encodes-chars text u)

pub front_found : (text : List ℕ) → IsUtf8 text → 0 < length text → IsFound text (front_at text)
unfolding front_at
front_found text u h = found_is text (class_of (get_or text 0 0)) u h refl

-- one thing stands at the front
pub shape_part : (shape : Shape) (bytes : List ℕ) → IsShape shape bytes → IsPart bytes
shape_part shapes.Gap bytes s = inl s
shape_part shapes.Identifier bytes s = inr (identifier bytes, s)
shape_part shapes.Number bytes s = inr (number (digits_value 10 bytes), s)
shape_part (shapes.Sign m) bytes s = inr (mark m, s)

pub one_shape : (a b : Shape) (bytes : List ℕ) → IsShape a bytes → IsShape b bytes → a ≡ b
one_shape shapes.Gap shapes.Gap bytes s t = refl
one_shape shapes.Gap shapes.Identifier bytes s t = absurd (no_gap (identifier bytes) bytes s t)
one_shape shapes.Gap shapes.Number bytes s t = absurd (no_gap (number (digits_value 10 bytes)) bytes s t)
one_shape shapes.Gap (shapes.Sign m) bytes s t = absurd (no_gap (mark m) bytes s t)
one_shape shapes.Identifier shapes.Gap bytes s t = absurd (no_gap (identifier bytes) bytes t s)
one_shape shapes.Identifier shapes.Identifier bytes s t = refl
one_shape shapes.Identifier shapes.Number bytes s t = (let e = one_lexeme (identifier bytes) (number (digits_value 10 bytes)) bytes s t in cc)
one_shape shapes.Identifier (shapes.Sign m) bytes s t = (let e = one_lexeme (identifier bytes) (mark m) bytes s t in cc)
one_shape shapes.Number shapes.Gap bytes s t = absurd (no_gap (number (digits_value 10 bytes)) bytes t s)
one_shape shapes.Number shapes.Identifier bytes s t = (let e = one_lexeme (number (digits_value 10 bytes)) (identifier bytes) bytes s t in cc)
one_shape shapes.Number shapes.Number bytes s t = refl
one_shape shapes.Number (shapes.Sign m) bytes s t = (let e = one_lexeme (number (digits_value 10 bytes)) (mark m) bytes s t in cc)
one_shape (shapes.Sign m) shapes.Gap bytes s t = absurd (no_gap (mark m) bytes t s)
one_shape (shapes.Sign m) shapes.Identifier bytes s t = (let e = one_lexeme (mark m) (identifier bytes) bytes s t in cc)
one_shape (shapes.Sign m) shapes.Number bytes s t = (let e = one_lexeme (mark m) (number (digits_value 10 bytes)) bytes s t in cc)
one_shape (shapes.Sign m) (shapes.Sign n) bytes s t = (let e = one_lexeme (mark m) (mark n) bytes s t in let f : m ≡ n = cc in ap shapes.Sign f)

pub one_front : (text : List ℕ) (a b : Shape) (n m : ℕ) → IsFront text a n → IsFront text b m → (a ≡ b) × (n ≡ m)
one_front text a b n m f g =
    let e : n ≡ m = one_length text n m f.longest (shape_part a (take n text) f.is_shape) g.longest (shape_part b (take m text) g.is_shape) in
    (one_shape a b (take m text) (subst (λ (i : ℕ). IsShape a (take i text)) e f.is_shape) g.is_shape, e)

from_found : (text : List ℕ) (shape : Shape) (n : ℕ) (o : Option Found) → IsFront text shape n → IsFound text o → o ≡ Some (record { shape = shape; n = n })
from_found text shape n None f none = absurd (none.none n f.longest.within (shape_part shape (take n text) f.is_shape))
from_found text shape n (Some found) f k =
    let e = one_front text found.shape shape found.n n k f in
    ap (λ (s : Shape). Some (record { shape = s; n = found.n })) e.0 ∙ ap (λ (i : ℕ). Some (record { shape = shape; n = i })) e.1

pub front_is : (text : List ℕ) (shape : Shape) (n : ℕ) → IsUtf8 text → IsFront text shape n → front_at text ≡ Some (record { shape = shape; n = n })
front_is text shape n u f =
    let some = f.some in
    let within = f.longest.within in
    from_found text shape n (front_at text) f (front_found text u (omega arith))

from_none : (text : List ℕ) (o : Option Found) → StartsNone text → IsFound text o → o ≡ None
from_none text None h k = refl
from_none text (Some found) h k = absurd (h.none found.n k.longest.within (shape_part found.shape (take found.n text) k.is_shape))

pub front_none : (text : List ℕ) → IsUtf8 text → StartsNone text → front_at text ≡ None
front_none text u h = from_none text (front_at text) h (front_found text u h.more)

front_nil : front_at [] ≡ None
unfolding front_at
front_nil = ap name_at chars-nil

-- more turns than bytes change nothing
left_nil : (turns : ℕ) (later : Bool) (at : ℕ) → left turns later at [] ≡ []
unfolding left
left_nil zero later at = refl
left_nil (suc turns) later at = ap (tokens_at later at [] (λ n. left turns later (at + n) (drop n []))) front_nil

same_by : (later : Bool) (at : ℕ) (f g : ℕ → List Token) (n : ℕ) (o : Option Lexeme) → f n ≡ g n → tokens_by later at f n o ≡ tokens_by later at g n o
same_by later at f g n None e = e
same_by later at f g n (Some lexeme) e = ap (λ (ts : List Token). cond (is_allowed lexeme) (token_of (words_of later) (record { lexeme = lexeme; from = at; to = at + n }) ∷ ts) []) e

same_at : (later : Bool) (at : ℕ) (text : List ℕ) (f g : ℕ → List Token) (o : Option Found) → IsFound text o
    → ((n : ℕ) → 0 < n → n ≤ length text → IsCharBoundary text n → f n ≡ g n) → tokens_at later at text f o ≡ tokens_at later at text g o
same_at later at text f g None h e = refl
same_at later at text f g (Some found) h e = same_by later at f g found.n (lexeme_of found.shape (take found.n text)) (e found.n h.some h.longest.within h.cut)

pub left_turns : (n m : ℕ) (later : Bool) (at : ℕ) (text : List ℕ) → IsUtf8 text → length text ≤ n → length text ≤ m → left n later at text ≡ left m later at text
unfolding left
left_turns n m later at [] u h k = left_nil n later at ∙ sym (left_nil m later at)
left_turns zero m later at (b ∷ bs) u h k = absurd (omega arith)
left_turns (suc n) zero later at (b ∷ bs) u h k = absurd (omega arith)
left_turns (suc n) (suc m) later at (b ∷ bs) u h k =
    same_at later at (b ∷ bs) (λ i. left n later (at + i) (drop i (b ∷ bs))) (λ i. left m later (at + i) (drop i (b ∷ bs))) (front_at (b ∷ bs)) (front_found (b ∷ bs) u (omega arith))
    (λ i some within cut.
    let d : length (drop i (b ∷ bs)) ≡ length (b ∷ bs) - i = length-drop i (b ∷ bs) in
    left_turns n m later (at + i) (drop i (b ∷ bs)) (IsUtf8-drop (b ∷ bs) i u cut) (omega arith) (omega arith))

pub left_step : (later : Bool) (at : ℕ) (text : List ℕ) → IsUtf8 text → left_of later at text ≡ tokens_at later at text (λ n. left_of later (at + n) (drop n text)) (front_at text)
unfolding left
left_step later at [] u = sym (ap (tokens_at later at [] (λ n. left_of later (at + n) (drop n []))) front_nil)
left_step later at (b ∷ bs) u =
    same_at later at (b ∷ bs) (λ i. left (length bs) later (at + i) (drop i (b ∷ bs))) (λ i. left_of later (at + i) (drop i (b ∷ bs))) (front_at (b ∷ bs)) (front_found (b ∷ bs) u (omega arith))
    (λ i some within cut.
    let d : length (drop i (b ∷ bs)) ≡ length (b ∷ bs) - i = length-drop i (b ∷ bs) in
    left_turns (length bs) (length (drop i (b ∷ bs))) later (at + i) (drop i (b ∷ bs)) (IsUtf8-drop (b ∷ bs) i u cut) (omega arith) (omega arith))

-- by what stands at the front
pub left_front : (later : Bool) (at : ℕ) (text : List ℕ) (shape : Shape) (n : ℕ) → IsUtf8 text → IsFront text shape n
    → left_of later at text ≡ tokens_by later at (λ i. left_of later (at + i) (drop i text)) n (lexeme_of shape (take n text))
left_front later at text shape n u f = left_step later at text u ∙ ap (tokens_at later at text (λ i. left_of later (at + i) (drop i text))) (front_is text shape n u f)

pub left_gap : (later : Bool) (at : ℕ) (text : List ℕ) (n : ℕ) → IsUtf8 text → IsFront text shapes.Gap n → left_of later at text ≡ left_of later (at + n) (drop n text)
left_gap later at text n u f = left_front later at text shapes.Gap n u f

pub left_lexeme : (later : Bool) (at : ℕ) (text : List ℕ) (shape : Shape) (n : ℕ) (lexeme : Lexeme) → IsUtf8 text → IsFront text shape n → lexeme_of shape (take n text) ≡ Some lexeme → is_allowed lexeme ≡ true
    → left_of later at text ≡ token_of (words_of later) (record { lexeme = lexeme; from = at; to = at + n }) ∷ left_of later (at + n) (drop n text)
left_lexeme later at text shape n lexeme u f e a =
    left_front later at text shape n u f ∙ ap (tokens_by later at (λ i. left_of later (at + i) (drop i text)) n) e
    ∙ cond-true (is_allowed lexeme) (token_of (words_of later) (record { lexeme = lexeme; from = at; to = at + n }) ∷ left_of later (at + n) (drop n text)) [] a

pub left_refused : (later : Bool) (at : ℕ) (text : List ℕ) (shape : Shape) (n : ℕ) (lexeme : Lexeme) → IsUtf8 text → IsFront text shape n → lexeme_of shape (take n text) ≡ Some lexeme → is_allowed lexeme ≡ false
    → left_of later at text ≡ []
left_refused later at text shape n lexeme u f e a =
    left_front later at text shape n u f ∙ ap (tokens_by later at (λ i. left_of later (at + i) (drop i text)) n) e
    ∙ cond-false (is_allowed lexeme) (token_of (words_of later) (record { lexeme = lexeme; from = at; to = at + n }) ∷ left_of later (at + n) (drop n text)) [] a

pub left_none : (later : Bool) (at : ℕ) (text : List ℕ) → IsUtf8 text → StartsNone text → left_of later at text ≡ []
left_none later at text u h = left_step later at text u ∙ ap (tokens_at later at text (λ i. left_of later (at + i) (drop i text))) (front_none text u h)

pub left_empty : (later : Bool) (at : ℕ) (text : List ℕ) → length text ≡ 0 → left_of later at text ≡ []
left_empty later at [] e = left_nil 0 later at
left_empty later at (b ∷ bs) e = absurd (omega arith)

-- blanks are passed
pub left_blanks : (later : Bool) (at : ℕ) (text : List ℕ) → IsUtf8 text → left_of later at text ≡ left_of later (at + prefix_len is_blank text) (drop (prefix_len is_blank text) text)
left_blanks later at [] u = ap (λ (i : ℕ). left_of later i []) (let e : at ≡ at + 0 = omega arith in e)
left_blanks later at (b ∷ bs) u = elim (cases_Bool (is_blank b)) [
  | inl is ↦
      let f : IsFront (b ∷ bs) shapes.Gap 1 = blank_front (b ∷ bs) u (omega arith) (blank_class b is) in
      let n : suc (prefix_len is_blank bs) ≡ prefix_len is_blank (b ∷ bs) = sym (cond-true (is_blank b) (1 + prefix_len is_blank bs) 0 is ∙ omega arith) in
      let more : at + 1 + prefix_len is_blank bs ≡ at + suc (prefix_len is_blank bs) = omega arith in
      left_gap later at (b ∷ bs) 1 u f ∙ left_blanks later (at + 1) bs (IsUtf8-drop (b ∷ bs) 1 u f.cut)
      ∙ ap (λ (i : ℕ). left_of later i (drop (prefix_len is_blank bs) bs)) more
      ∙ ap (λ (i : ℕ). left_of later (at + i) (drop i (b ∷ bs))) n
  | inr isnt ↦
      let none : 0 ≡ prefix_len is_blank (b ∷ bs) = sym (cond-false (is_blank b) (1 + prefix_len is_blank bs) 0 isnt) in
      let same : at ≡ at + 0 = omega arith in
      ap (λ (i : ℕ). left_of later i (b ∷ bs)) same ∙ ap (λ (i : ℕ). left_of later (at + i) (drop i (b ∷ bs))) none
]

-- by its lexeme
pub left_word : (later : Bool) (at : ℕ) (text : List ℕ) (n : ℕ) → IsUtf8 text → IsFront text shapes.Identifier n → n ≤ 255
    → left_of later at text ≡ tokens_from (Some (kind_of (words_of later) (identifier (take n text)))) (record { from = at; to = at + n }) (left_of later (at + n) (drop n text))
left_word later at text n u f short =
    let len : length (take n text) ≡ n = length-take-le n text f.longest.within in
    left_lexeme later at text shapes.Identifier n (identifier (take n text)) u f refl (le-leb (length (take n text)) 255 (omega arith))

pub left_long : (later : Bool) (at : ℕ) (text : List ℕ) (n : ℕ) → IsUtf8 text → IsFront text shapes.Identifier n → 255 < n → left_of later at text ≡ []
left_long later at text n u f long =
    let len : length (take n text) ≡ n = length-take-le n text f.longest.within in
    left_refused later at text shapes.Identifier n (identifier (take n text)) u f refl (lt-leb (length (take n text)) 255 (omega arith))

pub left_number : {E : Type 0} (later : Bool) (at : ℕ) (text bytes : List ℕ) (n value : ℕ) (r : Result ℕ E) → IsUtf8 text → IsFront text shapes.Number n → bytes ≡ take n text → ParsesUnsigned 32 10 bytes r → r ≡ Ok value
    → left_of later at text ≡ tokens_from (Some (kinds.Number value)) (record { from = at; to = at + n }) (left_of later (at + n) (drop n text))
left_number later at text bytes n value r u f e p is =
    let q = number_value (take n text) r value f.is_shape.0 (subst (λ (bs : List ℕ). ParsesUnsigned 32 10 bs r) e p) is in
    left_lexeme later at text shapes.Number n (number (digits_value 10 (take n text))) u f refl (lt-ltb (digits_value 10 (take n text)) (2 ^ 32) q.1)
    ∙ ap (λ (v : ℕ). tokens_from (Some (kinds.Number v)) (record { from = at; to = at + n }) (left_of later (at + n) (drop n text))) (sym q.0)

pub left_above : {E : Type 0} (later : Bool) (at : ℕ) (text bytes : List ℕ) (n : ℕ) (r : Result ℕ E) (error : E) → IsUtf8 text → IsFront text shapes.Number n → bytes ≡ take n text → ParsesUnsigned 32 10 bytes r → r ≡ Err error
    → left_of later at text ≡ []
left_above later at text bytes n r error u f e p is =
    left_refused later at text shapes.Number n (number (digits_value 10 (take n text))) u f refl
    (le-ltb (digits_value 10 (take n text)) (2 ^ 32) (number_above (take n text) r error f.is_shape.0 (subst (λ (bs : List ℕ). ParsesUnsigned 32 10 bs r) e p) is))

pub left_mark : (later : Bool) (at : ℕ) (text : List ℕ) (m : Mark) (n : ℕ) → IsUtf8 text → IsFront text (shapes.Sign m) n
    → left_of later at text ≡ tokens_from (Some (kinds.Mark m)) (record { from = at; to = at + n }) (left_of later (at + n) (drop n text))
left_mark later at text m n u f = left_lexeme later at text (shapes.Sign m) n (mark m) u f refl refl

-- behind blanks, and behind a gap
pub behind_blanks : (later : Bool) (at : ℕ) (text rest : List ℕ) → IsUtf8 text → rest ≡ drop (prefix_len is_blank text) text
    → left_of later at text ≡ left_of later (at + (length text - length rest)) rest
behind_blanks later at text rest u e =
    let le : prefix_len is_blank text ≤ length text = prefix_len-le-length is_blank text in
    let len : length rest ≡ length text - prefix_len is_blank text = ap length e ∙ length-drop (prefix_len is_blank text) text in
    let to : at + prefix_len is_blank text ≡ at + (length text - length rest) = omega arith in
    left_blanks later at text u ∙ ap (left_of later (at + prefix_len is_blank text)) (sym e) ∙ ap (λ (i : ℕ). left_of later i rest) to

pub behind_gap : (later : Bool) (at : ℕ) (text behind rest : List ℕ) (n : ℕ) → IsUtf8 text → IsFront text shapes.Gap n → behind ≡ drop n text → rest ≡ drop (prefix_len is_blank behind) behind
    → (left_of later at text ≡ left_of later (at + (length text - length rest)) rest) × (length rest < length text)
behind_gap later at text behind rest n u f e g =
    let some = f.some in
    let within = f.longest.within in
    let le : prefix_len is_blank behind ≤ length behind = prefix_len-le-length is_blank behind in
    let short : length behind ≡ length text - n = ap length e ∙ length-drop n text in
    let len : length rest ≡ length behind - prefix_len is_blank behind = ap length g ∙ length-drop (prefix_len is_blank behind) behind in
    let to : at + n + (length behind - length rest) ≡ at + (length text - length rest) = omega arith in (
      left_gap later at text n u f ∙ ap (left_of later (at + n)) (sym e)
          ∙ behind_blanks later (at + n) behind rest (subst IsUtf8 (sym e) (IsUtf8-drop text n u f.cut)) g ∙ ap (λ (i : ℕ). left_of later i rest) to,
      omega arith,
    )

-- the same, where only what is behind them is known to be text
pub blanks_utf8 : (text : List ℕ) → IsUtf8 (drop (prefix_len is_blank text) text) → IsUtf8 text
blanks_utf8 [] u = u
blanks_utf8 (b ∷ bs) u = elim (cases_Bool (is_blank b)) [
  | inl is ↦
      let n : prefix_len is_blank (b ∷ bs) ≡ suc (prefix_len is_blank bs) = cond-true (is_blank b) (1 + prefix_len is_blank bs) 0 is ∙ omega arith in
      IsUtf8-append (b ∷ []) bs (IsUtf8-from_ascii (b ∷ []) (IsAscii-cons b [] (blank_ascii b is) IsAscii-nil))
      (blanks_utf8 bs (subst (λ (i : ℕ). IsUtf8 (drop i (b ∷ bs))) n u))
  | inr isnt ↦ subst (λ (i : ℕ). IsUtf8 (drop i (b ∷ bs))) (cond-false (is_blank b) (1 + prefix_len is_blank bs) 0 isnt) u
]

pub before_blanks : (later : Bool) (at : ℕ) (text rest : List ℕ) → IsUtf8 rest → rest ≡ drop (prefix_len is_blank text) text
    → left_of later at text ≡ left_of later (at + (length text - length rest)) rest
before_blanks later at text rest u e = behind_blanks later at text rest (blanks_utf8 text (subst IsUtf8 e u)) e

-- the first three tokens tell the version
one_of_two : (x y : Bool) → false ≡ (x && false && y)
one_of_two true y = refl
one_of_two false y = refl

two_of_three : (x y : Bool) → false ≡ (x && y && false)
two_of_three true true = refl
two_of_three true false = refl
two_of_three false y = refl

told_by_kinds : (a b c : Option Kind) (s t r : Span) (rest : List Token)
    → is_version_2 (kinds_of (tokens_from a s (tokens_from b t (tokens_from c r rest)))) ≡ (is_next is_version a && is_next is_two b && is_next is_semicolon c)
told_by_kinds None b c s t r rest = refl
told_by_kinds (Some k) None c s t r rest = one_of_two (is_version k) (is_next is_semicolon c)
told_by_kinds (Some k) (Some l) None s t r rest = two_of_three (is_version k) (is_two l)
told_by_kinds (Some k) (Some l) (Some m) s t r rest = refl

pub version_told : (a b c : Option Kind) (s t r : Span) (all behind_one behind_two rest : List Token) → tokens_from a s behind_one ≡ all → tokens_from b t behind_two ≡ behind_one → tokens_from c r rest ≡ behind_two
    → (is_next is_version a && is_next is_two b && is_next is_semicolon c) ≡ is_version_2 (kinds_of all)
version_told a b c s t r all behind_one behind_two rest e f g =
    sym (told_by_kinds a b c s t r rest)
    ∙ ap (λ (ts : List Token). is_version_2 (kinds_of (tokens_from a s (tokens_from b t ts)))) g
    ∙ ap (λ (ts : List Token). is_version_2 (kinds_of (tokens_from a s ts))) f
    ∙ ap (λ (ts : List Token). is_version_2 (kinds_of ts)) e

-- a file whose first token isn't the word is of version 1
pub no_version : (first : Option Kind) (span : Span) (behind all : List Token) → tokens_from first span behind ≡ all → is_next is_version first ≡ false → false ≡ is_version_2 (kinds_of all)
no_version None span behind all is other = ap (λ (ts : List Token). is_version_2 (kinds_of ts)) is
no_version (Some kind) span [] all is other = ap (λ (ts : List Token). is_version_2 (kinds_of ts)) is
no_version (Some kind) span (a ∷ []) all is other = ap (λ (ts : List Token). is_version_2 (kinds_of ts)) is
no_version (Some kind) span (a ∷ b ∷ rest) all is other =
    ap (λ (v : Bool). v && is_two a.kind && is_semicolon b.kind) (sym other) ∙ ap (λ (ts : List Token). is_version_2 (kinds_of ts)) is
