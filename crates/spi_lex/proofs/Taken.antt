-- The tokens that are taken one by one are those of the whole text.
use Rattle.std.proofs.Common.{◌≡◌, ℕ, zero, suc, ◌+◌, ◌-◌, length-drop, ◌<◌, ◌≤◌, ◌^◌, Bool, true, false, inl, inr, Option, Some, None, List, [], ◌∷◌, length, take, drop, map, codes, Result, Ok, refl, sym, ◌∙◌, ap, subst, arith, length-take-le}
use Rattle.std.proofs.lemmas.Bool.{cases_lt, and_parts, cond-true, cond-false, le-leb, lt-leb, lt-ltb, le-ltb}
use Rattle.std.proofs.lemmas.Str.{IsUtf8-drop}
use Rattle.std.specs.Str.{IsUtf8, bytes_eq}
use Rattle.std.specs.Str.Parse.{digits_value}
use Rattle.spi_lex.specs.declared.token.Token.{Token}
use Rattle.spi_lex.specs.declared.token.Kind.{Kind}
use Rattle.spi_lex.specs.declared.token.Reserved.{Reserved}
use Rattle.spi_lex.specs.declared.fault.LexFault.{LexFault}
use Rattle.spi_lex.specs.declared.scan.Shape.{Shape}
use Rattle.spi_lex.specs.declared.scan.Shape.TheVariants as shapes
use Rattle.spi_lex.specs.Words.{version_1, version_2, words_of, word_of}
use Rattle.spi_lex.specs.Lexeme.{Lexeme, identifier, number, mark, IsLongest, SpellsLexeme}
use Rattle.spi_lex.specs.Lexing.{LexPiece, Leads, here, past_gap, past_piece, IsAllowed, word_kind, kind_of, token_of, tokens_lexed, kinds_of, is_version_2, is_version, is_two, is_semicolon, Lexes, to_tokens, not_utf8, bad_char, bad_number, name_too_long}
use Rattle.spi_lex.specs.Front.{lexeme_of, IsShape, IsFront}
use Rattle.spi_lex.specs.Left.{is_allowed, left_of, tokens_in}
use Rattle.spi_lex.proofs.Parts.{part_of}
use Rattle.spi_lex.proofs.Unique.{one_length, Refused, Stop, at_end, at_none, at_refused}
use Rattle.spi_lex.proofs.Total.{front_of}
use Rattle.spi_lex.specs.Writing.{AreKinds, AreSpans, spans_of}
use Rattle.spi_lex.proofs.Lexed.{same_bytes, from_leads}
use Rattle.spi_lex.proofs.Left.{shape_part, one_shape, left_gap, left_lexeme, left_refused, left_none, left_empty}

-- the longest part stands at the front
pub front_from_longest : (text : List ℕ) (shape : Shape) (n : ℕ) → IsUtf8 text → IsLongest text n → IsShape shape (take n text) → IsFront text shape n
front_from_longest text shape n u l s =
    let some : 0 < length (take n text) = (part_of (take n text) (shape_part shape (take n text) s)).0 in
    let len : length (take n text) ≡ n = length-take-le n text l.within in
    let within = l.within in
    elim (front_of text u (omega arith)) [
      | inl f ↦ (
          let e : f.1 ≡ n = one_length text f.1 n f.2.longest (shape_part f.0 (take f.1 text) f.2.is_shape) l (shape_part shape (take n text) s) in
          let same : f.0 ≡ shape = one_shape f.0 shape (take n text) (subst (λ (i : ℕ). IsShape f.0 (take i text)) e f.2.is_shape) s in
          subst (λ (k : Shape). IsFront text k n) same (subst (IsFront text f.0) e f.2))
      | inr none ↦ absurd (none.none n l.within (shape_part shape (take n text) s))
    ]

-- the shape of a lexeme
abbrev pub shape_of : Lexeme → Shape
shape_of (identifier name) = shapes.Identifier
shape_of (number value) = shapes.Number
shape_of (mark m) = shapes.Sign m

pub shape_spelled : (lexeme : Lexeme) (bytes : List ℕ) → SpellsLexeme lexeme bytes → IsShape (shape_of lexeme) bytes
shape_spelled (identifier name) bytes s = (s.0, refl)
shape_spelled (number value) bytes s = (s.0, refl)
shape_spelled (mark m) bytes s = s

pub lexeme_spelled : (lexeme : Lexeme) (bytes : List ℕ) → SpellsLexeme lexeme bytes → lexeme_of (shape_of lexeme) bytes ≡ Some lexeme
lexeme_spelled (identifier name) bytes s = ap (λ (bs : List ℕ). Some (identifier bs)) (sym s.1)
lexeme_spelled (number value) bytes s = ap (λ (v : ℕ). Some (number v)) (sym s.1)
lexeme_spelled (mark m) bytes s = refl

pub allowed : (lexeme : Lexeme) → IsAllowed lexeme → is_allowed lexeme ≡ true
allowed (identifier name) a = le-leb (length name) 255 a
allowed (number value) a = lt-ltb value _ a
allowed (mark m) a = refl

not_allowed : (lexeme : Lexeme) → Refused lexeme → is_allowed lexeme ≡ false
not_allowed (identifier name) r = lt-leb (length name) 255 r
not_allowed (number value) r = le-ltb value _ r
not_allowed (mark m) r = absurd r

-- nothing is left where lexing stops
stopped : (later : Bool) (at : ℕ) (text : List ℕ) → IsUtf8 text → Stop text → left_of later at text ≡ []
stopped later at text u at_end = left_empty later at [] refl
stopped later at text u (at_none h) = left_none later at text u h
stopped later at text u (at_refused n lexeme l s r) =
    left_refused later at text (shape_of lexeme) n lexeme u (front_from_longest text (shape_of lexeme) n u l (shape_spelled lexeme (take n text) s)) (lexeme_spelled lexeme (take n text) s) (not_allowed lexeme r)

-- and what is left before are the tokens of the lexemes on the way there
pub lexed_left : {at to : ℕ} {text rest : List ℕ} {pieces : List LexPiece} → Leads at text pieces to rest → Stop rest → IsUtf8 text → (later : Bool) → left_of later at text ≡ map (token_of (words_of later)) pieces
lexed_left {at = at} {text = text} here s u later = stopped later at text u s
lexed_left {at = at} {text = text} (past_gap n l g h) s u later =
    let f = front_from_longest text shapes.Gap n u l g in
    left_gap later at text n u f ∙ lexed_left h s (IsUtf8-drop text n u f.cut) later
lexed_left {at = at} {text = text} (past_piece n lexeme l k a h) s u later =
    let f = front_from_longest text (shape_of lexeme) n u l (shape_spelled lexeme (take n text) k) in
    left_lexeme later at text (shape_of lexeme) n lexeme u f (lexeme_spelled lexeme (take n text) k) (allowed lexeme a)
    ∙ ap (λ (ts : List Token). token_of (words_of later) (record { lexeme = lexeme; from = at; to = at + n }) ∷ ts) (lexed_left h s (IsUtf8-drop text n u f.cut) later)

-- the first three tokens of a file of version 2 are the same in both versions
version_same : (name : List ℕ) → bytes_eq name (codes "version") ≡ true → kind_of version_2 (identifier name) ≡ kind_of version_1 (identifier name)
version_same name e =
    let P : List ℕ → Type 0 = λ (bs : List ℕ). kind_of version_2 (identifier bs) ≡ kind_of version_1 (identifier bs) in
    subst P (sym (same_bytes name (codes "version") e)) refl

word_same : (name : List ℕ) (found : Option Reserved) → is_version (word_kind name found) ≡ true → bytes_eq name (codes "version") ≡ true
word_same name None e = e
word_same name (Some word) e = cc

no_number : (name : List ℕ) (found : Option Reserved) → is_two (word_kind name found) ≡ true → ⊥
no_number name None e = cc
no_number name (Some word) e = cc

no_mark : (name : List ℕ) (found : Option Reserved) → is_semicolon (word_kind name found) ≡ true → ⊥
no_mark name None e = cc
no_mark name (Some word) e = cc

same_version : (lexeme : Lexeme) → is_version (kind_of version_1 lexeme) ≡ true → kind_of version_2 lexeme ≡ kind_of version_1 lexeme
same_version (identifier name) e = version_same name (word_same name (word_of version_1 name) e)
same_version (number value) e = refl
same_version (mark m) e = refl

same_two : (lexeme : Lexeme) → is_two (kind_of version_1 lexeme) ≡ true → kind_of version_2 lexeme ≡ kind_of version_1 lexeme
same_two (identifier name) e = absurd (no_number name (word_of version_1 name) e)
same_two (number value) e = refl
same_two (mark m) e = refl

same_semicolon : (lexeme : Lexeme) → is_semicolon (kind_of version_1 lexeme) ≡ true → kind_of version_2 lexeme ≡ kind_of version_1 lexeme
same_semicolon (identifier name) e = absurd (no_mark name (word_of version_1 name) e)
same_semicolon (number value) e = refl
same_semicolon (mark m) e = refl

same_token : (p : LexPiece) → kind_of version_2 p.lexeme ≡ kind_of version_1 p.lexeme → token_of version_2 p ≡ token_of version_1 p
same_token p e = ap (λ (k : Kind). record { kind = k; span = record { from = p.from; to = p.to } }) e

by_version : (pieces : List LexPiece) (v : Bool) → is_version_2 (kinds_of (map (token_of version_1) pieces)) ≡ v → map (token_of (words_of v)) pieces ≡ tokens_lexed pieces
by_version pieces false e = sym (cond-false _ _ (map (token_of version_1) pieces) e)
by_version [] true e = cc
by_version (a ∷ []) true e = cc
by_version (a ∷ b ∷ []) true e = cc
by_version (a ∷ b ∷ c ∷ ps) true e =
    let p = and_parts _ _ e in
    let q = and_parts _ _ p.0 in
    let rest : List Token = map (token_of version_2) ps in
    ap (λ (t : Token). t ∷ token_of version_2 b ∷ token_of version_2 c ∷ rest) (same_token a (same_version a.lexeme q.0))
    ∙ ap (λ (t : Token). token_of version_1 a ∷ t ∷ token_of version_2 c ∷ rest) (same_token b (same_two b.lexeme q.1))
    ∙ ap (λ (t : Token). token_of version_1 a ∷ token_of version_1 b ∷ t ∷ rest) (same_token c (same_semicolon c.lexeme p.1))
    ∙ sym (cond-true _ _ (map (token_of version_1) (a ∷ b ∷ c ∷ ps)) e)

-- so all tokens of a text are left at its front, by the version that its first three tell
pub all_left : {text rest : List ℕ} {pieces : List LexPiece} {to : ℕ} → IsUtf8 text → Leads 0 text pieces to rest → Stop rest → tokens_in text ≡ tokens_lexed pieces
all_left {text = text} {pieces = pieces} u h s =
    let first : left_of false 0 text ≡ map (token_of version_1) pieces = lexed_left h s u false in
    let v : Bool = is_version_2 (kinds_of (map (token_of version_1) pieces)) in
    ap (λ (ts : List Token). left_of (is_version_2 (kinds_of ts)) 0 text) first ∙ lexed_left h s u v ∙ by_version pieces v refl

view : {text : List ℕ} {a : Result (List Token) LexFault} (tokens : List Token) → Lexes text a → a ≡ Ok tokens → tokens_in text ≡ tokens
view tokens (to_tokens {pieces = pieces} u h) e = (let same : tokens_lexed pieces ≡ tokens = cc in all_left u h at_end ∙ same)
view tokens (not_utf8 v) e = cc
view tokens (bad_char u h none) e = cc
view tokens (bad_number n value u h l s most) e = cc
view tokens (name_too_long n name u h l s long) e = cc

pub tokens_are_left : (text : List ℕ) (tokens : List Token) → Lexes text (Ok tokens) → tokens_in text ≡ tokens
tokens_are_left text tokens h = view tokens h refl

-- and they tell the same version
version_kept : (pieces : List LexPiece) (v : Bool) → is_version_2 (kinds_of (map (token_of version_1) pieces)) ≡ v → is_version_2 (kinds_of (tokens_lexed pieces)) ≡ v
version_kept pieces false e = ap (λ (ts : List Token). is_version_2 (kinds_of ts)) (cond-false _ _ (map (token_of version_1) pieces) e) ∙ e
version_kept [] true e = cc
version_kept (a ∷ []) true e = cc
version_kept (a ∷ b ∷ []) true e = cc
version_kept (a ∷ b ∷ c ∷ ps) true e = ap (λ (ts : List Token). is_version_2 (kinds_of ts)) (cond-true _ _ (map (token_of version_1) (a ∷ b ∷ c ∷ ps)) e) ∙ e

view_version : {text : List ℕ} {a : Result (List Token) LexFault} (tokens : List Token) → Lexes text a → a ≡ Ok tokens → is_version_2 (kinds_of (left_of false 0 text)) ≡ is_version_2 (kinds_of tokens)
view_version tokens (to_tokens {pieces = pieces} u h) e =
    let same : tokens_lexed pieces ≡ tokens = cc in
    let v : Bool = is_version_2 (kinds_of (map (token_of version_1) pieces)) in
    ap (λ (ts : List Token). is_version_2 (kinds_of ts)) (lexed_left h at_end u false) ∙ sym (version_kept pieces v refl) ∙ ap (λ (ts : List Token). is_version_2 (kinds_of ts)) same
view_version tokens (not_utf8 v) e = cc
view_version tokens (bad_char u h none) e = cc
view_version tokens (bad_number n value u h l s most) e = cc
view_version tokens (name_too_long n name u h l s long) e = cc

pub version_told : (text : List ℕ) (tokens : List Token) → Lexes text (Ok tokens) → is_version_2 (kinds_of (left_of false 0 text)) ≡ is_version_2 (kinds_of tokens)
version_told text tokens h = view_version tokens h refl

pub left_by_version : (text : List ℕ) (tokens : List Token) → Lexes text (Ok tokens) → left_of (is_version_2 (kinds_of tokens)) 0 text ≡ tokens
left_by_version text tokens h = ap (λ (v : Bool). left_of v 0 text) (sym (version_told text tokens h)) ∙ tokens_are_left text tokens h

-- longest match leads from each text to where it stops
abbrev pub Way : ℕ → List ℕ → Type 0
Way at text = (pieces : List LexPiece) × (to : ℕ) × (rest : List ℕ) × Leads at text pieces to rest × Stop rest

with_piece : (at n : ℕ) (text : List ℕ) (lexeme : Lexeme) → IsLongest text n → SpellsLexeme lexeme (take n text) → IsAllowed lexeme → Way (at + n) (drop n text) → Way at text
with_piece at n text lexeme l s a w = (record { lexeme = lexeme; from = at; to = at + n } ∷ w.0, w.1, w.2, past_piece n lexeme l s a w.3, w.4)

by_shape : (at n : ℕ) (text : List ℕ) (shape : Shape) → IsFront text shape n → Way (at + n) (drop n text) → Way at text
by_shape at n text shapes.Gap f w = (w.0, w.1, w.2, past_gap n f.longest f.is_shape w.3, w.4)
by_shape at n text shapes.Identifier f w = elim (cases_lt 255 (length (take n text))) [
  | inl long ↦ ([], at, text, here, at_refused n (identifier (take n text)) f.longest f.is_shape long)
  | inr short ↦ with_piece at n text (identifier (take n text)) f.longest f.is_shape short w
]
by_shape at n text shapes.Number f w = elim (cases_lt (digits_value 10 (take n text)) (2 ^ 32)) [
  | inl small ↦ with_piece at n text (number (digits_value 10 (take n text))) f.longest f.is_shape small w
  | inr most ↦ ([], at, text, here, at_refused n (number (digits_value 10 (take n text))) f.longest f.is_shape most)
]
by_shape at n text (shapes.Sign m) f w = with_piece at n text (mark m) f.longest f.is_shape tt w

pub way : (fuel at : ℕ) (text : List ℕ) → length text ≤ fuel → IsUtf8 text → Way at text
way fuel at [] le u = ([], at, [], here, at_end)
way zero at (b ∷ bs) le u = absurd (omega arith)
way (suc fuel) at (b ∷ bs) le u = elim (front_of (b ∷ bs) u (omega arith)) [
  | inr none ↦ ([], at, b ∷ bs, here, at_none none)
  | inl f ↦ (
      let some = f.2.some in
      let d : length (drop f.1 (b ∷ bs)) ≡ length (b ∷ bs) - f.1 = length-drop f.1 (b ∷ bs) in
      by_shape at f.1 (b ∷ bs) f.0 f.2 (way fuel (at + f.1) (drop f.1 (b ∷ bs)) (omega arith) (IsUtf8-drop (b ∷ bs) f.1 u f.2.cut)))
]

-- so the tokens of a text are in form, in order, and no more than its bytes
spans_few : (at end : ℕ) (tokens : List Token) → AreSpans at (spans_of tokens) end → at + length tokens ≤ end
spans_few at end [] h = omega arith
spans_few at end (t ∷ ts) h = (let ih = spans_few t.span.to end ts h.2 in let from = h.0 in let some = h.1 in omega arith)

pub record InForm (text : List ℕ) : Type 0 where
  pub kinds : AreKinds (kinds_of (tokens_in text))
  pub spans : AreSpans 0 (spans_of (tokens_in text)) (length text)
  pub few : length (tokens_in text) ≤ length text

pub in_form : (text : List ℕ) → IsUtf8 text → InForm text
in_form text u =
    let w = way (length text) 0 text (omega arith) u in
    let same : tokens_in text ≡ tokens_lexed w.0 = all_left u w.3 w.4 in
    let facts = from_leads w.3 in
    let spans : AreSpans 0 (spans_of (tokens_in text)) (length text) = subst (λ (ts : List Token). AreSpans 0 (spans_of ts) (length text)) (sym same) facts.1 in
    let few = spans_few 0 (length text) (tokens_in text) spans in
    record {
      kinds = subst (λ (ts : List Token). AreKinds (kinds_of ts)) (sym same) facts.0;
      spans = spans;
      few = omega (arith, few);
    }
