-- The places of each eighth token of a text.
use Rattle.std.proofs.Common.{◌≡◌, ℕ, zero, suc, ◌+◌, ◌-◌, ◌*◌, ◌<◌, ◌≤◌, Bool, Option, Some, None, MatchOption, List, [], ◌∷◌, ◌++◌, length, drop, take, map, slice_get, refl, length-append, sym, ◌∙◌, ap, subst, arith, length-drop, drop-drop, inl, inr}
use Rattle.std.proofs.lemmas.Bool.{cases_lt}
use Rattle.std.proofs.lemmas.Str.{IsUtf8-drop, IsCharBoundary-start, IsCharBoundary-from_rest}
use Rattle.std.specs.Str.{IsUtf8, IsCharBoundary}
use Rattle.spi_lex.specs.declared.token.Token.{Token}
use Rattle.spi_lex.specs.declared.scan.Shape.TheVariants as shapes
use Rattle.spi_lex.specs.Words.{words_of}
use Rattle.spi_lex.specs.Lexing.{LexPiece, Leads, here, past_gap, past_piece, token_of}
use Rattle.spi_lex.specs.Left.{left_of, tokens_in, later_in, end_of}
use Rattle.spi_lex.specs.Places.{IsPlace, ArePlaces, AreRising, IsNotBefore, start_of}
use Rattle.spi_lex.specs.Writing.{AreSpans, spans_of}
use Rattle.spi_lex.specs.declared.token.Kind.{Kind}
use Rattle.spi_lex.specs.declared.token.Kind.TheVariants as kinds
use Rattle.spi_lex.specs.declared.reader.Seen.{Seen}
use Rattle.spi_lex.specs.declared.reader.Seen.TheVariants as seen
use Rattle.spi_text.specs.declared.lines.Span.{Span}
use Rattle.spi_lex.specs.Reader.{seen_kind, tokens_from}
use Rattle.spi_lex.specs.declared.tokens.Next.{Next}
use Rattle.spi_lex.specs.Numbered.{IsAt, IsFirstOf}
use Rattle.spi_lex.proofs.Unique.{Stop}
use Rattle.spi_lex.proofs.Left.{left_gap, left_lexeme}
use Rattle.spi_lex.proofs.Taken.{lexed_left, way, front_from_longest, shape_of, shape_spelled, lexeme_spelled, allowed}

-- ---- behind a token, the tokens behind it stand

-- the text behind so many bytes is behind the first so many pieces
record Cut (later : Bool) (at : ℕ) (text : List ℕ) (i : ℕ) (offset : ℕ) : Type 0 where
  after : at ≤ offset
  within : offset ≤ at + length text
  cut : IsCharBoundary text (offset - at)
  behind : left_of later offset (drop (offset - at) text) ≡ drop i (left_of later at text)

-- and so it is where n bytes of the text come before it
further : (later : Bool) (at n : ℕ) (text : List ℕ) (i j offset : ℕ) → IsCharBoundary text n → n ≤ length text
    → drop i (left_of later (at + n) (drop n text)) ≡ drop j (left_of later at text)
    → Cut later (at + n) (drop n text) i offset → Cut later at text j offset
further later at n text i j offset cut le same c =
    let after = c.after in
    let within = c.within in
    let len = length-drop n text in
    let sum : n + (offset - (at + n)) ≡ offset - at = omega arith in
    record {
      after = omega arith;
      within = omega arith;
      cut = subst (IsCharBoundary text) sum (IsCharBoundary-from_rest text n (offset - (at + n)) le c.cut);
      behind = ap (λ (k : ℕ). left_of later offset (drop k text)) (sym sum) ∙ ap (left_of later offset) (sym (drop-drop (offset - (at + n)) n text)) ∙ c.behind ∙ same;
    }

-- the first piece is n bytes
first_cut : (later : Bool) (at n : ℕ) (text : List ℕ) (token : Token) → IsCharBoundary text n → n ≤ length text
    → left_of later at text ≡ token ∷ left_of later (at + n) (drop n text) → Cut later at text 1 (at + n)
first_cut later at n text token cut le is =
    let same : at + n - at ≡ n = omega arith in
    record {
      after = omega arith;
      within = omega arith;
      cut = subst (IsCharBoundary text) (sym same) cut;
      behind = ap (λ (k : ℕ). left_of later (at + n) (drop k text)) same ∙ sym (ap (drop 1) is);
    }

some_same : (p q : LexPiece) → Some p ≡ Some q → p ≡ q
some_same p q e = cc

cut_at : {at to : ℕ} {text rest : List ℕ} {pieces : List LexPiece} → Leads at text pieces to rest → Stop rest → IsUtf8 text → (later : Bool) (i : ℕ) (p : LexPiece) → slice_get pieces i ≡ Some p → Cut later at text (suc i) p.to
cut_at here s u later i p e = cc
cut_at {at = at} {text = text} (past_gap n l g h) s u later i p e =
    let f = front_from_longest text shapes.Gap n u l g in
    further later at n text (suc i) (suc i) p.to f.cut f.longest.within (ap (drop (suc i)) (sym (left_gap later at text n u f))) (cut_at h s (IsUtf8-drop text n u f.cut) later i p e)
cut_at {at = at} {text = text} (past_piece n lexeme l k a h) s u later zero p e =
    let f = front_from_longest text (shape_of lexeme) n u l (shape_spelled lexeme (take n text) k) in
    let same : at + n ≡ p.to = (let q = some_same _ p e in ap (λ (x : LexPiece). x.to) q) in
    subst (Cut later at text 1) same (first_cut later at n text _ f.cut f.longest.within (left_lexeme later at text (shape_of lexeme) n lexeme u f (lexeme_spelled lexeme (take n text) k) (allowed lexeme a)))
cut_at {at = at} {text = text} (past_piece n lexeme l k a h) s u later (suc i) p e =
    let f = front_from_longest text (shape_of lexeme) n u l (shape_spelled lexeme (take n text) k) in
    further later at n text (suc i) (suc (suc i)) p.to f.cut f.longest.within (sym (ap (drop (suc (suc i))) (left_lexeme later at text (shape_of lexeme) n lexeme u f (lexeme_spelled lexeme (take n text) k) (allowed lexeme a)))) (cut_at h s (IsUtf8-drop text n u f.cut) later i p e)

piece_of : (f : LexPiece → Token) (ps : List LexPiece) (i : ℕ) (t : Token) → slice_get (map f ps) i ≡ Some t → (p : LexPiece) × (slice_get ps i ≡ Some p) × (f p ≡ t)
piece_of f [] i t e = cc
piece_of f (p ∷ ps) zero t e = (p, refl, cc)
piece_of f (p ∷ ps) (suc i) t e = piece_of f ps i t e

pub place_behind : (text : List ℕ) → IsUtf8 text → (i : ℕ) (t : Token) → slice_get (tokens_in text) i ≡ Some t → IsPlace text (later_in text) (suc i) t.span.to
place_behind text u i t e =
    let w = way (length text) 0 text (omega arith) u in
    let later = later_in text in
    let all : left_of later 0 text ≡ map (token_of (words_of later)) w.0 = lexed_left w.3 w.4 u later in
    let q = piece_of (token_of (words_of later)) w.0 i t (ap (λ (ts : List Token). slice_get ts i) (sym all) ∙ e) in
    let c = cut_at w.3 w.4 u later i q.0 q.1 in
    let to : q.0.to ≡ t.span.to = ap (λ (x : Token). x.span.to) q.2 in
    let none : q.0.to - 0 ≡ q.0.to = omega arith in
    subst (IsPlace text later (suc i)) to (subst (IsCharBoundary text) none c.cut, ap (λ (k : ℕ). left_of later q.0.to (drop k text)) (sym none) ∙ c.behind)

-- ---- places are kept one by one

-- the tokens that are left where so many are taken, the last of which ends here, and the next place is so far ahead
pub record Taken (text places : List ℕ) (left : List Token) (count end ahead : ℕ) : Type 0 where
  pub left_is : left ≡ drop count (tokens_in text)
  pub some : count ≤ length (tokens_in text)
  pub kept : ArePlaces text (later_in text) places
  pub even : count + ahead ≡ 8 * length places
  pub few : ahead ≤ 8
  pub here : IsPlace text (later_in text) count end
  pub last : end ≡ end_of 0 (take count (tokens_in text))

pub none_taken : (text : List ℕ) (left : List Token) → IsUtf8 text → left ≡ tokens_in text → Taken text [] left 0 0 0
none_taken text left u is = record {
  left_is = is;
  some = omega arith;
  kept = λ k at e. cc;
  even = omega arith;
  few = omega arith;
  here = (IsCharBoundary-start text u, refl);
  last = refl;
}

kept_more : (text : List ℕ) (later : Bool) (j : ℕ) (places : List ℕ) (end : ℕ) → ((k at : ℕ) → slice_get places k ≡ Some at → IsPlace text later (8 * (j + k)) at) → IsPlace text later (8 * (j + length places)) end
    → (k at : ℕ) → slice_get (places ++ end ∷ []) k ≡ Some at → IsPlace text later (8 * (j + k)) at
kept_more text later j [] end kept p zero at e = (let same : end ≡ at = cc in subst (IsPlace text later (8 * (j + 0))) same p)
kept_more text later j [] end kept p (suc k) at e = cc
kept_more text later j (x ∷ xs) end kept p zero at e = kept 0 at e
kept_more text later j (x ∷ xs) end kept p (suc k) at e =
    let len : 8 * (j + suc (length xs)) ≡ 8 * (suc j + length xs) = omega arith in
    let index : 8 * (suc j + k) ≡ 8 * (j + suc k) = omega arith in
    subst (λ (n : ℕ). IsPlace text later n at) index
    (kept_more text later (suc j) xs end
    (λ i o h. (let more : 8 * (j + suc i) ≡ 8 * (suc j + i) = omega arith in subst (λ (n : ℕ). IsPlace text later n o) more (kept (suc i) o h)))
    (subst (λ (n : ℕ). IsPlace text later n end) len p) k at e)

pub place_kept : (text places : List ℕ) (left : List Token) (count end : ℕ) → Taken text places left count end 0 → Taken text (places ++ end ∷ []) left count end 8
place_kept text places left count end t =
    let even = t.even in
    let here : 8 * (0 + length places) ≡ count = omega arith in
    let len : length (places ++ end ∷ []) ≡ length places + 1 = length-append places (end ∷ []) in
    record {
      left_is = t.left_is;
      some = t.some;
      kept = λ k at e.
          let here_is = λ (i : ℕ). (let same : 8 * (0 + i) ≡ 8 * i = omega arith in same) in
          subst (λ (n : ℕ). IsPlace text (later_in text) n at) (here_is k)
          (kept_more text (later_in text) 0 places end
          (λ i o h. subst (λ (n : ℕ). IsPlace text (later_in text) n o) (sym (here_is i)) (t.kept i o h))
          (subst (λ (n : ℕ). IsPlace text (later_in text) n end) (sym here) t.here) k at e);
      even = omega arith;
      few = omega arith;
      here = t.here;
      last = t.last;
    }

-- the first of those that are left
pub first_left : (all : List Token) (n : ℕ) (t : Token) (more : List Token) → t ∷ more ≡ drop n all → (slice_get all n ≡ Some t) × (more ≡ drop (suc n) all) × (suc n ≤ length all)
first_left [] zero t more e = cc
first_left [] (suc n) t more e = cc
first_left (x ∷ xs) zero t more e = (cc, cc, omega arith)
first_left (x ∷ xs) (suc n) t more e = (let q = first_left xs n t more e in let le = q.2 in (q.0, q.1, omega arith))

last_end : (all : List Token) (n : ℕ) (t : Token) (so_far : ℕ) → slice_get all n ≡ Some t → t.span.to ≡ end_of so_far (take (suc n) all)
last_end [] n t so_far e = cc
last_end (x ∷ xs) zero t so_far e = (let same : x ≡ t = cc in ap (λ (y : Token). y.span.to) (sym same))
last_end (x ∷ xs) (suc n) t so_far e = last_end xs n t x.span.to e

pub one_taken : (text places : List ℕ) (t : Token) (more : List Token) (count end ahead : ℕ) → IsUtf8 text → 0 < ahead → Taken text places (t ∷ more) count end ahead → Taken text places more (count + 1) t.span.to (ahead - 1)
one_taken text places t more count end ahead u ahead_some h =
    let q = first_left (tokens_in text) count t more h.left_is in
    let even = h.even in
    let few = h.few in
    let next : suc count ≡ count + 1 = omega arith in
    subst (λ (n : ℕ). Taken text places more n t.span.to (ahead - 1)) next (record {
      left_is = q.1;
      some = q.2;
      kept = h.kept;
      even = omega arith;
      few = omega arith;
      here = place_behind text u count t q.0;
      last = last_end (tokens_in text) count t 0 q.0;
    })

abbrev no_tokens : List Token
no_tokens = []

take_none : (n : ℕ) → take n no_tokens ≡ no_tokens
take_none zero = refl
take_none (suc n) = refl

none_left : (all : List Token) (n : ℕ) → n ≤ length all → [] ≡ drop n all → (n ≡ length all) × (take n all ≡ all)
none_left [] n le e = (omega arith, take_none n)
none_left (x ∷ xs) zero le e = cc
none_left (x ∷ xs) (suc n) le e = (let q = none_left xs n (omega arith) e in let same = q.0 in (omega arith, ap (λ (ts : List Token). x ∷ ts) q.1))

pub all_taken : (text places : List ℕ) (count end ahead : ℕ) → 0 < ahead → Taken text places [] count end ahead → (length (tokens_in text) < 8 * length places) × (count ≡ length (tokens_in text)) × (end ≡ end_of 0 (tokens_in text))
all_taken text places count end ahead ahead_some h =
    let q = none_left (tokens_in text) count h.some h.left_is in
    let same = q.0 in
    let even = h.even in
    (omega arith, same, h.last ∙ ap (end_of 0) q.1)

-- ---- tokens and their places

-- what isn't nothing is a kind of token
some_kind : (kind : Seen) → (kind ≡ seen.Nothing → ⊥) → (k : Kind) × (seen_kind kind ≡ Some k)
some_kind seen.Nothing some = absurd (some refl)
some_kind (seen.Word word) some = (kinds.Word word.now, refl)
some_kind (seen.Reserved word) some = (kinds.Reserved word, refl)
some_kind (seen.Number value) some = (kinds.Number value, refl)
some_kind (seen.Mark m) some = (kinds.Mark m, refl)

-- and so the first of the tokens
pub next_is : (kind : Seen) (span : Span) (behind : List Token) → (kind ≡ seen.Nothing → ⊥) → (k : Kind) × (tokens_from (seen_kind kind) span behind ≡ record { kind = k; span = span } ∷ behind)
next_is kind span behind some = (let k = some_kind kind some in (k.0, ap (λ (o : Option Kind). tokens_from o span behind) k.1))

pub nothing_left : (kind : Seen) (span : Span) (behind : List Token) → kind ≡ seen.Nothing → tokens_from (seen_kind kind) span behind ≡ []
nothing_left kind span behind none = ap (λ (k : Seen). tokens_from (seen_kind k) span behind) none

from_there : (at end : ℕ) (ts : List Token) (k : ℕ) (b : Token) → AreSpans at (spans_of ts) end → slice_get ts k ≡ Some b → at ≤ b.span.from
from_there at end [] k b h e = cc
from_there at end (x ∷ xs) zero b h e = (let from = h.0 in let same : x ≡ b = cc in subst (λ (y : Token). at ≤ y.span.from) same from)
from_there at end (x ∷ xs) (suc k) b h e = (let from = h.0 in let some = h.1 in let on = from_there x.span.to end xs k b h.2 e in omega arith)

pub rises : (at end : ℕ) (ts : List Token) → AreSpans at (spans_of ts) end → AreRising ts
rises at end [] h n m a b lt e f = cc
rises at end (x ∷ xs) h n zero a b lt e f = absurd (omega (arith, lt))
rises at end (x ∷ xs) h zero (suc m) a b lt e f =
    let some = h.1 in
    let on = from_there x.span.to end xs m b h.2 f in
    let less : x.span.from < b.span.from = omega arith in
    let same : x ≡ a = cc in
    subst (λ (y : Token). y.span.from < b.span.from) same less
rises at end (x ∷ xs) h (suc n) (suc m) a b lt e f = rises x.span.to end xs h.2 n m a b (omega (arith, lt)) e f

-- ---- the number of the token that begins at an offset

pub at_the_end : (all : List Token) (from : ℕ) (start : Option ℕ) (number : ℕ) → number ≤ length all → [] ≡ drop number all → IsNotBefore all from start number
    → (n : ℕ) → from ≤ n → n ≤ length all → start ≡ start_of (drop n all) → number ≡ n
at_the_end all from start number within e before n le few there =
    let len : length (drop number all) ≡ length all - number = length-drop number all in
    let none : 0 ≡ length (drop number all) = ap length e in
    let most = before n le few there in
    omega arith

-- what stands at the number of a token
there_is : (all : List Token) (n : ℕ) (from : ℕ) → Some from ≡ start_of (drop n all) → (b : Token) × (slice_get all n ≡ Some b) × (from ≡ b.span.from)
there_is [] zero from e = cc
there_is [] (suc n) from e = cc
there_is (x ∷ xs) zero from e = (x, refl, cc)
there_is (x ∷ xs) (suc n) from e = there_is xs n from e

pub none_there : (all : List Token) (n : ℕ) → n ≤ length all → None ≡ start_of (drop n all) → length all ≡ n
none_there [] n le e = omega arith
none_there (x ∷ xs) zero le e = cc
none_there (x ∷ xs) (suc n) le e = (let same = none_there xs n (omega arith) e in omega arith)

-- none that begins there stands before a token that begins no further on
pub not_before : (all : List Token) (b : Token) (more : List Token) (from start next : ℕ) → AreRising all → b ∷ more ≡ drop next all → b.span.from ≤ start → IsNotBefore all from (Some start) next
not_before all b more from start next up is on n le few there =
    let first = first_left all next b more is in
    let a = there_is all n start there in
    elim (cases_lt n next) [
      | inl less ↦ absurd (let rise = up n next a.0 b less a.1 first.0 in let same = a.2 in omega arith)
      | inr least ↦ least
    ]

pub found_there : (all : List Token) (a : Token) (more : List Token) (from : ℕ) (start : Option ℕ) (number : ℕ) → AreRising all → a ∷ more ≡ drop number all → start ≡ Some a.span.from → IsNotBefore all from start number
    → (n : ℕ) → from ≤ n → n ≤ length all → start ≡ start_of (drop n all) → number ≡ n
found_there all a more from start number up is found before n le few there =
    let first = first_left all number a more is in
    let b = there_is all n a.span.from (sym found ∙ there) in
    let most = before n le few there in
    elim (cases_lt number n) [
      | inl less ↦ absurd (let rise = up number n a b.0 less first.0 b.1 in let same = b.2 in omega arith)
      | inr least ↦ omega arith
    ]

pub not_there : (all : List Token) (a : Token) (more : List Token) (from : ℕ) (start : Option ℕ) (number : ℕ) → a ∷ more ≡ drop number all → (start ≡ Some a.span.from → ⊥) → IsNotBefore all from start number → IsNotBefore all from start (number + 1)
not_there all a more from start number is other before n le few there =
    let most = before n le few there in
    elim (cases_lt number n) [
      | inl less ↦ omega arith
      | inr least ↦ absurd (let same : n ≡ number = omega arith in other (there ∙ ap (λ (i : ℕ). start_of (drop i all)) same ∙ sym (ap start_of is)))
    ]

-- ---- the first of the tokens from a number on is the token of that number

pub first_at : (all : List Token) (n : ℕ) (next : Next) → IsFirstOf (drop n all) next → IsAt all n next
first_at all n next (t, more, is, kind, span) = (t, (first_left all n t more (sym is)).0, kind, span)

pub none_at : (all : List Token) (n : ℕ) → drop n all ≡ [] → slice_get all n ≡ None
none_at [] n e = refl
none_at (x ∷ xs) zero e = cc
none_at (x ∷ xs) (suc n) e = none_at xs n e

pub first_of : (kind : Seen) (span : Span) (behind : List Token) → (kind ≡ seen.Nothing → ⊥) → (t : Token) × (more : List Token) × (tokens_from (seen_kind kind) span behind ≡ t ∷ more) × (seen_kind kind ≡ Some t.kind) × (span ≡ t.span)
first_of kind span behind some =
    let k = some_kind kind some in
    let token : Token = record { kind = k.0; span = span } in
    (token, behind, ap (λ (o : Option Kind). tokens_from o span behind) k.1, k.1, refl)

pub told_at : (all left : List Token) (n : ℕ) (r : Option Next) → left ≡ drop n all → MatchOption r (left ≡ []) (IsFirstOf left) → MatchOption r (slice_get all n ≡ None) (IsAt all n)
told_at all left n None is e = none_at all n (sym is ∙ e)
told_at all left n (Some next) is f = first_at all n next (subst (λ (ts : List Token). IsFirstOf ts next) is f)
