-- What is lexed to its end is lexed so before a line feed as well: a line feed carries nothing on, and it ends a comment.
use Rattle.std.proofs.Common.{◌≡◌, ◌≢◌, ℕ, zero, suc, ◌+◌, ◌<◌, Bool, true, false, ◌||◌, ◌==◌, IsTrue, inl, inr, List, [], ◌∷◌, ◌++◌, length, take, drop, map, get_or, sym, ◌∙◌, ap, subst, arith, lit<, add_assoc, length-append, length-take-le}
use Rattle.std.proofs.lemmas.Bool.{cases_lt, cases_Bool, eqb-true, false≢true}
use Rattle.std.proofs.lemmas.List.{get_or-take, get_or-append-add, take-append-le, drop-append-le}
use Rattle.std.proofs.lemmas.List.Elements.{All-from_recursion}
use Rattle.std.proofs.lemmas.Str.Parse.{digit_at}
use Rattle.std.proofs.lemmas.Str.Pattern.{NoCharPasses-char}
use Rattle.std.specs.Int.{IsInRange}
use Rattle.std.specs.List.{AllByRecursion}
use Rattle.std.specs.Str.{NonePass}
use Rattle.unicode_ident.specs.Ident.{is_xid_continue}
use Rattle.unicode_ident.proofs.IdentLemmas.{is_xid_start-ascii, is_xid_continue-ascii}
use Rattle.spi_lex.specs.Lexeme.{starts_name, IsIdentifier, IsGap, SpellsLexeme, IsPart, IsLongest}
use Rattle.spi_lex.specs.Lexing.{LexPiece, Leads, here, past_gap, past_piece}
use Rattle.spi_lex.specs.declared.scan.Class.{Class}
use Rattle.spi_lex.specs.declared.scan.Class.TheVariants as classes
use Rattle.spi_lex.proofs.Parts.{IsOfClass, part_of}

-- a test that 10 doesn't pass tells a character from 10
passes_no_feed : (p : ℕ → Bool) (c : ℕ) → p 10 ≡ false → p c ≡ true → (c == 10) ≡ false
passes_no_feed p c none some = elim (cases_Bool (c == 10)) [
  | inl same ↦ absurd (false≢true (sym none ∙ (sym (ap p (eqb-true c 10 same)) ∙ some)))
  | inr other ↦ other
]

no_feed_starts : starts_name 10 ≡ false
no_feed_starts = ap (λ (b : Bool). b || (10 == 95)) (is_xid_start-ascii 10 (lit< tt))

no_feed_continues : is_xid_continue 10 ≡ false
no_feed_continues = is_xid_continue-ascii 10 (lit< tt)

no_feeds : (cs : List ℕ) → AllByRecursion (λ c. IsTrue (is_xid_continue c)) cs → NonePass (λ c. c == 10) cs
no_feeds [] h = tt
no_feeds (c ∷ cs) h = (passes_no_feed (λ x. is_xid_continue x) c no_feed_continues h.0, no_feeds cs h.1)

name_has_none : (front : List ℕ) (i : ℕ) → IsIdentifier front → i < length front → get_or front i 0 ≢ 10
name_has_none front i ([], n, s, e) lt = absurd n
name_has_none front i (c ∷ cs, n, s, e) lt =
    NoCharPasses-char 10 front i (c ∷ cs, e, (passes_no_feed (λ x. starts_name x) c no_feed_starts n.0, no_feeds cs n.1)) (lit< tt) lt

comment_has_none : (text : List ℕ) (i : ℕ) → AllByRecursion (λ b. b ≢ 10) text → i < length (47 ∷ 47 ∷ text) → get_or (47 ∷ 47 ∷ text) i 0 ≢ 10
comment_has_none text zero all lt = λ e. omega (arith, e)
comment_has_none text (suc zero) all lt = λ e. omega (arith, e)
comment_has_none text (suc (suc i)) all lt = All-from_recursion (λ b. b ≢ 10) text all i 0 (omega arith)

class_has_none : (k : Class) (front : List ℕ) (i : ℕ) → IsOfClass k front → 0 < i → i < length front → get_or front i 0 ≢ 10
class_has_none classes.Blank front i one some lt = λ z. absurd (omega arith)
class_has_none classes.Slash front i c some lt =
    let P : List ℕ → Type 0 = λ (bs : List ℕ). i < length bs → get_or bs i 0 ≢ 10 in
    subst P (sym c.2) (comment_has_none c.0 i c.1) lt
class_has_none classes.Digit front i num some lt = λ z. let r : IsInRange 48 57 (get_or front i 0) = digit_at front i num.1 lt in absurd (omega arith)
class_has_none (classes.Sign m) front i one some lt = λ z. absurd (omega arith)
class_has_none classes.Other front i ident some lt = name_has_none front i ident lt

-- no gap and no lexeme has a line feed behind its first byte
part_has_none : (front : List ℕ) (i : ℕ) → IsPart front → 0 < i → i < length front → get_or front i 0 ≢ 10
part_has_none front i part some lt = class_has_none _ front i (part_of front part).1 some lt

longest_on : (text more : List ℕ) (n : ℕ) → IsLongest text n → IsPart (take n text) → IsLongest (text ++ 10 ∷ more) n
longest_on text more n l part =
    let whole = length-append text (10 ∷ more) in
    let within = l.within in
    let some = (part_of (take n text) part).0 in
    let taken : length (take n text) ≡ n = length-take-le n text within in
    record {
      within = omega arith;
      longest = λ m further fits p. elim (cases_lt (length text) m) [
        | inl beyond ↦ (
            let all : length (take m (text ++ 10 ∷ more)) ≡ m = length-take-le m (text ++ 10 ∷ more) fits in
            let at : length text ≡ length text + 0 = omega arith in
            let feed : get_or (take m (text ++ 10 ∷ more)) (length text) 0 ≡ 10 = get_or-take m (text ++ 10 ∷ more) (length text) 0 beyond ∙ ap (λ (i : ℕ). get_or (text ++ 10 ∷ more) i 0) at ∙ get_or-append-add text (10 ∷ more) 0 0 in
            part_has_none (take m (text ++ 10 ∷ more)) (length text) p (omega arith) (omega arith) feed)
        | inr short ↦ l.longest m further short (subst IsPart (take-append-le m text (10 ∷ more) short) p)
      ];
    }

pub leads_on : {at to : ℕ} {text rest : List ℕ} {ps : List LexPiece} (more : List ℕ) → Leads at text ps to rest → rest ≡ [] → Leads at (text ++ 10 ∷ more) ps to (10 ∷ more)
leads_on {at = at} more here e = subst (λ (bs : List ℕ). Leads at (bs ++ 10 ∷ more) [] at (10 ∷ more)) (sym e) here
leads_on {at = at} {to = to} {text = text} {ps = ps} more (past_gap n l g h) e =
    past_gap n (longest_on text more n l (inl g)) (subst IsGap (sym (take-append-le n text (10 ∷ more) l.within)) g)
    (subst (λ (bs : List ℕ). Leads (at + n) bs ps to (10 ∷ more)) (sym (drop-append-le n text (10 ∷ more) l.within)) (leads_on more h e))
leads_on {at = at} {to = to} {text = text} more (past_piece {pieces = ps} n lexeme l s a h) e =
    past_piece n lexeme (longest_on text more n l (inr (lexeme, s))) (subst (SpellsLexeme lexeme) (sym (take-append-le n text (10 ∷ more) l.within)) s) a
    (subst (λ (bs : List ℕ). Leads (at + n) bs ps to (10 ∷ more)) (sym (drop-append-le n text (10 ∷ more) l.within)) (leads_on more h e))

-- the same text k bytes further on
abbrev pub moved_piece : ℕ → LexPiece → LexPiece
moved_piece k p = record { lexeme = p.lexeme; from = k + p.from; to = k + p.to }

pub leads_moved : {at to : ℕ} {text rest : List ℕ} {ps : List LexPiece} (k : ℕ) → Leads at text ps to rest → Leads (k + at) text (map (moved_piece k) ps) (k + to) rest
leads_moved k here = here
leads_moved {at = at} {to = to} {text = text} {rest = rest} {ps = ps} k (past_gap n l g h) =
    past_gap n l g (subst (λ (i : ℕ). Leads i (drop n text) (map (moved_piece k) ps) (k + to) rest) (sym (add_assoc k at n)) (leads_moved k h))
leads_moved {at = at} {to = to} {text = text} {rest = rest} k (past_piece {pieces = ps} n lexeme l s a h) =
    let e = add_assoc k at n in
    subst (λ (i : ℕ). Leads (k + at) text (record { lexeme = lexeme; from = k + at; to = i } ∷ map (moved_piece k) ps) (k + to) rest) e
    (past_piece n lexeme l s a (subst (λ (i : ℕ). Leads i (drop n text) (map (moved_piece k) ps) (k + to) rest) (sym e) (leads_moved k h)))
