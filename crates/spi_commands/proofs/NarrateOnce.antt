-- Bytes have one answer of `narrate`.
use Rattle.std.proofs.Common.{◌≡◌, ◌⊎◌, inl, inr, ℕ, ◌++◌, List, [], ◌∷◌, Option, Ok, sym, ap, ◌∙◌, subst, append-nil, arith}
use Rattle.spi_lex.specs.declared.token.Kind.{Kind}
use Rattle.spi_lex.specs.declared.token.Token.{Token}
use Rattle.spi_lex.specs.Lexing.{Lexes, kinds_of}
use Rattle.spi_lex.specs.Writing.{AreKinds}
use Rattle.spi_lex.proofs.Lexed.{lexed}
use Rattle.spi_tree.specs.Pieces.{kinds_in}
use Rattle.spi_parse.specs.Exact.{ItemStops, IsSyntaxAt}
use Rattle.spi_scope.specs.StandsFor.{Meant}
use Rattle.spi_narrate.specs.Narrations as n
use Rattle.spi_narrate.specs.Grammar.{whole_narration, IsNarration}
use Rattle.spi_narrate.specs.Faults.{items_of, IsFirstFault, IsFaultless}
use Rattle.spi_narrate.specs.Reads.{IsNarrationSpelled}
use Rattle.spi_narrate.specs.declared.fault.NarrateFault.{NarrateFault}
use Rattle.spi_honest.specs.Roles.{IsTellable}
use Rattle.spi_narrator.specs.declared.answer.Refusal.{Refusal}
use Rattle.spi_narrator.specs.Answers.{IsTold, RefusesNarration as RefusesTelling}
use Rattle.spi_narrator.proofs.Reading.{NarrationReadsBack}
use Rattle.spi_commands.specs.Spelled.{SpellsFile}
use Rattle.spi_commands.specs.Canonical.{IsPrint}
use Rattle.spi_commands.specs.Refusals.{IsUnlexed, IsUnparsed, too_long, not_utf8, bad_char, bad_number, name_too_long, syntax, too_deep}
use Rattle.spi_narrate.specs.declared.fault.NarrateFault.TheVariants.{UnknownRole, RoleTwice, NarrationTooLarge}
use Rattle.spi_commands.specs.Narrating.{IsNarrationOf, SpellsNarration, IsFaulty, unknown_role, role_twice, narration_too_large, IsNarrationUntold, untold, RefusesNarrate, SpellsUntold, SpellsLongTelling}
use Rattle.spi_commands.proofs.FileRefusals.{OneLexing, spells_kinds, spells_within, same_tokens}
use Rattle.spi_commands.proofs.AnswerText.{long_of}

abbrev pub OneNarration : Type 0
OneNarration = (x y : n.Narration) (ts : List Token) → IsNarrationSpelled x ts → IsNarrationSpelled y ts → x ≡ y

abbrev pub NeverFaulty : Type 0
NeverFaulty = (x : n.Narration) (f : NarrateFault) → IsFirstFault (items_of x) f → IsFaultless (items_of x) → ⊥

abbrev pub NeverUntold : Type 0
NeverUntold = (x : n.Narration) (told : Meant) (r : Refusal) → IsTold x told → RefusesTelling x r → ⊥

-- what is known of narrations
pub record NarrationFacts : Type 0 where
  pub one : (bytes : List ℕ) (x y : n.Narration) → IsNarrationOf bytes x → IsNarrationOf bytes y → x ≡ y
  pub told : (x : n.Narration) (told other : Meant) → IsTold x told → IsTold x other → told ≡ other
  pub untold : (bytes : List ℕ) (number : ℕ) (offset : Option ℕ) (shown : List ℕ) → RefusesNarrate bytes number offset shown → SpellsUntold bytes ⊎ SpellsLongTelling bytes
  pub reads : (bytes : List ℕ) (x : n.Narration) (told : Meant) (text : List ℕ) → SpellsNarration bytes x → IsTold x told → IsPrint told text → SpellsFile text told

pub one_narration_of : OneLexing → OneNarration → (bytes : List ℕ) (x y : n.Narration) → IsNarrationOf bytes x → IsNarrationOf bytes y → x ≡ y
one_narration_of lexing one bytes x y a b =
    one x y a.tokens a.spelled (subst (IsNarrationSpelled y) (same_tokens lexing bytes b.tokens a.tokens b.lexed a.lexed) b.spelled)

-- ---- bytes that are refused are those of no narration that is told

unlexed_never : OneLexing → {bytes : List ℕ} {number : ℕ} {offset : Option ℕ} {shown : List ℕ} (x : n.Narration) → IsNarrationOf bytes x → IsUnlexed bytes number offset shown → ⊥
unlexed_never lexing x is (too_long l) = let w = is.within in omega (arith, w, l)
unlexed_never lexing {bytes} x is (not_utf8 l h) = let e = lexing bytes _ _ h is.lexed in cc
unlexed_never lexing {bytes} x is (bad_char l h) = let e = lexing bytes _ _ h is.lexed in cc
unlexed_never lexing {bytes} x is (bad_number l h) = let e = lexing bytes _ _ h is.lexed in cc
unlexed_never lexing {bytes} x is (name_too_long l h) = let e = lexing bytes _ _ h is.lexed in cc

not_at : (x : n.Narration) (ks : List Kind) (i : ℕ) → IsNarration x → kinds_in (whole_narration x) ≡ ks → IsSyntaxAt whole_narration IsNarration ks i → ⊥
not_at x ks i formed e at = go at.rest (e ∙ at.split) at.stops
  where
    go : (rest : List Kind) → kinds_in (whole_narration x) ≡ at.pre ++ rest → ItemStops whole_narration IsNarration at.pre rest → ⊥
    go [] f stops = stops x formed (f ∙ append-nil at.pre)
    go (k ∷ rest) f stops = stops x formed rest f

its_kinds : OneLexing → (bytes : List ℕ) (tokens : List Token) (x : n.Narration) → Lexes bytes (Ok tokens) → IsNarrationOf bytes x → kinds_in (whole_narration x) ≡ kinds_of tokens
its_kinds lexing bytes tokens x h is =
    spells_kinds 0 (whole_narration x) is.tokens is.spelled.1 ∙ ap kinds_of (same_tokens lexing bytes is.tokens tokens is.lexed h)

unparsed_never : OneLexing → {bytes : List ℕ} {number : ℕ} {offset : Option ℕ} {shown : List ℕ} (x : n.Narration) → IsNarrationOf bytes x → IsUnparsed whole_narration IsNarration bytes number offset shown → ⊥
unparsed_never lexing {bytes} x is (syntax {tokens = tokens} {i = i} l h at) = not_at x (kinds_of tokens) i is.spelled.0 (its_kinds lexing bytes tokens x h is) at
unparsed_never lexing {bytes} x is (too_deep {tokens = tokens} {i = i} l h at) =
    at.every x is.spelled.0 at.rest (its_kinds lexing bytes tokens x h is ∙ at.split) (spells_within 0 (whole_narration x) is.tokens is.spelled.1)

faulty_never : NeverFaulty → {number : ℕ} {offset : Option ℕ} {shown : List ℕ} (x : n.Narration) → IsFaultless (items_of x) → IsFaulty x number offset shown → ⊥
faulty_never never x free (unknown_role s {w = w} f) = never x (UnknownRole s w) f free
faulty_never never x free (role_twice s {w = w} f) = never x (RoleTwice s w) f free
faulty_never never x free (narration_too_large s count f) = never x (NarrationTooLarge s count) f free

untold_never : NeverUntold → {number : ℕ} {offset : Option ℕ} {shown : List ℕ} (x : n.Narration) (told : Meant) → IsTold x told → IsNarrationUntold x number offset shown → ⊥
untold_never never x told is (untold {r = r} why) = never x told r is why

pub refused_untold : OneLexing → OneNarration → NeverFaulty → NeverUntold → (bytes : List ℕ) (number : ℕ) (offset : Option ℕ) (shown : List ℕ) → RefusesNarrate bytes number offset shown → SpellsUntold bytes ⊎ SpellsLongTelling bytes
refused_untold lexing one faultless never bytes number offset shown (inl h) = inl (λ x told is tells. unlexed_never lexing x is.0 h)
refused_untold lexing one faultless never bytes number offset shown (inr (inl h)) = inl (λ x told is tells. unparsed_never lexing x is.0 h)
refused_untold lexing one faultless never bytes number offset shown (inr (inr (inl (y, that, h)))) =
    inl (λ x told is tells. faulty_never faultless x is.1 (subst (λ (z : n.Narration). IsFaulty z number offset shown) (one_narration_of lexing one bytes y x that is.0) h))
refused_untold lexing one faultless never bytes number offset shown (inr (inr (inr (inl (y, that, h))))) =
    inl (λ x told is tells. untold_never never x told tells (subst (λ (z : n.Narration). IsNarrationUntold z number offset shown) (one_narration_of lexing one bytes y x that.0 is.0) h))
refused_untold lexing one faultless never bytes number offset shown (inr (inr (inr (inr (x, told, is, tells, long))))) = inr (x, told, is, tells, long_of told long)

-- ---- the text is read as the file

pub told_reads_back : ((x : n.Narration) → IsFaultless (items_of x) → IsTellable x) → NarrationReadsBack → (bytes : List ℕ) (x : n.Narration) (told : Meant) (text : List ℕ) → SpellsNarration bytes x → IsTold x told → IsPrint told text → SpellsFile text told
told_reads_back tellable reads bytes x told text (is, free) tells (canonical, short) =
    reads x told text is.spelled.0 (spells_within 0 (whole_narration x) is.tokens is.spelled.1)
    (subst AreKinds (sym (spells_kinds 0 (whole_narration x) is.tokens is.spelled.1)) (lexed bytes is.tokens is.lexed).0) (tellable x free) tells canonical short
