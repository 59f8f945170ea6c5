-- The free names of a tree at whose points nothing is wrong: they are distinct, and their spellings are tokens.
use Rattle.std.proofs.Common.{◌≡◌, ◌≢◌, ℕ, ◌+◌, ◌<◌, ◌≤◌, Bool, true, false, List, [], ◌∷◌, length, refl, sym, ap, ◌∙◌, ⊎_elim}
use Rattle.std.specs.Prelude.{Option, Some, None, Ok, Err, is_some, if◌then◌else◌}
use Rattle.std.specs.List.{AllByRecursion}
use Rattle.std.specs.Str.{bytes_eq}
use Rattle.std.proofs.lemmas.Bool.{cases_lt, lt-ltb}
use Rattle.std.proofs.lemmas.Slice.Eq.{bytes_eq-Decides}
use mathlib.Core.List.{reverse, reverse_aux}
use Rattle.spi_text.specs.declared.lines.Span.{Span}
use Rattle.spi_lex.specs.declared.token.Kind.{Kind}
use Rattle.spi_lex.specs.declared.token.Kind.TheVariants as kinds
use Rattle.spi_tree.specs.declared.tree.SWord.{SWord}
use Rattle.spi_tree.specs.Trees as t
use Rattle.spi_tree.specs.Pieces.{Piece, decls_pieces, words_pieces, kinds_in}
use Rattle.spi_term.specs.Spelling.{stopped}
use Rattle.spi_scope.specs.declared.fault.ScopeFault.TheVariants.{NameTwice, ScheduleTooLong}
use Rattle.spi_scope.specs.Scope.{Word, Names, number_of, Abbreviations}
use Rattle.spi_scope.specs.Points.{uses_name, uses_type, declares_name, declares_type, ends_message, ends_type, adds, starts_step, Points, none, one, ◌⨾◌, free_points, with_free, decls_points, types_behind, all_names}
use Rattle.spi_scope.specs.Gives.{Ran, after, unless, run}
use Rattle.spi_spell.proofs.Printable.{AreDistinct}
use Rattle.spi_spell.proofs.Past.{behind_decl}

-- the names that are declared are new, and the steps are few
abbrev pub AreNew : Points → Type 0
AreNew none = Unit {0}
AreNew (one (uses_name xs w)) = Unit {0}
AreNew (one (uses_type ts w)) = Unit {0}
AreNew (one (declares_name xs w)) = number_of xs w.word ≡ None
AreNew (one (declares_type ts w)) = Unit {0}
AreNew (one (ends_message n s)) = Unit {0}
AreNew (one (ends_type n s)) = Unit {0}
AreNew (one (adds n s)) = Unit {0}
AreNew (one (starts_step i n s)) = i ≤ 10000
AreNew (ps ⨾ qs) = AreNew ps × AreNew qs

new_name : (c d : ℕ) (xs : Names) (w : SWord) → run (one (declares_name xs w)) c ≡ Ok d → number_of xs w.word ≡ None
new_name c d xs w e = by (number_of xs w.word) e
  where
    by : (o : Option ℕ) → unless (if is_some o then Some (NameTwice w.span w.word) else None) (c + 0) ≡ Ok d → o ≡ None
    by None h = refl
    by (Some i) h = absurd (cc)

early_step : (c d i n : ℕ) (s : Span) → run (one (starts_step i n s)) c ≡ Ok d → i ≤ 10000
early_step c d i n s e = ⊎_elim late (λ h. h) (cases_lt 10000 i)
  where
    late : 10000 < i → i ≤ 10000
    late h =
        let f : Err (ScheduleTooLong s (stopped n)) ≡ Ok d = sym (ap (λ b. unless (if b then Some (ScheduleTooLong s (stopped n)) else None) (c + 0)) (lt-ltb 10000 i h)) ∙ e in
        absurd (cc)

pub are_new : (ps : Points) (c d : ℕ) → run ps c ≡ Ok d → AreNew ps
are_new none c d e = tt
are_new (one (uses_name xs w)) c d e = tt
are_new (one (uses_type ts w)) c d e = tt
are_new (one (declares_name xs w)) c d e = new_name c d xs w e
are_new (one (declares_type ts w)) c d e = tt
are_new (one (ends_message n s)) c d e = tt
are_new (one (ends_type n s)) c d e = tt
are_new (one (adds n s)) c d e = tt
are_new (one (starts_step i n s)) c d e = early_step c d i n s e
are_new (ps ⨾ qs) c d e = by (run ps c) (λ m. are_new ps c m) (λ m. are_new qs m d) e
  where
    by : (r : Ran) → ((m : ℕ) → r ≡ Ok m → AreNew ps) → ((m : ℕ) → run qs m ≡ Ok d → AreNew qs) → after r (run qs) ≡ Ok d → AreNew ps × AreNew qs
    by (Ok m) f g h = (f m refl, g m h)
    by (Err x) f g h = absurd (cc)

-- ---- the names are distinct

unbound : (xs : Names) (w : Word) → number_of xs w ≡ None → AllByRecursion (λ v. w ≢ v) xs
unbound [] w e = tt
unbound (x ∷ xs) w e = by (bytes_eq x w) refl e (unbound xs w)
  where
    by : (b : Bool) → bytes_eq x w ≡ b → (if b then Some (length xs) else number_of xs w) ≡ None → (number_of xs w ≡ None → AllByRecursion (λ v. w ≢ v) xs) → AllByRecursion (λ v. w ≢ v) (x ∷ xs)
    by true q h k = absurd (cc)
    by false q h k = ((λ (same : w ≡ x). (let z : true ≡ false = sym ((bytes_eq-Decides x w).1 (sym same)) ∙ q in absurd (cc))), k h)

free_distinct : (xs : Names) (ws : List SWord) → AreDistinct xs → AreNew (free_points xs ws) → AreDistinct (with_free xs ws)
free_distinct xs [] h n = h
free_distinct xs (w ∷ ws) h n = free_distinct (w.word ∷ xs) ws (unbound xs w.word n.0.0, h) n.1

pub names_distinct : (ts : Abbreviations) (xs : Names) (ds : List t.Declared) → AreDistinct xs → AreNew (decls_points ts xs ds) → AreDistinct (all_names xs ds)
names_distinct ts xs [] h n = h
names_distinct ts xs (t.free s w ws ∷ ds) h n = names_distinct ts (with_free xs (w ∷ ws)) ds (free_distinct xs (w ∷ ws) h n.0) n.1
names_distinct ts xs (t.abbreviated s w a ∷ ds) h n = names_distinct (types_behind ts xs (t.abbreviated s w a)) xs ds h n.1

-- and in the other order
both_differ : (x : Word) (xs ys : List Word) → AllByRecursion (λ v. x ≢ v) xs → AllByRecursion (λ v. AllByRecursion (λ y. v ≢ y) ys) xs → AllByRecursion (λ v. AllByRecursion (λ y. v ≢ y) (x ∷ ys)) xs
both_differ x [] ys h k = tt
both_differ x (v ∷ xs) ys h k = ((λ (e : v ≡ x). h.0 (sym e), k.0), both_differ x xs ys h.1 k.1)

onto_distinct : (xs ys : List Word) → AreDistinct xs → AreDistinct ys → AllByRecursion (λ v. AllByRecursion (λ y. v ≢ y) ys) xs → AreDistinct (reverse_aux xs ys)
onto_distinct [] ys h k d = k
onto_distinct (x ∷ xs) ys h k d = onto_distinct xs (x ∷ ys) h.1 (d.0, k) (both_differ x xs ys h.0 d.1)

from_none : (xs : List Word) → AllByRecursion (λ v. AllByRecursion (λ y. v ≢ y) []) xs
from_none [] = tt
from_none (x ∷ xs) = (tt, from_none xs)

pub reverse_distinct : (xs : List Word) → AreDistinct xs → AreDistinct (reverse xs)
reverse_distinct xs h = onto_distinct xs [] h tt (from_none xs)

-- ---- their spellings are tokens

module _ (P : Kind → Type 0) where
  abbrev IsOne : Word → Type 0
  IsOne w = P (kinds.Word w)

  free_words : (xs : Names) (ws : List SWord) (r : List Piece) → AllByRecursion IsOne xs → AllByRecursion P (kinds_in (words_pieces ws r)) → AllByRecursion IsOne (with_free xs ws)
  free_words xs [] r h k = h
  free_words xs (w ∷ ws) r h k = free_words (w.word ∷ xs) ws r (k.1.0, h) k.1.1

  pub names_words : (xs : Names) (ds : List t.Declared) (r : List Piece) → AllByRecursion IsOne xs → AllByRecursion P (kinds_in (decls_pieces ds r)) → AllByRecursion IsOne (all_names xs ds)
  names_words xs [] r h k = h
  names_words xs (t.free s w ws ∷ ds) r h k =
      names_words (with_free xs (w ∷ ws)) ds r (free_words (w.word ∷ xs) ws _ (k.1.0, h) k.1.1) (behind_decl P (t.free s w ws) (decls_pieces ds r) k)
  names_words xs (t.abbreviated s w a ∷ ds) r h k = names_words xs ds r h (behind_decl P (t.abbreviated s w a) (decls_pieces ds r) k)

  onto_words : (xs ys : List Word) → AllByRecursion IsOne xs → AllByRecursion IsOne ys → AllByRecursion IsOne (reverse_aux xs ys)
  onto_words [] ys h k = k
  onto_words (x ∷ xs) ys h k = onto_words xs (x ∷ ys) h.1 (h.0, k)

  pub reverse_words : (xs : List Word) → AllByRecursion IsOne xs → AllByRecursion IsOne (reverse xs)
  reverse_words xs h = onto_words xs [] h tt
