-- The schedule and the derivation of a tree at whose points nothing is wrong.
use Rattle.std.proofs.Common.{ℕ, ◌+◌, ◌≤◌, List, [], ◌∷◌, ◌++◌, length, map, arith, Option, Some, None}
use Rattle.std.specs.List.{AllByRecursion}
use Rattle.std.proofs.lemmas.Bool.{le-ltb, cond-false}
use Rattle.std.proofs.lemmas.List.{length-map}
use Rattle.spi_text.specs.declared.lines.Span.{Span}
use Rattle.spi_lex.specs.declared.token.Kind.{Kind}
use Rattle.spi_lex.specs.declared.token.Reserved.{Reserved}
use Rattle.spi_lex.specs.Writing.{IsKind}
use Rattle.spi_tree.specs.Trees as t
use Rattle.spi_tree.specs.Pieces.{Piece, opens, cell, closes, ends, steps_pieces, schedule_pieces, written_pieces, deriv_pieces, derivs_pieces, derivation_pieces, kinds_in}
use Rattle.spi_parse.specs.Exact.{IsWithin}
use Rattle.spi_scope.specs.Parts.{step_in}
use Rattle.spi_scope.specs.Points.{Point, ends_message, one, added, in_order, steps_points, schedule_points, numbered_atom_points, numbered_atoms_points, written_points, deriv_points, derivs_points, derivation_points}
use Rattle.spi_scope.specs.First.{Clean}
use Rattle.spi_scope.specs.StandsFor.{schedule_in}
use Rattle.spi_scope.proofs.Counting.{PassesTests}
use Rattle.spi_spell.specs.Joined.{HasLowPlaces}
use Rattle.spi_spell.proofs.Printable.{AreSteps}
use Rattle.spi_spell.proofs.Declared.{AreNew}
use Rattle.spi_tree.proofs.Same.{same_effect}

-- ---- the schedule

steps_low : (words : List Reserved) (xs : List t.Step) (r : List Piece) → AllByRecursion (IsKind words) (kinds_in (steps_pieces xs r)) → AllByRecursion HasLowPlaces (map step_in xs)
steps_low words [] r h = tt
steps_low words (t.act s i ∷ xs) r h = (h.1.0, steps_low words xs r h.1.1.1)
steps_low words (t.talk s i j ∷ xs) r h = ((h.1.0, h.1.1.0), steps_low words xs r h.1.1.1.1)

steps_few : (i n : ℕ) (xs : List t.Step) → i ≤ 10001 → AreNew (steps_points i n xs) → i + length xs ≤ 10001
steps_few i n [] l h = omega (arith, l)
steps_few i n (x ∷ xs) l h = omega (arith, steps_few (i + 1) n xs (omega (arith, h.0)) h.1)

pub schedule_stands : (words : List Reserved) (o : Option (List t.Step)) (r : List Piece) → AllByRecursion (IsKind words) (kinds_in (schedule_pieces o r)) → AreNew (schedule_points o) → AreSteps (schedule_in o)
schedule_stands words None r h n = tt
schedule_stands words (Some xs) r h n = (omega (arith, length-map xs step_in, steps_few 1 (length xs) xs (omega arith) n), steps_low words xs r h.1)

-- ---- the derivation, whose messages are small wherever it stands

clean_both : (ps qs : List Point) (c : ℕ) → Clean c ps → ((d : ℕ) → Clean d qs) → Clean c (ps ++ qs)
clean_both [] qs c h k = k c
clean_both (p ∷ ps) qs c h k = (h.0, clean_both ps qs (c + added p) h.1 k)

small_clean : (n c : ℕ) (s : Span) → n ≤ 200 → Clean c (in_order (one (ends_message n s)))
small_clean n c s h = (cond-false _ _ None (le-ltb 200 n h), tt)

atom_clean : (e : t.Atom) → PassesTests (numbered_atom_points e) → (c : ℕ) → Clean c (in_order (numbered_atom_points e))
atom_clean (t.ends s m) h c = small_clean _ c _ h
atom_clean (t.checks s m) h c = small_clean _ c _ h
atom_clean (t.many s m) h c = small_clean _ c _ h

atoms_clean : (es : List t.Atom) → PassesTests (numbered_atoms_points es) → (c : ℕ) → Clean c (in_order (numbered_atoms_points es))
atoms_clean [] h c = tt
atoms_clean (e ∷ es) h c = clean_both (in_order (numbered_atom_points e)) (in_order (numbered_atoms_points es)) c (atom_clean e h.0 c) (atoms_clean es h.1)

written_clean : (es : Option (List t.Atom)) → PassesTests (written_points es) → (c : ℕ) → Clean c (in_order (written_points es))
written_clean None h c = tt
written_clean (Some es) h c = atoms_clean es h c

mutual
  deriv_clean : (d : t.Deriv) → PassesTests (deriv_points d) → (c : ℕ) → Clean c (in_order (deriv_points d))
  deriv_clean (t.rule s w es ds) h c = clean_both (in_order (written_points es)) (in_order (derivs_points ds)) c (written_clean es h.0 c) (derivs_clean ds h.1)

  derivs_clean : (ds : t.Derivs) → PassesTests (derivs_points ds) → (c : ℕ) → Clean c (in_order (derivs_points ds))
  derivs_clean t.no_derivs h c = tt
  derivs_clean (t.more_derivs d ds) h c = clean_both (in_order (deriv_points d)) (in_order (derivs_points ds)) c (deriv_clean d h.0 c) (derivs_clean ds h.1)

pub derivation_clean : (d : Option t.Deriv) → PassesTests (derivation_points d) → Clean 0 (in_order (derivation_points d))
derivation_clean None h = tt
derivation_clean (Some d) h = deriv_clean d h 0

-- ---- its pieces with nothing behind them

module _ (R : List Piece → List Piece → Type 0) (cons : (p : Piece) (x y : List Piece) → R x y → R (p ∷ x) (p ∷ y)) where
  one_more : {p : Piece} {x y : List Piece} → R x y → R (p ∷ x) (p ∷ y)
  one_more {p} {x} {y} h = cons p x y h

  same_written : (es : Option (List t.Atom)) {x y : List Piece} → R x y → R (written_pieces es x) (written_pieces es y)
  same_written None h = h
  same_written (Some es) h = same_effect R cons 0 es h

  mutual
    same_deriv : (n : ℕ) (d : t.Deriv) {x y : List Piece} → R x y → R (deriv_pieces n d x) (deriv_pieces n d y)
    same_deriv n (t.rule s w es ds) h = one_more (one_more (one_more (one_more (same_written es (same_derivs (n + 1) ds (one_more h))))))

    same_derivs : (n : ℕ) (ds : t.Derivs) {x y : List Piece} → R x y → R (derivs_pieces n ds x) (derivs_pieces n ds y)
    same_derivs n t.no_derivs h = h
    same_derivs n (t.more_derivs d ds) h = same_deriv n d (same_derivs n ds h)

  same_derivation : (d : Option t.Deriv) {x y : List Piece} → R x y → R (derivation_pieces d x) (derivation_pieces d y)
  same_derivation None h = h
  same_derivation (Some d) h = one_more (same_deriv 1 d h)

within_on : (p : Piece) (x y : List Piece) → (IsWithin x → IsWithin y) → IsWithin (p ∷ x) → IsWithin (p ∷ y)
within_on (opens from) x y f h = f h
within_on (cell kind deep) x y f h = (h.0, f h.1)
within_on (closes to) x y f h = f h

pub derivation_within : (d : Option t.Deriv) (s : Span) → IsWithin (derivation_pieces d (ends s [])) → IsWithin (derivation_pieces d [])
derivation_within d s h = same_derivation (λ x y. IsWithin x → IsWithin y) within_on d {x = ends s []} {y = []} (λ k. tt) h

kinds_on : (P : Kind → Type 0) (p : Piece) (x y : List Piece) → (AllByRecursion P (kinds_in x) → AllByRecursion P (kinds_in y)) → AllByRecursion P (kinds_in (p ∷ x)) → AllByRecursion P (kinds_in (p ∷ y))
kinds_on P (opens from) x y f h = f h
kinds_on P (cell kind deep) x y f h = (h.0, f h.1)
kinds_on P (closes to) x y f h = f h

pub derivation_kinds : (P : Kind → Type 0) (d : Option t.Deriv) (s : Span) → AllByRecursion P (kinds_in (derivation_pieces d (ends s []))) → AllByRecursion P (kinds_in (derivation_pieces d []))
derivation_kinds P d s h = same_derivation (λ x y. AllByRecursion P (kinds_in x) → AllByRecursion P (kinds_in y)) (kinds_on P) d {x = ends s []} {y = []} (λ k. tt) h
