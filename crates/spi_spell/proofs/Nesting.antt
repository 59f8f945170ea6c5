-- A process that a tree within the nesting limits stands for is within them as it is printed.
use Rattle.std.proofs.Common.{◌≡◌, ℕ, ◌+◌, ◌≤◌, Bool, true, false, MatchBool, List, ◌∷◌, arith}
use Rattle.std.specs.Prelude.{nat_lt}
use Rattle.std.proofs.lemmas.Bool.{ltb-false}
use Rattle.spi_tree.specs.Trees as t
use Rattle.spi_tree.specs.Pieces.{Piece, Place, in_seq, at_level, nesting_of, below, beside_place, process_limit, proc_pieces}
use Rattle.spi_tree.specs.Formed.{IsProc}
use Rattle.spi_parse.specs.Exact.{IsWithin}
use Rattle.spi_scope.specs.Scope.{Names, Abbreviations}
use Rattle.spi_scope.specs.Meaning.{process_in}
use Rattle.spi_show.specs.Processes.{is_output}
use Rattle.spi_spell.proofs.Past.{past_msg, past_named, past_binder, past_proc}
use Rattle.spi_spell.proofs.Printable.{Nests}

-- what is printed at the place b stands in the tree at a place that is no higher
abbrev PlaceIsAbove : Place → Place → Type 0
PlaceIsAbove (in_seq n) (in_seq m) = n ≤ m
PlaceIsAbove (at_level n) (at_level m) = n ≤ m
PlaceIsAbove (in_seq n) (at_level m) = n ≤ m
PlaceIsAbove (at_level n) (in_seq m) = n + 1 ≤ m

above_nesting : (b a : Place) → PlaceIsAbove b a → nesting_of b ≤ nesting_of a
above_nesting (in_seq n) (in_seq m) h = h
above_nesting (at_level n) (at_level m) h = omega (arith, h)
above_nesting (in_seq n) (at_level m) h = omega (arith, h)
above_nesting (at_level n) (in_seq m) h = h

low : (b a : Place) → PlaceIsAbove b a → nat_lt 500 (nesting_of a) ≡ false → nesting_of b ≤ process_limit
low b a h within = omega (arith, above_nesting b a h, ltb-false 500 (nesting_of a) within)

-- the `Seq` behind a form
under : (b a : Place) → PlaceIsAbove b a → PlaceIsAbove (below b) (below a)
under b a h = omega (arith, above_nesting b a h)

choose : (w : Bool) {P Q : Type 0} → P → Q → MatchBool w P Q
choose true p q = p
choose false p q = q

first_within : (later : Bool) (n : ℕ) (p : t.Proc) (r : List Piece) → IsProc later (in_seq n) p → IsWithin (proc_pieces (in_seq n) p r) → nat_lt 500 n ≡ false
first_within later n (t.par s p q) r f w = absurd f
first_within later n (t.out s m k) r f w = w.0
first_within later n (t.out_then s m k p) r f w = w.0
first_within later n (t.inp s m x c p) r f w = w.0
first_within later n (t.repeat s m x c p) r f w = w.0
first_within later n (t.split s m x c y d p) r f w = w.0
first_within later n (t.match s m x c k y d p) r f w = w.0
first_within later n (t.case s m x c p y d q) r f w = w.0
first_within later n (t.decrypt s m x c k p) r f w = w.0
first_within later n (t.check s m k p) r f w = w.0
first_within later n (t.begin s m p) r f w = w.0
first_within later n (t.end s m p) r f w = w.0
first_within later n (t.end_many s m p) r f w = w.0
first_within later n (t.cast s m x c p) r f w = w.0
first_within later n (t.new s x c p) r f w = w.0
first_within later n (t.stop s) r f w = w.0
first_within later n (t.group s p q) r f w = w.0

module _ (later : Bool) (by : ℕ → ℕ) (ts : Abbreviations) where
  pub nests : (xs : Names) (p : t.Proc) (a b : Place) (r : List Piece) → IsProc later a p → IsWithin (proc_pieces a p r) → PlaceIsAbove b a → Nests b (process_in by ts xs p)
  nests xs (t.par s p q) (in_seq l) b r f w h = absurd f
  nests xs (t.par s p q) (at_level l) (in_seq n) r f w h =
      let rest = (past_proc (in_seq (l + 1)) p _ w).1 in
      let within = ltb-false 500 (l + 1) (first_within later (l + 1) p _ f.0 w) in (
        omega (arith, h, within),
        choose (is_output (process_in by ts xs p))
            (nests xs q (at_level (l + 1)) (in_seq (n + 1)) _ f.1 rest (omega (arith, h)))
            (nests xs p (in_seq (l + 1)) (in_seq (n + 1)) _ f.0 w (omega (arith, h)), nests xs q (at_level (l + 1)) (at_level (n + 1)) _ f.1 rest (omega (arith, h))),
      )
  nests xs (t.par s p q) (at_level l) (at_level n) r f w h =
      let rest = (past_proc (in_seq (l + 1)) p _ w).1 in
      (nests xs p (in_seq (l + 1)) (in_seq (n + 1)) _ f.0 w (omega (arith, h)), nests xs q (at_level (l + 1)) (at_level (n + 1)) _ f.1 rest (omega (arith, h)))
  nests xs (t.out s m n) a b r f w h = low b a h w.0
  nests xs (t.out_then s m n p) a (in_seq i) r f w h =
      let body = (past_msg n _ (past_msg m _ w.1)).1 in
      let k = above_nesting (in_seq i) a h in
      (low (in_seq i) a h w.0, nests xs p (below a) (in_seq (i + 1)) _ f.2 body (omega (arith, k)))
  nests xs (t.out_then s m n p) a (at_level i) r f w h =
      let body = (past_msg n _ (past_msg m _ w.1)).1 in
      let k = above_nesting (at_level i) a h in
      (low (at_level i) a h w.0, nests xs p (below a) (at_level (i + 1)) _ f.2 body (omega (arith, k)))
  nests xs (t.inp s m x c p) a b r f w h = (low b a h w.0, nests (x.word ∷ xs) p (below a) (below b) _ f.2 (past_binder x c _ (past_msg m _ w.1)) (under b a h))
  nests xs (t.repeat s m x c p) a b r f w h = (low b a h w.0, nests (x.word ∷ xs) p (below a) (below b) _ f.2 (past_binder x c _ (past_msg m _ w.1.1)) (under b a h))
  nests xs (t.split s m x c y d p) a b r f w h =
      let behind = past_named y d _ (past_named x c _ (past_msg m _ w.1).1.1).1 in
      (low b a h w.0, nests (y.word ∷ x.word ∷ xs) p (below a) (below b) _ f.3 behind.1.1 (under b a h))
  nests xs (t.match s m x c n y d p) a b r f w h =
      let behind = past_named y d _ (past_msg n _ (past_named x c _ (past_msg m _ w.1).1.1).1).1 in
      (low b a h w.0, nests (y.word ∷ xs) p (below a) (below b) _ f.4 behind.1.1 (under b a h))
  nests xs (t.case s m x c p y d q) a b r f w h =
      let left = past_binder x c _ (past_msg m _ w.1).1.1 in
      let right = past_binder y d _ (past_proc (below a) p _ left).1.1 in
      (low b a h w.0, nests (x.word ∷ xs) p (below a) (below b) _ f.2 left (under b a h), nests (y.word ∷ xs) q (below a) (below b) _ f.4 right (under b a h))
  nests xs (t.decrypt s m x c n p) a b r f w h =
      let behind = past_msg n _ (past_named x c _ (past_msg m _ w.1).1.1).1 in
      (low b a h w.0, nests (x.word ∷ xs) p (below a) (below b) _ f.3 behind.1 (under b a h))
  nests xs (t.check s m n p) a b r f w h = (low b a h w.0, nests xs p (below a) (below b) _ f.2 (past_msg n _ (past_msg m _ w.1).1).1 (under b a h))
  nests xs (t.begin s m p) a b r f w h = (low b a h w.0, nests xs p (below a) (below b) _ f.1 (past_msg m _ w.1).1 (under b a h))
  nests xs (t.end s m p) a b r f w h = (low b a h w.0, nests xs p (below a) (below b) _ f.1 (past_msg m _ w.1).1 (under b a h))
  nests xs (t.end_many s m p) a b r f w h = (low b a h w.0, nests xs p (below a) (below b) _ f.2 (past_msg m _ w.1).1 (under b a h))
  nests xs (t.cast s m x c p) a b r f w h = (low b a h w.0, nests (x.word ∷ xs) p (below a) (below b) _ f.2 (past_binder x c _ (past_msg m _ w.1).1) (under b a h))
  nests xs (t.new s x c p) a b r f w h = (low b a h w.0, nests (x.word ∷ xs) p (below a) (below b) _ f.1 (past_binder x c _ w.1) (under b a h))
  nests xs (t.stop s) a b r f w h = low b a h w.0
  nests xs (t.group s p q) a (in_seq i) r f w h =
      let k = above_nesting (in_seq i) a h in
      let rest = (past_proc (below a) p _ w.1).1 in (
        low (in_seq i) a h w.0,
        choose (is_output (process_in by ts xs p))
            (nests xs q (beside_place a) (in_seq (i + 1)) _ f.1 rest (omega (arith, k)))
            (nests xs p (below a) (in_seq (i + 1)) _ f.0 w.1 (omega (arith, k)), nests xs q (beside_place a) (at_level (i + 1)) _ f.1 rest (omega (arith, k))),
      )
  nests xs (t.group s p q) a (at_level i) r f w h =
      let k = above_nesting (at_level i) a h in
      let rest = (past_proc (below a) p _ w.1).1 in
      (nests xs p (below a) (in_seq (i + 1)) _ f.0 w.1 (omega (arith, k)), nests xs q (beside_place a) (at_level (i + 1)) _ f.1 rest (omega (arith, k)))
