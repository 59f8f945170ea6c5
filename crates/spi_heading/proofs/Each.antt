-- Any number of parts at a place of a text.
use Rattle.std.proofs.Common.{◌≡◌, ℕ, suc, ◌+◌, ◌≤◌, ◌<◌, Bool, List, [], ◌∷◌, ◌++◌, length, drop, Result, Ok, Err, refl, sym, ap, subst, ◌∙◌, append_assoc, arith}
use Rattle.std.specs.List.{AllByRecursion}
use Rattle.std.specs.Result.{IsErrAnd}
use Rattle.spi_lex.specs.declared.token.Token.{Token}
use Rattle.spi_lex.specs.Lexing.{kinds_of}
use Rattle.spi_tree.specs.Pieces.{Piece, opens, cell, closes}
use Rattle.spi_tree.specs.Formed.{AreWordsFit}
use Rattle.spi_parse.specs.declared.fault.ParseFault.{ParseFault}
use Rattle.spi_parse.specs.Exact as exact
use Rattle.spi_grammar.specs.Exactly.{IsGoodKind}
use Rattle.spi_parts.proofs.Bridge.{OfPieces, of_piece}
use Rattle.spi_heading.specs.Spans.{end_before}
use Rattle.spi_heading.specs.Each.{each_pieces, IsWhole, EachAt, ReadsEach}
use Rattle.spi_heading.specs.Repeated.{IsSolid}
use Rattle.spi_heading.proofs.Standing.{AreTokensOf, stands_both, stands_within, stands_length, spelled, standing, solid}
use Rattle.spi_heading.proofs.Failing.{ReadAt, fails_from, fails_to}
use Rattle.spi_heading.proofs.Calls.{part_stands}
use Rattle.spi_heading.proofs.Rows.{fits_at, stands_read}

-- where pieces are cut
pub stands_cut : (ts : List Token) (ps qs : List Piece) (i k : ℕ) → AreTokensOf ts i (ps ++ qs) k → (j : ℕ) × AreTokensOf ts i ps j × AreTokensOf ts j qs k
stands_cut ts [] qs i k h = (i, refl, h)
stands_cut ts (opens from ∷ ps) qs i k h = let c = stands_cut ts ps qs i k h.2 in (c.0, (h.0, h.1, c.1), c.2)
stands_cut ts (cell x deep ∷ ps) qs i k h = let c = stands_cut ts ps qs (suc i) k h.5 in (c.0, (h.0, h.1, h.2, h.3, h.4, c.1), c.2)
stands_cut ts (closes to ∷ ps) qs i k h = let c = stands_cut ts ps qs i k h.1 in (c.0, (h.0, c.1), c.2)

all_more : {X : Type 0} (Is : X → Type 0) (xs : List X) (x : X) → AllByRecursion Is xs → Is x → AllByRecursion Is (xs ++ x ∷ [])
all_more Is [] x h k = (k, tt)
all_more Is (y ∷ xs) x h k = (h.0, all_more Is xs x h.1 k)

module _ {X : Type 0} (piece : X → List Piece → List Piece) (behind : (x : X) (r : List Piece) → piece x r ≡ piece x [] ++ r) where
  pub each_behind : (xs : List X) (r : List Piece) → each_pieces piece xs r ≡ each_pieces piece xs [] ++ r
  each_behind [] r = refl
  each_behind (x ∷ xs) r =
      behind x (each_pieces piece xs r) ∙ ap (λ (l : List Piece). piece x [] ++ l) (each_behind xs r)
      ∙ sym (append_assoc (piece x []) (each_pieces piece xs []) r) ∙ ap (λ (l : List Piece). l ++ r) (sym (behind x (each_pieces piece xs [])))

  each_more : (xs : List X) (x : X) → each_pieces piece (xs ++ x ∷ []) [] ≡ each_pieces piece xs [] ++ piece x []
  each_more [] x = refl
  each_more (y ∷ xs) x =
      behind y (each_pieces piece (xs ++ x ∷ []) []) ∙ ap (λ (l : List Piece). piece y [] ++ l) (each_more xs x)
      ∙ sym (append_assoc (piece y []) (each_pieces piece xs []) (piece x [])) ∙ ap (λ (l : List Piece). l ++ piece x []) (sym (behind y (each_pieces piece xs [])))

  module _ (Is : X → Type 0) (ts : List Token) where
    -- parts that are read, one behind another
    pub record Along (i : ℕ) (xs : List X) (j : ℕ) : Type 0 where
      pub are : AllByRecursion Is xs
      pub within : j ≤ length ts
      pub stands : AreTokensOf ts i (each_pieces piece xs []) j

    pub along_start : (i : ℕ) → i ≤ length ts → Along i [] i
    along_start i w = record { are = tt; within = w; stands = refl }

    pub along_more : (i j k : ℕ) (xs : List X) (x : X) → Along i xs j → Is x → AreTokensOf ts j (piece x []) k → Along i (xs ++ x ∷ []) k
    along_more i j k xs x a h s = record {
      are = all_more Is xs x a.are h;
      within = stands_within ts (piece x []) j k a.within s;
      stands = subst (λ (l : List Piece). AreTokensOf ts i l k) (sym (each_more xs x)) (stands_both ts (each_pieces piece xs []) (piece x []) i j k a.stands s);
    }

    pub along_rest : (i k : ℕ) (x : X) (xs : List X) → Along i (x ∷ xs) k → (j : ℕ) × Is x × AreTokensOf ts i (piece x []) j × Along j xs k
    along_rest i k x xs a =
        let c = stands_cut ts (piece x []) (each_pieces piece xs []) i k (subst (λ (l : List Piece). AreTokensOf ts i l k) (behind x (each_pieces piece xs [])) a.stands) in
        (c.0, a.are.0, c.1, record { are = a.are.1; within = a.within; stands = c.2 })

    module _ (solids : (x : X) (r : List Piece) → IsSolid (piece x r)) where
      free : (xs : List X) (left : List Token) (e e' : ℕ) (l : List Token) → exact.Spells left e (each_pieces piece xs []) l → exact.Spells left e' (each_pieces piece xs []) l
      free [] left e e' l h = h
      free (x ∷ xs) left e e' l h = solid (piece x (each_pieces piece xs [])) (solids x (each_pieces piece xs [])) left e e' l h

      pub along_each : (i j : ℕ) (xs : List X) → Along i xs j → EachAt piece Is xs ts i j
      along_each i j xs a = record { are = a.are; within = a.within; spells = free xs (drop j ts) (end_before ts i) 0 (drop i ts) (spelled ts (each_pieces piece xs []) i j a.stands) }

      pub each_along : (i j : ℕ) (xs : List X) → i ≤ length ts → EachAt piece Is xs ts i j → Along i xs j
      each_along i j xs w a = record { are = a.are; within = a.within; stands = standing ts (each_pieces piece xs []) i j w a.within (free xs (drop j ts) 0 (end_before ts i) (drop i ts) a.spells) }

  -- one of them as a part that is read
  pub one_read : (v : Bool) (Is : X → Type 0) → IsGoodKind (OfPieces (λ x. piece x []) (IsWhole v piece Is)) → (ts : List Token) (i j : ℕ) (x : X) → AreWordsFit v (kinds_of ts) → Is x → AreTokensOf ts i (piece x []) j
      → ReadAt (OfPieces (λ x. piece x []) (IsWhole v piece Is)) ts i j
  one_read v Is good ts i j x fit h s =
      stands_read (OfPieces (λ x. piece x []) (IsWhole v piece Is)) good ts (piece x []) i j (of_piece (λ x. piece x []) (IsWhole v piece Is) x (h, fits_at v ts (piece x []) i j fit s)) s

  -- ---- the answers of the loop that reads them

  module _ (solids : (x : X) (r : List Piece) → IsSolid (piece x r)) (v : Bool) (Is : X → Type 0) (Begins : List Token → ℕ → Type 0) (ts : List Token) (start : ℕ) where
    abbrev Part : X → Type 0
    Part = IsWhole v piece Is

    pub each_fails : {V W : Type 0} (views : V → List X) (view : W → X) (xs : List X) (j : ℕ) (f : ParseFault) (r : Result (V × ℕ) ParseFault) → IsErrAnd r (λ e. e ≡ f) → Along Is ts start xs j → Begins ts j
        → exact.Reads view (λ x. piece x []) Part (Err f) ts j → ReadsEach views piece v Is Begins r ts start
    each_fails views view xs j f (Ok x) is a b h = absurd is
    each_fails views view xs j f (Err e) is a b h = (
      xs,
      j,
      along_each Is ts solids start j xs a,
      b,
      subst (λ (g : ParseFault). exact.Reads (λ (x : X). x) (λ x. piece x []) Part (Err g) ts j) (sym is) (fails_to (λ (x : X). x) (λ x. piece x []) Part ts j f (fails_from view (λ x. piece x []) Part ts j f h)),
    )

    pub each_step : (xs : List X) (j k : ℕ) (x : X) → Along Is ts start xs j → (r : (n : ℕ) × (k ≡ j + n) × exact.IsPartAt (λ x. piece x []) Part x (drop j ts) n) → Along Is ts start (xs ++ x ∷ []) k
    each_step xs j k x a r = along_more Is ts start j k xs x a r.2.part.0 (subst (λ (m : ℕ). AreTokensOf ts j (piece x []) m) (sym r.1) (part_stands (λ x. piece x []) Part x ts j r.0 a.within (solids x []) r.2))

  solid_rises : (ts : List Token) (ps : List Piece) (i j : ℕ) → IsSolid ps → AreTokensOf ts i ps j → i < j
  solid_rises ts [] i j s h = absurd s
  solid_rises ts (opens from ∷ ps) i j s h = solid_rises ts ps i j s h.2
  solid_rises ts (cell k deep ∷ ps) i j s h = let l = stands_length ts ps (suc i) j h.5 in omega arith
  solid_rises ts (closes to ∷ ps) i j s h = absurd s

  pub each_rises : (solids : (x : X) (r : List Piece) → IsSolid (piece x r)) (P : X → Type 0) (ts : List Token) (x : X) (j k : ℕ) → j ≤ length ts → (r : (n : ℕ) × (k ≡ j + n) × exact.IsPartAt (λ x. piece x []) P x (drop j ts) n) → j < k
  each_rises solids P ts x j k w r = solid_rises ts (piece x []) j k (solids x []) (subst (λ (m : ℕ). AreTokensOf ts j (piece x []) m) (sym r.1) (part_stands (λ x. piece x []) P x ts j r.0 w (solids x []) r.2))
