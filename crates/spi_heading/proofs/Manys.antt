-- Any number of parts in front of others, by lists.
use Rattle.std.proofs.Common.{◌≡◌, ℕ, zero, suc, ◌+◌, Bool, List, [], ◌∷◌, ◌++◌, length, drop, refl, sym, ap, subst, ◌∙◌, append_assoc, append-nil, arith}
use Rattle.std.specs.List.{AllByRecursion}
use Rattle.spi_lex.specs.declared.token.Kind.{Kind}
use Rattle.spi_lex.specs.declared.token.Token.{Token}
use Rattle.spi_lex.specs.Lexing.{kinds_of}
use Rattle.spi_tree.specs.Pieces.{Piece, cells, kinds_in}
use Rattle.spi_tree.specs.Formed.{AreWordsFit}
use Rattle.spi_parse.specs.declared.fault.ParseFault.{ParseFault}
use Rattle.spi_parse.proofs.Words.{fits_append, fits_front, fits_drop}
use Rattle.spi_grammar.specs.Exactly.{kinds, IsGoodKind, Times, Many, Nothing, RefusesText}
use Rattle.spi_grammar.proofs.Good.{IsSome, Differ, part_refuses, further_refuses, last_refuses}
use Rattle.spi_parts.proofs.Alone.{kinds_in_append}
use Rattle.spi_parts.proofs.Bridge.{OfPieces, of_piece}
use Rattle.spi_heading.specs.Taking.{IsThere}
use Rattle.spi_heading.specs.Each.{each_pieces, IsWhole}
use Rattle.spi_heading.proofs.Standing.{found, unfound}
use Rattle.spi_heading.proofs.Symbols.{cells_append}
use Rattle.spi_heading.proofs.Failing.{FailsAt, memory, fault, tells_at, ReadAt}

-- ---- pieces one behind another

pub both_fit : (v : Bool) (ps qs : List Piece) → AreWordsFit v (kinds_in ps) → AreWordsFit v (kinds_in qs) → AreWordsFit v (kinds_in (ps ++ qs))
both_fit v ps qs a b = subst (AreWordsFit v) (sym (kinds_in_append ps qs)) (fits_append v (kinds_in ps) (kinds_in qs) a b)

pub both_cells : (ps qs : List Piece) (c d : List (Kind × Bool)) → cells ps ≡ c → cells qs ≡ d → cells (ps ++ qs) ≡ c ++ d
both_cells ps qs c d e f = cells_append ps qs ∙ ap (λ (l : List (Kind × Bool)). l ++ cells qs) e ∙ ap (λ (l : List (Kind × Bool)). c ++ l) f

-- ---- the faults of any number of parts in front of others

module _ (L M : List (Kind × Bool) → Type 0) (some_l : IsSome L) (some_m : IsSome M) (differ : Differ L M) (l : IsGoodKind L) (m : IsGoodKind M) (ts : List Token) where
  kinds_there : (i : ℕ) (k : Kind) (there : IsThere ts i k) → (rest : List Kind) × (kinds_of (drop i ts) ≡ k ∷ rest)
  kinds_there i k there = let f = found ts i there.0 there.1 in (kinds_of f.0, ap kinds_of f.1 ∙ ap (λ (x : Kind). x ∷ kinds_of f.0) there.2)

  pub part_fail : (i : ℕ) (k : Kind) → IsThere ts i k → ((a : List (Kind × Bool)) × L a × (x : List Kind) × (kinds a ≡ k ∷ x)) → (f : ParseFault) → FailsAt L ts i f → FailsAt (Many L M) ts i f
  part_fail i k there starts f (memory e) = memory e
  part_fail i k there starts f (fault d n t r) =
      let g = kinds_there i k there in
      fault d n t (subst (λ (x : List Kind). RefusesText d (Many L M) x n) (sym g.1) (part_refuses L M some_l some_m differ l m k g.0 starts d n (subst (λ (x : List Kind). RefusesText d L x n) g.1 r)))

  pub more_fail : (i j : ℕ) (k : Kind) → IsThere ts i k → ReadAt L ts i j → (f : ParseFault) → FailsAt (Many L M) ts j f → FailsAt (Many L M) ts i f
  more_fail i j k there h f (memory e) = memory e
  more_fail i j k there h f (fault d n t r) =
      let g = kinds_there i k there in
      let p = h.place in
      fault d (length (kinds h.cells) + n) (tells_at f d (j + n) (i + (length (kinds h.cells) + n)) (omega arith) t)
      (subst (λ (x : List Kind). RefusesText d (Many L M) x (length (kinds h.cells) + n)) (sym g.1)
      (further_refuses L M some_l some_m differ l m k g.0 h.cells (kinds_of (drop j ts)) (record { is = h.reads.is; clean = h.reads.clean; split = sym g.1 ∙ h.reads.split; ends = h.reads.ends }) d n r))

  pub last_fail : (i : ℕ) → ((a : List (Kind × Bool)) → L a → (k : Kind) (x : List Kind) → kinds a ≡ k ∷ x → IsThere ts i k → ⊥) → (f : ParseFault) → FailsAt M ts i f → FailsAt (Many L M) ts i f
  last_fail i not f (memory e) = memory e
  last_fail i not f (fault d n t r) = fault d n t (last_refuses L M some_l some_m differ l m (kinds_of (drop i ts)) (record { some = some_l; none = λ a la k x y e g. not a la k x e (front (drop i ts) refl k y g) }) d n r)
    where
      front : (l : List Token) → drop i ts ≡ l → (k : Kind) (y : List Kind) → kinds_of l ≡ k ∷ y → IsThere ts i k
      front [] at k y e = absurd (let f : [] ≡ k ∷ y = e in cc)
      front (t ∷ l) at k y e = (t, unfound ts i t l at, let j : t.kind ≡ k = cc in j)

-- ---- as lists

module _ {X : Type 0} (piece : X → List Piece → List Piece) (behind : (x : X) (r : List Piece) → piece x r ≡ piece x [] ++ r) (v : Bool) (Is : X → Type 0) (M : List (Kind × Bool) → Type 0) where
  abbrev Parts : List (Kind × Bool) → Type 0
  Parts = OfPieces (λ x. piece x []) (IsWhole v piece Is)

  pub record FromMany (cs : List (Kind × Bool)) : Type 0 where
    pub parts : List X
    pub are : AllByRecursion Is parts
    pub fit : AreWordsFit v (kinds_in (each_pieces piece parts []))
    pub rest : List (Kind × Bool)
    pub behind_them : M rest
    pub shows : cs ≡ cells (each_pieces piece parts []) ++ rest

  each_cells : (x : X) (xs : List X) → cells (each_pieces piece (x ∷ xs) []) ≡ cells (piece x []) ++ cells (each_pieces piece xs [])
  each_cells x xs = ap cells (behind x (each_pieces piece xs [])) ∙ cells_append (piece x []) (each_pieces piece xs [])

  each_kinds : (x : X) (xs : List X) → kinds_in (each_pieces piece (x ∷ xs) []) ≡ kinds_in (piece x []) ++ kinds_in (each_pieces piece xs [])
  each_kinds x xs = ap kinds_in (behind x (each_pieces piece xs [])) ∙ kinds_in_append (piece x []) (each_pieces piece xs [])

  times_from : (n : ℕ) (cs : List (Kind × Bool)) → Times n Parts M cs → FromMany cs
  times_from zero cs h = record { parts = []; are = tt; fit = tt; rest = cs; behind_them = h; shows = refl }
  times_from (suc n) cs h =
      let r = times_from n h.right h.two in
      let x = h.one.part in
      record {
        parts = x ∷ r.parts;
        are = (h.one.is.0, r.are);
        fit = subst (AreWordsFit v) (sym (each_kinds x r.parts)) (fits_append v (kinds_in (piece x [])) (kinds_in (each_pieces piece r.parts [])) h.one.is.1 r.fit);
        rest = r.rest;
        behind_them = r.behind_them;
        shows =
            h.cells ∙ ap (λ (l : List (Kind × Bool)). l ++ h.right) (sym h.one.shows) ∙ ap (λ (l : List (Kind × Bool)). cells (piece x []) ++ l) r.shows
            ∙ sym (append_assoc (cells (piece x [])) (cells (each_pieces piece r.parts [])) r.rest) ∙ ap (λ (l : List (Kind × Bool)). l ++ r.rest) (sym (each_cells x r.parts));
      }

  pub many_from : (cs : List (Kind × Bool)) → Many Parts M cs → FromMany cs
  many_from cs h = times_from h.0 cs h.1

  pub many_into : (xs : List X) → AllByRecursion Is xs → AreWordsFit v (kinds_in (each_pieces piece xs [])) → (rest : List (Kind × Bool)) → M rest → Many Parts M (cells (each_pieces piece xs []) ++ rest)
  many_into [] h fit rest m = (zero, m)
  many_into (x ∷ xs) h fit rest m =
      let f = subst (AreWordsFit v) (each_kinds x xs) fit in
      let r = many_into xs h.1 (fits_drop v (kinds_in (piece x [])) (kinds_in (each_pieces piece xs [])) f) rest m in (
        suc r.0,
        record {
          left = cells (piece x []);
          right = cells (each_pieces piece xs []) ++ rest;
          one = of_piece (λ x. piece x []) (IsWhole v piece Is) x (h.0, fits_front v (kinds_in (piece x [])) (kinds_in (each_pieces piece xs [])) f);
          two = r.1;
          cells = ap (λ (l : List (Kind × Bool)). l ++ rest) (each_cells x xs) ∙ append_assoc (cells (piece x [])) (cells (each_pieces piece xs [])) rest;
        },
      )

  -- with the pieces of what stands behind them
  pub each_into : (xs : List X) → AllByRecursion Is xs → (tail : List Piece) → AreWordsFit v (kinds_in (each_pieces piece xs [] ++ tail)) → (AreWordsFit v (kinds_in tail) → M (cells tail)) → Many Parts M (cells (each_pieces piece xs [] ++ tail))
  each_into xs h tail fit behind_them =
      let ps = each_pieces piece xs [] in
      let both = subst (AreWordsFit v) (kinds_in_append ps tail) fit in
      subst (Many Parts M) (sym (cells_append ps tail)) (many_into xs h (fits_front v (kinds_in ps) (kinds_in tail) both) (cells tail) (behind_them (fits_drop v (kinds_in ps) (kinds_in tail) both)))

  pub each_shows : (cs : List (Kind × Bool)) (m : FromMany cs) (tail : List Piece) → cells tail ≡ m.rest → cells (each_pieces piece m.parts [] ++ tail) ≡ cs
  each_shows cs m tail e = both_cells (each_pieces piece m.parts []) tail (cells (each_pieces piece m.parts [])) m.rest refl e ∙ sym m.shows

-- with nothing behind them
module _ {X : Type 0} (piece : X → List Piece → List Piece) (behind : (x : X) (r : List Piece) → piece x r ≡ piece x [] ++ r) (v : Bool) (Is : X → Type 0) where
  pub last_into : (xs : List X) → AllByRecursion Is xs → AreWordsFit v (kinds_in (each_pieces piece xs [])) → Many (OfPieces (λ x. piece x []) (IsWhole v piece Is)) Nothing (cells (each_pieces piece xs []))
  last_into xs h fit = subst (Many (OfPieces (λ x. piece x []) (IsWhole v piece Is)) Nothing) (append-nil (cells (each_pieces piece xs []))) (many_into piece behind v Is Nothing xs h fit [] refl)

  pub last_shows : (cs : List (Kind × Bool)) (m : FromMany piece behind v Is Nothing cs) → cells (each_pieces piece m.parts []) ≡ cs
  last_shows cs m = sym (m.shows ∙ ap (λ (c : List (Kind × Bool)). cells (each_pieces piece m.parts []) ++ c) m.behind_them ∙ append-nil (cells (each_pieces piece m.parts [])))
