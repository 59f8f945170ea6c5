-- Rows: symbols one behind another.
use Rattle.std.proofs.Common.{◌≡◌, ℕ, ◌+◌, ◌<◌, Bool, List, [], ◌∷◌, ◌++◌, length, drop, refl, sym, ap, subst, ◌∙◌, append_assoc}
use Rattle.spi_lex.specs.declared.token.Kind.{Kind}
use Rattle.spi_lex.specs.declared.token.Token.{Token}
use Rattle.spi_lex.specs.Lexing.{kinds_of}
use Rattle.spi_tree.specs.Pieces.{Piece, cells, kinds_in}
use Rattle.spi_tree.specs.Formed.{AreWordsFit}
use Rattle.spi_parse.specs.declared.fault.ParseFault.{ParseFault}
use Rattle.spi_parse.proofs.Words.{fits_append, fits_front, fits_drop}
use Rattle.spi_parse.proofs.Wholes.{fits_from}
use Rattle.spi_grammar.specs.Exactly.{IsGoodKind, IsSame, Then, Nothing}
use Rattle.spi_grammar.proofs.Answers.{good_both}
use Rattle.spi_grammar.proofs.Good.{end_closed}
use Rattle.spi_parts.proofs.Alone.{kinds_in_append}
use Rattle.spi_parts.proofs.Bridge.{kinds_cells}
use Rattle.spi_heading.proofs.Standing.{AreTokensOf, stands_both, stands_kinds, stands_clean, stands_length}
use Rattle.spi_heading.specs.Spans.{start_of_token, end_before}
use Rattle.spi_heading.proofs.Failing.{FailsAt, ReadAt, first_fail, second_fail, same_fail}
use Rattle.spi_heading.proofs.Symbols.{cells_append, HeadingSym, opening, closing, Value, item_pieces, IsItem, item_behind, SymbolItem, item_good, item_into, item_from, nothing_good}

abbrev pub Values : List HeadingSym → Type 0
Values [] = Unit {0}
Values (s ∷ ss) = Value s × Values ss

abbrev pub row_pieces : (ss : List HeadingSym) → Values ss → List Piece → List Piece
row_pieces [] xs r = r
row_pieces (s ∷ ss) xs r = item_pieces s xs.0 (row_pieces ss xs.1 r)

abbrev pub AreItems : Bool → (ss : List HeadingSym) → Values ss → Type 0
AreItems v [] xs = Unit {0}
AreItems v (s ∷ ss) xs = IsItem v s xs.0 × AreItems v ss xs.1

abbrev pub Row : Bool → List HeadingSym → List (Kind × Bool) → Type 0
Row v [] = Nothing
Row v (s ∷ ss) = Then (SymbolItem v s) (Row v ss)

pub row_good : (v : Bool) (ss : List HeadingSym) → IsGoodKind (Row v ss)
row_good v [] = nothing_good
row_good v (s ∷ ss) = good_both (SymbolItem v s) (Row v ss) (item_good v s) (row_good v ss)

row_cells : (s : HeadingSym) (ss : List HeadingSym) (x : Value s) (xs : Values ss) → cells (row_pieces (s ∷ ss) (x, xs) []) ≡ cells (item_pieces s x []) ++ cells (row_pieces ss xs [])
row_cells s ss x xs = ap cells (item_behind s x (row_pieces ss xs [])) ∙ cells_append (item_pieces s x []) (row_pieces ss xs [])

row_kinds : (s : HeadingSym) (ss : List HeadingSym) (x : Value s) (xs : Values ss) → kinds_in (row_pieces (s ∷ ss) (x, xs) []) ≡ kinds_in (item_pieces s x []) ++ kinds_in (row_pieces ss xs [])
row_kinds s ss x xs = ap kinds_in (item_behind s x (row_pieces ss xs [])) ∙ kinds_in_append (item_pieces s x []) (row_pieces ss xs [])

-- the cells of values are of the row
pub row_into : (v : Bool) (ss : List HeadingSym) (xs : Values ss) → AreItems v ss xs → AreWordsFit v (kinds_in (row_pieces ss xs [])) → Row v ss (cells (row_pieces ss xs []))
row_into v [] xs h fit = refl
row_into v (s ∷ ss) xs h fit =
    let both = subst (AreWordsFit v) (row_kinds s ss xs.0 xs.1) fit in
    record {
      left = cells (item_pieces s xs.0 []);
      right = cells (row_pieces ss xs.1 []);
      one = item_into v s xs.0 h.0 (fits_front v (kinds_in (item_pieces s xs.0 [])) (kinds_in (row_pieces ss xs.1 [])) both);
      two = row_into v ss xs.1 h.1 (fits_drop v (kinds_in (item_pieces s xs.0 [])) (kinds_in (row_pieces ss xs.1 [])) both);
      cells = row_cells s ss xs.0 xs.1;
    }

-- and those of the row are of values
pub record FromRow (v : Bool) (ss : List HeadingSym) (cs : List (Kind × Bool)) : Type 0 where
  pub values : Values ss
  pub are : AreItems v ss values
  pub fit : AreWordsFit v (kinds_in (row_pieces ss values []))
  pub shows : cells (row_pieces ss values []) ≡ cs

pub row_from : (v : Bool) (ss : List HeadingSym) (cs : List (Kind × Bool)) → Row v ss cs → FromRow v ss cs
row_from v [] cs h = record { values = tt; are = tt; fit = tt; shows = sym h }
row_from v (s ∷ ss) cs h =
    let x = item_from v s h.left h.one in
    let xs = row_from v ss h.right h.two in
    record {
      values = (x.value, xs.values);
      are = (x.is, xs.are);
      fit = subst (AreWordsFit v) (sym (row_kinds s ss x.value xs.values)) (fits_append v (kinds_in (item_pieces s x.value [])) (kinds_in (row_pieces ss xs.values [])) x.fit xs.fit);
      shows = row_cells s ss x.value xs.values ∙ ap (λ (l : List (Kind × Bool)). l ++ cells (row_pieces ss xs.values [])) x.shows ∙ ap (λ (l : List (Kind × Bool)). h.left ++ l) xs.shows ∙ sym h.cells;
    }

-- ---- a row at a place of a text

-- the values stand from token i up to token j
pub record ItemAt (v : Bool) (ts : List Token) (i : ℕ) (s : HeadingSym) (x : Value s) (j : ℕ) : Type 0 where
  pub is : IsItem v s x
  pub stands : AreTokensOf ts i (item_pieces s x []) j

pub record RowAt (v : Bool) (ts : List Token) (i : ℕ) (ss : List HeadingSym) (xs : Values ss) (j : ℕ) : Type 0 where
  pub are : AreItems v ss xs
  pub stands : AreTokensOf ts i (row_pieces ss xs []) j

-- no row stands there, for this fault
pub record RowFails (v : Bool) (ts : List Token) (i : ℕ) (ss : List HeadingSym) (f : ParseFault) : Type 0 where
  pub by : FailsAt (Row v ss) ts i f

pub row_end : (v : Bool) (ts : List Token) (i : ℕ) → RowAt v ts i [] tt i
row_end v ts i = record { are = tt; stands = refl }

pub row_more : (v : Bool) (ts : List Token) (i j k : ℕ) (s : HeadingSym) (ss : List HeadingSym) (x : Value s) (xs : Values ss) → ItemAt v ts i s x j → RowAt v ts j ss xs k → RowAt v ts i (s ∷ ss) (x, xs) k
row_more v ts i j k s ss x xs h g = record {
  are = (h.is, g.are);
  stands = subst (λ (l : List Piece). AreTokensOf ts i l k) (sym (item_behind s x (row_pieces ss xs []))) (stands_both ts (item_pieces s x []) (row_pieces ss xs []) i j k h.stands g.stands);
}

-- words of the text fit where it stands
pub fits_at : (v : Bool) (ts : List Token) (ps : List Piece) (i j : ℕ) → AreWordsFit v (kinds_of ts) → AreTokensOf ts i ps j → AreWordsFit v (kinds_in ps)
fits_at v ts ps i j fit h = fits_front v (kinds_in ps) (kinds_of (drop j ts)) (subst (AreWordsFit v) (stands_kinds ts ps i j h) (fits_from v i ts fit))

pub row_fits : (v : Bool) (ts : List Token) (i j : ℕ) (ss : List HeadingSym) (xs : Values ss) → AreWordsFit v (kinds_of ts) → RowAt v ts i ss xs j → AreWordsFit v (kinds_in (row_pieces ss xs []))
row_fits v ts i j ss xs fit h = fits_at v ts (row_pieces ss xs []) i j fit h.stands

pub stands_read : (L : List (Kind × Bool) → Type 0) → IsGoodKind L → (ts : List Token) (ps : List Piece) (i j : ℕ) → L (cells ps) → AreTokensOf ts i ps j → ReadAt L ts i j
stands_read L good ts ps i j is h = record {
  cells = cells ps;
  reads = record {
    is = is;
    clean = stands_clean ts ps i j h;
    split = stands_kinds ts ps i j h ∙ ap (λ (l : List Kind). l ++ kinds_of (drop j ts)) (sym (kinds_cells ps));
    ends = end_closed L good.closed (cells ps) is (kinds_of (drop j ts));
  };
  place = stands_length ts ps i j h ∙ ap (λ (l : List Kind). i + length l) (sym (kinds_cells ps));
}

item_read : (v : Bool) (ts : List Token) (i j : ℕ) (s : HeadingSym) (x : Value s) → AreWordsFit v (kinds_of ts) → ItemAt v ts i s x j → ReadAt (SymbolItem v s) ts i j
item_read v ts i j s x fit h = stands_read (SymbolItem v s) (item_good v s) ts (item_pieces s x []) i j (item_into v s x h.is (fits_at v ts (item_pieces s x []) i j fit h.stands)) h.stands

pub fails_first : (v : Bool) (ts : List Token) (i : ℕ) (s : HeadingSym) (ss : List HeadingSym) (f : ParseFault) → FailsAt (SymbolItem v s) ts i f → RowFails v ts i (s ∷ ss) f
fails_first v ts i s ss f h = record { by = first_fail (SymbolItem v s) (Row v ss) ts (item_good v s) (row_good v ss) i f h }

pub fails_behind : (v : Bool) (ts : List Token) (i j : ℕ) (s : HeadingSym) (ss : List HeadingSym) (x : Value s) (f : ParseFault) → AreWordsFit v (kinds_of ts) → ItemAt v ts i s x j → RowFails v ts j ss f → RowFails v ts i (s ∷ ss) f
fails_behind v ts i j s ss x f fit h g = record { by = second_fail (SymbolItem v s) (Row v ss) ts (item_good v s) i j (item_read v ts i j s x fit h) f g.by }

-- a node begins where the row fails
pub fails_opening : (v : Bool) (ts : List Token) (i : ℕ) (ss : List HeadingSym) (f : ParseFault) → RowFails v ts i ss f → RowFails v ts i (opening ∷ ss) f
fails_opening v ts i ss f h = record { by = same_fail (Row v ss) (Row v (opening ∷ ss)) ts (record { there = there; back = back }) i f h.by }
  where
    there : (cs : List (Kind × Bool)) → Row v ss cs → Row v (opening ∷ ss) cs
    there cs r = record { left = []; right = cs; one = refl; two = r; cells = refl }

    back : (cs : List (Kind × Bool)) → Row v (opening ∷ ss) cs → Row v ss cs
    back cs r = subst (Row v ss) (sym (r.cells ∙ ap (λ (l : List (Kind × Bool)). l ++ r.right) r.one)) r.two

pub opened : (v : Bool) (ts : List Token) (i : ℕ) → i < length ts → ItemAt v ts i opening (start_of_token ts i) i
opened v ts i lt = record { is = tt; stands = (lt, refl, refl) }

pub closed : (v : Bool) (ts : List Token) (i : ℕ) → ItemAt v ts i closing (end_before ts i) i
closed v ts i = record { is = tt; stands = (refl, refl) }

-- ---- rows one behind another

abbrev pub join : (ss more : List HeadingSym) → Values ss → Values more → Values (ss ++ more)
join [] more xs ys = ys
join (s ∷ ss) more xs ys = (xs.0, join ss more xs.1 ys)

pub row_both : (v : Bool) (ss more : List HeadingSym) → IsSame (Then (Row v ss) (Row v more)) (Row v (ss ++ more))
row_both v ss more = record { there = there ss; back = back ss }
  where
    there : (ss : List HeadingSym) (cs : List (Kind × Bool)) → Then (Row v ss) (Row v more) cs → Row v (ss ++ more) cs
    there [] cs h = subst (Row v more) (sym (h.cells ∙ ap (λ (l : List (Kind × Bool)). l ++ h.right) h.one)) h.two
    there (s ∷ ss) cs h = record {
      left = h.one.left;
      right = h.one.right ++ h.right;
      one = h.one.one;
      two = there ss (h.one.right ++ h.right) (record { left = h.one.right; right = h.right; one = h.one.two; two = h.two; cells = refl });
      cells = h.cells ∙ ap (λ (l : List (Kind × Bool)). l ++ h.right) h.one.cells ∙ append_assoc h.one.left h.one.right h.right;
    }

    back : (ss : List HeadingSym) (cs : List (Kind × Bool)) → Row v (ss ++ more) cs → Then (Row v ss) (Row v more) cs
    back [] cs h = record { left = []; right = cs; one = refl; two = h; cells = refl }
    back (s ∷ ss) cs h =
        let b = back ss h.right h.two in
        record {
          left = h.left ++ b.left;
          right = b.right;
          one = record { left = h.left; right = b.left; one = h.one; two = b.one; cells = refl };
          two = b.two;
          cells = h.cells ∙ ap (λ (l : List (Kind × Bool)). h.left ++ l) b.cells ∙ sym (append_assoc h.left b.left b.right);
        }

pub rows_first : (v : Bool) (ts : List Token) (i : ℕ) (ss more : List HeadingSym) (f : ParseFault) → RowFails v ts i ss f → RowFails v ts i (ss ++ more) f
rows_first v ts i ss more f h = record { by = same_fail (Then (Row v ss) (Row v more)) (Row v (ss ++ more)) ts (row_both v ss more) i f (first_fail (Row v ss) (Row v more) ts (row_good v ss) (row_good v more) i f h.by) }

pub row_read : (v : Bool) (ts : List Token) (i j : ℕ) (ss : List HeadingSym) (xs : Values ss) → AreWordsFit v (kinds_of ts) → RowAt v ts i ss xs j → ReadAt (Row v ss) ts i j
row_read v ts i j ss xs fit h = stands_read (Row v ss) (row_good v ss) ts (row_pieces ss xs []) i j (row_into v ss xs h.are (row_fits v ts i j ss xs fit h)) h.stands

pub rows_behind : (v : Bool) (ts : List Token) (i j : ℕ) (ss more : List HeadingSym) (xs : Values ss) (f : ParseFault) → AreWordsFit v (kinds_of ts) → RowAt v ts i ss xs j → RowFails v ts j more f → RowFails v ts i (ss ++ more) f
rows_behind v ts i j ss more xs f fit h g = record {
  by = same_fail (Then (Row v ss) (Row v more)) (Row v (ss ++ more)) ts (row_both v ss more) i f (second_fail (Row v ss) (Row v more) ts (row_good v ss) i j (row_read v ts i j ss xs fit h) f g.by);
}

pub rows_more : (v : Bool) (ts : List Token) (i j k : ℕ) (ss more : List HeadingSym) (xs : Values ss) (ys : Values more) → RowAt v ts i ss xs j → RowAt v ts j more ys k → RowAt v ts i (ss ++ more) (join ss more xs ys) k
rows_more v ts i j k ss more xs ys h g = record {
  are = are ss xs h.are;
  stands = subst (λ (l : List Piece). AreTokensOf ts i l k) (sym (pieces ss xs)) (stands_both ts (row_pieces ss xs []) (row_pieces more ys []) i j k h.stands g.stands);
}
  where
    are : (ss : List HeadingSym) (xs : Values ss) → AreItems v ss xs → AreItems v (ss ++ more) (join ss more xs ys)
    are [] xs h = g.are
    are (s ∷ ss) xs h = (h.0, are ss xs.1 h.1)

    pieces : (ss : List HeadingSym) (xs : Values ss) → row_pieces (ss ++ more) (join ss more xs ys) [] ≡ row_pieces ss xs [] ++ row_pieces more ys []
    pieces [] xs = refl
    pieces (s ∷ ss) xs =
        item_behind s xs.0 (row_pieces (ss ++ more) (join ss more xs.1 ys) []) ∙ ap (λ (l : List Piece). item_pieces s xs.0 [] ++ l) (pieces ss xs.1)
        ∙ sym (append_assoc (item_pieces s xs.0 []) (row_pieces ss xs.1 []) (row_pieces more ys [])) ∙ ap (λ (l : List Piece). l ++ row_pieces more ys []) (sym (item_behind s xs.0 (row_pieces ss xs.1 [])))

pub row_behind : (ss : List HeadingSym) (xs : Values ss) (r : List Piece) → row_pieces ss xs r ≡ row_pieces ss xs [] ++ r
row_behind [] xs r = refl
row_behind (s ∷ ss) xs r =
    item_behind s xs.0 (row_pieces ss xs.1 r) ∙ ap (λ (l : List Piece). item_pieces s xs.0 [] ++ l) (row_behind ss xs.1 r)
    ∙ sym (append_assoc (item_pieces s xs.0 []) (row_pieces ss xs.1 []) r) ∙ ap (λ (l : List Piece). l ++ r) (sym (item_behind s xs.0 (row_pieces ss xs.1 [])))
