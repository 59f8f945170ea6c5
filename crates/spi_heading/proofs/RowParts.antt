-- Parts of a kind that are rows: what is read as such a part stands as its row, and what fails as the row fails as the part.
use Rattle.std.proofs.Common.{◌≡◌, ℕ, ◌+◌, ◌≤◌, Bool, List, [], ◌++◌, length, drop, Result, Ok, Err, sym, ap, subst, ◌∙◌}
use Rattle.std.specs.Result.{IsErrAnd}
use Rattle.spi_lex.specs.declared.token.Kind.{Kind}
use Rattle.spi_lex.specs.declared.token.Token.{Token}
use Rattle.spi_lex.specs.Lexing.{kinds_of}
use Rattle.spi_tree.specs.Pieces.{Piece, cells, kinds_in}
use Rattle.spi_tree.specs.Formed.{AreWordsFit}
use Rattle.spi_parse.specs.declared.fault.ParseFault.{ParseFault}
use Rattle.spi_parse.specs.Exact as exact
use Rattle.spi_grammar.specs.Exactly.{IsSame}
use Rattle.spi_parts.proofs.Bridge.{OfPieces}
use Rattle.spi_heading.specs.Repeated.{IsSolid}
use Rattle.spi_heading.proofs.Standing.{AreTokensOf}
use Rattle.spi_heading.proofs.Failing.{FailsAt, same_fail, fails_from, fails_to}
use Rattle.spi_heading.proofs.Symbols.{HeadingSym}
use Rattle.spi_heading.proofs.Rows.{Values, join, AreItems, Row, row_good, row_pieces, row_into, row_from, RowAt, RowFails, row_fits}
use Rattle.spi_heading.proofs.Reached.{RowReached, then_row, no_row}
use Rattle.spi_heading.proofs.Calls.{part_at, part_stands, same_closed}

-- the parts have the pieces of the row, with these values, and are formed where those are
pub record AreRows (v : Bool) {X : Type 0} (pieces : X → List Piece) (P : X → Type 0) (row : List HeadingSym) (values : X → Values row) : Type 0 where
  pub part : Values row → X
  pub values_of : (xs : Values row) → cells (pieces (part xs)) ≡ cells (row_pieces row xs [])
  pub formed : (xs : Values row) → AreItems v row xs → AreWordsFit v (kinds_in (row_pieces row xs [])) → P (part xs)
  pub are : (x : X) → P x → AreItems v row (values x)
  pub fit : (x : X) → P x → AreWordsFit v (kinds_in (pieces x))
  pub pieces_of : (x : X) → pieces x ≡ row_pieces row (values x) []
  pub known : (x : X) → AreItems v row (values x) → AreWordsFit v (kinds_in (row_pieces row (values x) [])) → P x
  pub solid : (x : X) → IsSolid (pieces x)

module _ {v : Bool} {X : Type 0} {pieces : X → List Piece} {P : X → Type 0} {row : List HeadingSym} {values : X → Values row} (is : AreRows v pieces P row values) where
  pub rows_same : IsSame (Row v row) (OfPieces pieces P)
  rows_same = record { there = there; back = back }
    where
      there : (cs : List (Kind × Bool)) → Row v row cs → OfPieces pieces P cs
      there cs r = let f = row_from v row cs r in record { part = is.part f.values; is = is.formed f.values f.are f.fit; shows = is.values_of f.values ∙ f.shows }

      back : (cs : List (Kind × Bool)) → OfPieces pieces P cs → Row v row cs
      back cs p =
          let e = is.pieces_of p.part in
          subst (Row v row) (ap cells (sym e) ∙ p.shows) (row_into v row (values p.part) (is.are p.part p.is) (subst (λ (l : List Piece). AreWordsFit v (kinds_in l)) e (is.fit p.part p.is)))

  module _ (ts : List Token) (i : ℕ) where
    pub part_fails : {V : Type 0} (view : V → X) (f : ParseFault) (r : Result (V × ℕ) ParseFault) → IsErrAnd r (λ e. e ≡ f) → RowFails v ts i row f → exact.Reads view pieces P r ts i
    part_fails view f (Ok x) e h = absurd e
    part_fails view f (Err g) e h = fails_to view pieces P ts i g (same_fail (Row v row) (OfPieces pieces P) ts rows_same i g (subst (λ (x : ParseFault). FailsAt (Row v row) ts i x) (sym e) h.by))

    pub part_unread : {V : Type 0} (view : V → X) (f : ParseFault) → exact.Reads view pieces P (Err f) ts i → RowFails v ts i row f
    part_unread view f r = record { by = same_fail (OfPieces pieces P) (Row v row) ts (record { there = rows_same.back; back = rows_same.there }) i f (fails_from view pieces P ts i f r) }

    pub part_reads : AreWordsFit v (kinds_of ts) → (x : X) (j : ℕ) → RowAt v ts i row (values x) j → (n : ℕ) × (j ≡ i + n) × exact.IsPartAt pieces P x (drop i ts) n
    part_reads fit x j r =
        part_at pieces P x ts i j (is.known x r.are (row_fits v ts i j row (values x) fit r)) (is.solid x) (same_closed (Row v row) (OfPieces pieces P) rows_same (row_good v row).closed)
        (subst (λ (l : List Piece). AreTokensOf ts i l j) (sym (is.pieces_of x)) r.stands)

    pub part_row : (x : X) (j : ℕ) → i ≤ length ts → (r : (n : ℕ) × (j ≡ i + n) × exact.IsPartAt pieces P x (drop i ts) n) → RowAt v ts i row (values x) j
    part_row x j w r = record {
      are = is.are x r.2.part;
      stands = subst (λ (l : List Piece). AreTokensOf ts i l j) (is.pieces_of x) (subst (λ (k : ℕ). AreTokensOf ts i (pieces x) k) (sym r.1) (part_stands pieces P x ts i r.0 w (is.solid x) r.2));
    }

-- ---- such a part in a row that is read

pub then_part : {v : Bool} {ts : List Token} {i j : ℕ} {row more : List HeadingSym} (left : List HeadingSym) {put : Values (more ++ left) → Values row} {X : Type 0} {pieces : X → List Piece} {P : X → Type 0} {values : X → Values more} → AreRows v pieces P more values
    → RowReached v ts i row (more ++ left) put j → (x : X) (k : ℕ) → j ≤ length ts → (h : (n : ℕ) × (k ≡ j + n) × exact.IsPartAt pieces P x (drop j ts) n) → RowReached v ts i row left (λ (xs : Values left). put (join more left (values x) xs)) k
then_part {ts = ts} {j = j} {more = more} left {values = values} is r x k w h = then_row more left r (values x) k (part_row is ts j x k w h)

pub no_part : {v : Bool} {ts : List Token} {i j : ℕ} {row more : List HeadingSym} (left : List HeadingSym) {put : Values (more ++ left) → Values row} {X V : Type 0} {pieces : X → List Piece} {P : X → Type 0} {values : X → Values more} → AreRows v pieces P more values
    → RowReached v ts i row (more ++ left) put j → (view : V → X) (f : ParseFault) → exact.Reads view pieces P (Err f) ts j → RowFails v ts i row f
no_part {ts = ts} {j = j} {more = more} left is r view f h = no_row more left r f (part_unread is ts j view f h)
