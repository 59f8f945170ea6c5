-- Nodes that begin with a token that tells them: a row that opens, that token, and the rest of the row.
use Rattle.std.proofs.Common.{◌≡◌, ℕ, ◌+◌, Bool, false, List, [], ◌∷◌, drop, Result, Ok, Err, refl, sym, ap, subst, ◌∙◌, ◌⊎◌, inl, inr}
use Rattle.std.specs.Result.{IsErrAnd}
use Rattle.spi_lex.specs.declared.token.Kind.{Kind}
use Rattle.spi_lex.specs.declared.token.Token.{Token}
use Rattle.spi_lex.specs.Lexing.{kinds_of}
use Rattle.spi_text.specs.declared.lines.Span.{Span}
use Rattle.spi_tree.specs.Pieces.{Piece, cells, kinds_in}
use Rattle.spi_tree.specs.Formed.{AreWordsFit}
use Rattle.spi_parse.specs.declared.fault.ParseFault.{ParseFault}
use Rattle.spi_parse.specs.Exact as exact
use Rattle.spi_grammar.specs.Exactly.{kinds, IsPrefixFree}
use Rattle.spi_parts.proofs.Bridge.{OfPieces}
use Rattle.spi_heading.specs.Spans.{start_of_token, span_over}
use Rattle.spi_heading.specs.Taking.{IsThere}
use Rattle.spi_heading.specs.Repeated.{IsSolid}
use Rattle.spi_heading.proofs.Standing.{AreTokensOf}
use Rattle.spi_heading.proofs.Failing.{FailsAt, IsToldBy, told_fail, fails_to}
use Rattle.spi_heading.proofs.Symbols.{HeadingSym, token, opening, HeadingTok, kind_of_token}
use Rattle.spi_heading.proofs.Rows.{Values, AreItems, Row, row_good, row_pieces, row_from, RowAt, RowFails, fits_at}
use Rattle.spi_heading.proofs.Calls.{part_at, there_before}
use Rattle.spi_heading.proofs.Reached.{RowReached, begun, then_token, then_opening}

abbrev pub node_row : HeadingTok → List HeadingSym → List HeadingSym
node_row x rest = opening ∷ token x ∷ rest

pub node_starts : (v : Bool) (x : HeadingTok) (rest : List HeadingSym) → (a : List (Kind × Bool)) × Row v (node_row x rest) a × (y : List Kind) × (kinds a ≡ kind_of_token x ∷ y)
node_starts v x rest =
    let r = (row_good v rest).live in
    let k = kind_of_token x in
    let inner : Row v (token x ∷ rest) ((k, false) ∷ r.0) = record { left = (k, false) ∷ []; right = r.0; one = record { token = k; is = refl; cells = refl }; two = r.1; cells = refl } in
    ((k, false) ∷ r.0, record { left = []; right = (k, false) ∷ r.0; one = refl; two = inner; cells = refl }, kinds r.0, refl)

pub begun_node : (v : Bool) (ts : List Token) (i : ℕ) → AreWordsFit v (kinds_of ts) → (x : HeadingTok) (rest : List HeadingSym) → IsThere ts i (kind_of_token x) → RowReached v ts i (node_row x rest) rest (λ (xs : Values rest). (start_of_token ts i, (tt, xs))) (i + 1)
begun_node v ts i fit x rest there = then_token (then_opening (begun v ts i (node_row x rest) fit) (there_before ts i (kind_of_token x) there)) (i + 1) (there, refl)

-- parts that are such nodes, among those that are others
pub node_told : (v : Bool) {X : Type 0} (pieces : X → List Piece) (P : X → Type 0) (w : HeadingTok) (rest : List HeadingSym) (part : Values (node_row w rest) → X)
    → ((xs : Values (node_row w rest)) → AreItems v (node_row w rest) xs → AreWordsFit v (kinds_in (row_pieces (node_row w rest) xs [])) → P (part xs))
    → ((xs : Values (node_row w rest)) → cells (pieces (part xs)) ≡ cells (row_pieces (node_row w rest) xs []))
    → ((x : X) → P x → Row v (node_row w rest) (cells (pieces x)) ⊎ ((y : List Kind) → kinds (cells (pieces x)) ≡ kind_of_token w ∷ y → ⊥)) → IsToldBy (kind_of_token w) (Row v (node_row w rest)) (OfPieces pieces P)
node_told v pieces P w rest part formed shows either = record { starts = node_starts v w rest; into = into; splits = λ cs p. splits cs p (either p.part p.is) }
  where
    into : (cs : List (Kind × Bool)) → Row v (node_row w rest) cs → OfPieces pieces P cs
    into cs h = let r = row_from v (node_row w rest) cs h in record { part = part r.values; is = formed r.values r.are r.fit; shows = shows r.values ∙ r.shows }

    splits : (cs : List (Kind × Bool)) (p : OfPieces pieces P cs) → Row v (node_row w rest) (cells (pieces p.part)) ⊎ ((y : List Kind) → kinds (cells (pieces p.part)) ≡ kind_of_token w ∷ y → ⊥) → Row v (node_row w rest) cs ⊎ ((y : List Kind) → kinds cs ≡ kind_of_token w ∷ y → ⊥)
    splits cs p (inl r) = inl (subst (Row v (node_row w rest)) p.shows r)
    splits cs p (inr none) = inr (λ y g. none y (ap kinds p.shows ∙ g))

-- ---- the answers of their readers

module _ (v : Bool) {X : Type 0} (pieces : X → List Piece) (Is : X → Type 0) where
  -- formed, and with words that fit
  abbrev IsFormed : X → Type 0
  IsFormed x = Is x × AreWordsFit v (kinds_in (pieces x))

  pub node_fails : {V : Type 0} (view : V → X) (k : Kind) (row : List HeadingSym) → IsToldBy k (Row v row) (OfPieces pieces IsFormed) → (ts : List Token) (i : ℕ) → IsThere ts i k → (f : ParseFault) (r : Result (V × ℕ) ParseFault) → IsErrAnd r (λ e. e ≡ f)
      → RowFails v ts i row f → exact.Reads view pieces IsFormed r ts i
  node_fails view k row told ts i there f (Ok x) is h = absurd is
  node_fails view k row told ts i there f (Err e) is h = fails_to view pieces IsFormed ts i e (subst (λ (g : ParseFault). FailsAt (OfPieces pieces IsFormed) ts i g) (sym is) (told_fail k (Row v row) (OfPieces pieces IsFormed) told ts i there f h.by))

  pub node_reads : ((x : X) → IsSolid (pieces x)) → IsPrefixFree (OfPieces pieces IsFormed) → (ts : List Token) (i : ℕ) → AreWordsFit v (kinds_of ts) → (x : Span → X) (s : Span) (j : ℕ) → s ≡ span_over ts i j → Is (x (span_over ts i j)) → (row : List HeadingSym) (xs : Values row)
      → pieces (x (span_over ts i j)) ≡ row_pieces row xs [] → RowAt v ts i row xs j → (m : ℕ) × (j ≡ i + m) × exact.IsPartAt pieces IsFormed (x s) (drop i ts) m
  node_reads solid no_more ts i fit x s j spans formed row xs are r =
      let y = x (span_over ts i j) in
      let stands = subst (λ (l : List Piece). AreTokensOf ts i l j) (sym are) r.stands in
      subst (λ (z : Span). (m : ℕ) × (j ≡ i + m) × exact.IsPartAt pieces IsFormed (x z) (drop i ts) m) (sym spans) (part_at pieces IsFormed y ts i j (formed, fits_at v ts (pieces y) i j fit stands) (solid y) no_more stands)
