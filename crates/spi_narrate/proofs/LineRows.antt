-- Lines: a role and a colon and what it does, or the words and the message of a pass.
use Rattle.std.proofs.Common.{◌≡◌, ℕ, ◌+◌, Bool, true, false, List, [], ◌∷◌, ◌++◌, drop, Result, Ok, Err, refl, sym, ap, subst, ◌∙◌, codes, ◌⊎◌, inl, inr}
use Rattle.std.specs.Result.{IsErrAnd}
use Rattle.spi_lex.specs.declared.token.Kind.{Kind}
use Rattle.spi_lex.specs.declared.token.Kind.TheVariants as K
use Rattle.spi_lex.specs.declared.token.Mark.TheVariants as mark
use Rattle.spi_lex.specs.declared.token.Token.{Token}
use Rattle.spi_lex.specs.Lexing.{kinds_of}
use Rattle.spi_text.specs.declared.lines.Span.{Span}
use Rattle.spi_tree.specs.declared.tree.SWord.{SWord}
use Rattle.spi_tree.specs.Trees as t
use Rattle.spi_tree.specs.Pieces.{Piece, opens, cell, closes, cells, kinds_in, a_mark, ends, a_word, a_token, msg_pieces}
use Rattle.spi_tree.specs.Formed.{AreWordsFit, IsMsg}
use Rattle.spi_parse.specs.declared.fault.ParseFault.{ParseFault}
use Rattle.spi_parse.specs.declared.fault.ParseFault.TheVariants as faults
use Rattle.spi_parse.specs.Exact as exact
use Rattle.spi_parse.proofs.Words.{fits_append, fits_front, fits_drop}
use Rattle.spi_grammar.specs.Exactly.{kinds, IsGoodKind, IsSame, IsLive, Then, Either}
use Rattle.spi_grammar.proofs.Cuts.{kinds_append}
use Rattle.spi_grammar.proofs.Answers.{good_both}
use Rattle.spi_grammar.proofs.Good.{IsSome, Differ, good_either}
use Rattle.spi_parts.proofs.Alone.{kinds_in_append}
use Rattle.spi_parts.proofs.Bridge.{OfPieces, of_piece}
use Rattle.spi_heading.specs.Spans.{start_of_token, end_before}
use Rattle.spi_heading.specs.Taking.{IsThere, TakesOneToken, TakesWord}
use Rattle.spi_heading.specs.Repeated.{IsSolid}
use Rattle.spi_heading.proofs.Standing.{AreTokensOf, stands_both}
use Rattle.spi_heading.proofs.Failing.{FailsAt, IsToldBy, told_fail, same_fail, first_fail, second_fail, fails_to}
use Rattle.spi_heading.proofs.Symbols.{cells_append, HeadingSym, token, name, message, opening, closing, the_mark, the_word, to, on, as_}
use Rattle.spi_heading.proofs.Rows.{Values, Row, row_good, row_pieces, row_into, row_from, row_behind, row_read, RowAt, RowFails, row_end, row_more, opened, closed, fits_at, stands_read}
use Rattle.spi_heading.proofs.Calls.{part_at, took, took_word, there_before}
use Rattle.spi_heading.proofs.Versions.{Cells}
use Rattle.spi_heading.proofs.Wholes.{none_fail}
use Rattle.spi_heading.proofs.Manys.{both_fit, both_cells}
use Rattle.spi_heading.proofs.RowParts.{AreRows}
use Rattle.spi_narrate.specs.Narrations as n
use Rattle.spi_narrate.specs.Grammar.{whole_prefix, IsPrefix, IsWholePrefix, line_pieces, whole_line, IsLine, IsWholeLine}
use Rattle.spi_narrate.proofs.Prefixes.{Prefixes, prefixes_good, prefix_behind}

abbrev pub head_row : List HeadingSym
head_row = opening ∷ name ∷ []

abbrev pub colon_row : List HeadingSym
colon_row = token (the_mark mark.Colon) ∷ []

abbrev pub tail_row : List HeadingSym
tail_row = token (the_mark mark.Semicolon) ∷ closing ∷ []

abbrev pub pass_row : List HeadingSym
pass_row = token (the_word to) ∷ name ∷ token (the_word on) ∷ name ∷ token (the_mark mark.Colon) ∷ message ∷ token (the_word as_) ∷ name ∷ token (the_mark mark.Semicolon) ∷ closing ∷ []

abbrev pub head_values : ℕ → SWord → Values head_row
head_values from w = (from, (w, tt))

abbrev pub tail_values : ℕ → Values tail_row
tail_values end = (tt, (end, tt))

abbrev pub pass_values : SWord → SWord → t.Msg → SWord → ℕ → Values pass_row
pass_values b c m x end = (tt, (b, (tt, (c, (tt, (m, (tt, (x, (tt, (end, tt))))))))))

-- a line's pieces, by its parts
pub local_are : (s : Span) (w : SWord) (x : n.Prefix) → whole_line (n.local s w x) ≡ row_pieces head_row (head_values s.from w) [] ++ (row_pieces colon_row (tt, tt) [] ++ (whole_prefix x ++ row_pieces tail_row (tail_values s.to) []))
local_are s w x = ap (λ (l : List Piece). opens s.from ∷ opens w.span.from ∷ cell (K.Word w.word) false ∷ closes w.span.to ∷ cell (K.Mark mark.Colon) false ∷ l) (prefix_behind true x (a_mark mark.Semicolon (ends s [])))

module _ (v : Bool) where
  abbrev pub Tail : Cells → Type 0
  Tail = Then (Prefixes v) (Row v tail_row)

  abbrev pub LocalRest : Cells → Type 0
  LocalRest = Then (Row v colon_row) Tail

  abbrev pub LineRest : Cells → Type 0
  LineRest = Either LocalRest (Row v pass_row)

  abbrev pub LineKind : Cells → Type 0
  LineKind = Then (Row v head_row) LineRest

  abbrev pub Lines : Cells → Type 0
  Lines = OfPieces whole_line (IsWholeLine v)

  -- two lists of pieces as parts one behind the other
  both_into : (L M : Cells → Type 0) (ps qs : List Piece) → (AreWordsFit v (kinds_in ps) → L (cells ps)) → (AreWordsFit v (kinds_in qs) → M (cells qs)) → AreWordsFit v (kinds_in (ps ++ qs)) → Then L M (cells (ps ++ qs))
  both_into L M ps qs l m fit =
      let f = subst (AreWordsFit v) (kinds_in_append ps qs) fit in
      record { left = cells ps; right = cells qs; one = l (fits_front v (kinds_in ps) (kinds_in qs) f); two = m (fits_drop v (kinds_in ps) (kinds_in qs) f); cells = cells_append ps qs }

  -- ---- lines are of the kind that is put together

  line_into : (x : n.Line) → IsLine v x → AreWordsFit v (kinds_in (whole_line x)) → LineKind (cells (whole_line x))
  line_into (n.local s w x) h fit =
      subst (λ (l : List Piece). LineKind (cells l)) (sym (local_are s w x))
      (both_into (Row v head_row) LineRest (row_pieces head_row (head_values s.from w) []) (row_pieces colon_row (tt, tt) [] ++ (whole_prefix x ++ row_pieces tail_row (tail_values s.to) []))
      (λ f. row_into v head_row (head_values s.from w) (tt, (tt, tt)) f)
      (λ f. inl (both_into (Row v colon_row) Tail (row_pieces colon_row (tt, tt) []) (whole_prefix x ++ row_pieces tail_row (tail_values s.to) [])
      (λ f. row_into v colon_row (tt, tt) (tt, tt) f)
      (λ f. both_into (Prefixes v) (Row v tail_row) (whole_prefix x) (row_pieces tail_row (tail_values s.to) []) (λ f. of_piece whole_prefix (IsWholePrefix v) x (h, f)) (λ f. row_into v tail_row (tail_values s.to) (tt, (tt, tt)) f) f) f))
      (subst (λ (l : List Piece). AreWordsFit v (kinds_in l)) (local_are s w x) fit))
  line_into (n.pass s a b c m x) h fit =
      both_into (Row v head_row) LineRest (row_pieces head_row (head_values s.from a) []) (row_pieces pass_row (pass_values b c m x s.to) [])
      (λ f. row_into v head_row (head_values s.from a) (tt, (tt, tt)) f)
      (λ f. inr (row_into v pass_row (pass_values b c m x s.to) (tt, (tt, (tt, (tt, (tt, (h, (tt, (tt, (tt, (tt, tt)))))))))) f)) fit

  line_from : (cs : Cells) → LineKind cs → Lines cs
  line_from cs h = go (row_from v head_row h.left h.one) h.two
    where
      go : Rattle.spi_heading.proofs.Rows.FromRow v head_row h.left → LineRest h.right → Lines cs
      go r (inl k) =
          let colon = row_from v colon_row k.left k.one in
          let p = k.two.one.part in
          let tail = row_from v tail_row k.two.right k.two.two in
          let s : Span = record { from = r.values.0; to = tail.values.1.0 } in
          let w = r.values.1.0 in
          let rest : List Piece = whole_prefix p ++ row_pieces tail_row (tail_values s.to) [] in
          record {
            part = n.local s w p;
            is = (
              k.two.one.is.0,
              subst (λ (l : List Piece). AreWordsFit v (kinds_in l)) (sym (local_are s w p))
                  (both_fit v (row_pieces head_row (head_values s.from w) []) (row_pieces colon_row (tt, tt) [] ++ rest) r.fit
                  (both_fit v (row_pieces colon_row (tt, tt) []) rest colon.fit (both_fit v (whole_prefix p) (row_pieces tail_row (tail_values s.to) []) k.two.one.is.1 tail.fit))),
            );
            shows =
                ap cells (local_are s w p)
                ∙ both_cells (row_pieces head_row (head_values s.from w) []) (row_pieces colon_row (tt, tt) [] ++ rest) h.left h.right r.shows
                (both_cells (row_pieces colon_row (tt, tt) []) rest k.left k.right colon.shows (both_cells (whole_prefix p) (row_pieces tail_row (tail_values s.to) []) k.two.left k.two.right k.two.one.shows tail.shows ∙ sym k.two.cells) ∙ sym k.cells)
                ∙ sym h.cells;
          }
      go r (inr k) =
          let p = row_from v pass_row h.right k in
          let y = p.values in
          let s : Span = record { from = r.values.0; to = y.1.1.1.1.1.1.1.1.1.0 } in
          record {
            part = n.pass s r.values.1.0 y.1.0 y.1.1.1.0 y.1.1.1.1.1.0 y.1.1.1.1.1.1.1.0;
            is = (
              p.are.1.1.1.1.1.0,
              subst (AreWordsFit v) (sym (kinds_in_append (row_pieces head_row r.values []) (row_pieces pass_row y []))) (fits_append v (kinds_in (row_pieces head_row r.values [])) (kinds_in (row_pieces pass_row y [])) r.fit p.fit),
            );
            shows = cells_append (row_pieces head_row r.values []) (row_pieces pass_row y []) ∙ ap (λ (l : Cells). l ++ cells (row_pieces pass_row y [])) r.shows ∙ ap (λ (l : Cells). h.left ++ l) p.shows ∙ sym h.cells;
          }

  pub line_same : IsSame LineKind Lines
  line_same = record { there = line_from; back = λ cs p. subst LineKind p.shows (line_into p.part p.is.0 p.is.1) }

  pub line_solid : (x : n.Line) (r : List Piece) → IsSolid (line_pieces x r)
  line_solid (n.local s w x) r = tt
  line_solid (n.pass s a b c m x) r = tt

  -- ---- the kind is good

  same_good : (L M : Cells → Type 0) → IsSame L M → IsGoodKind L → IsGoodKind M
  same_good L M s g = record {
    live = (g.live.0, s.there g.live.0 g.live.1);
    closed = λ a b ma mb k x e. g.closed a b (s.back a ma) (s.back b mb) k x e;
    even = λ a b ma mb within p k x e d. g.even a b (s.back a ma) (s.back b mb) within p k x e d;
  }

  tail_good : IsGoodKind Tail
  tail_good = good_both (Prefixes v) (Row v tail_row) (prefixes_good v) (row_good v tail_row)

  local_good : IsGoodKind LocalRest
  local_good = good_both (Row v colon_row) Tail (row_good v colon_row) tail_good

  -- what a rest of a line begins with
  local_first : (a : Cells) → LocalRest a → (k : Kind) (x : List Kind) → kinds a ≡ k ∷ x → k ≡ K.Mark mark.Colon
  local_first a h k x e =
      let left : kinds h.left ≡ K.Mark mark.Colon ∷ kinds h.one.right = ap kinds h.one.cells ∙ kinds_append h.one.left h.one.right ∙ ap (λ (l : List Kind). l ++ kinds h.one.right) (ap kinds h.one.one.cells ∙ ap (λ (y : Kind). y ∷ []) h.one.one.is) in
      let all : K.Mark mark.Colon ∷ (kinds h.one.right ++ kinds h.right) ≡ k ∷ x = ap (λ (l : List Kind). l ++ kinds h.right) (sym left) ∙ sym (kinds_append h.left h.right) ∙ sym (ap kinds h.cells) ∙ e in
      cc

  pass_first : (a : Cells) → Row v pass_row a → (k : Kind) (x : List Kind) → kinds a ≡ k ∷ x → k ≡ K.Word (codes "to")
  pass_first a h k x e =
      let all : K.Word (codes "to") ∷ kinds h.right ≡ k ∷ x = ap (λ (l : List Kind). l ++ kinds h.right) (sym (ap kinds h.one.cells ∙ ap (λ (y : Kind). y ∷ []) h.one.is)) ∙ sym (kinds_append h.left h.right) ∙ sym (ap kinds h.cells) ∙ e in
      cc

  local_some : IsSome LocalRest
  local_some a h e =
      let left : kinds h.left ≡ K.Mark mark.Colon ∷ kinds h.one.right = ap kinds h.one.cells ∙ kinds_append h.one.left h.one.right ∙ ap (λ (l : List Kind). l ++ kinds h.one.right) (ap kinds h.one.one.cells ∙ ap (λ (y : Kind). y ∷ []) h.one.one.is) in
      let all : K.Mark mark.Colon ∷ (kinds h.one.right ++ kinds h.right) ≡ [] = ap (λ (l : List Kind). l ++ kinds h.right) (sym left) ∙ sym (kinds_append h.left h.right) ∙ sym (ap kinds h.cells) ∙ e in
      cc

  pass_some : IsSome (Row v pass_row)
  pass_some a h e =
      let all : K.Word (codes "to") ∷ kinds h.right ≡ [] = ap (λ (l : List Kind). l ++ kinds h.right) (sym (ap kinds h.one.cells ∙ ap (λ (y : Kind). y ∷ []) h.one.is)) ∙ sym (kinds_append h.left h.right) ∙ sym (ap kinds h.cells) ∙ e in
      cc

  rests_differ : Differ LocalRest (Row v pass_row)
  rests_differ a b la lb k x y e f = let g : K.Mark mark.Colon ≡ K.Word (codes "to") = sym (local_first a la k x e) ∙ pass_first b lb k y f in cc

  rest_good : IsGoodKind LineRest
  rest_good = good_either LocalRest (Row v pass_row) rests_differ local_some pass_some local_good (row_good v pass_row)

  rest_some : IsSome LineRest
  rest_some a (inl h) e = local_some a h e
  rest_some a (inr h) e = pass_some a h e

  kind_good : IsGoodKind LineKind
  kind_good = good_both (Row v head_row) LineRest (row_good v head_row) rest_good

  pub lines_good : IsGoodKind Lines
  lines_good = same_good LineKind Lines line_same kind_good

  local_told : IsToldBy (K.Mark mark.Colon) LocalRest LineRest
  local_told = record { starts = starts local_good.live; into = λ a h. inl h; splits = splits }
    where
      starts : IsLive LocalRest → (a : Cells) × LocalRest a × (x : List Kind) × (kinds a ≡ K.Mark mark.Colon ∷ x)
      starts l = go l.0 l.1 (kinds l.0) refl
        where
          go : (a : Cells) → LocalRest a → (u : List Kind) → kinds a ≡ u → (a : Cells) × LocalRest a × (x : List Kind) × (kinds a ≡ K.Mark mark.Colon ∷ x)
          go a h [] e = absurd (local_some a h e)
          go a h (k ∷ x) e = (a, h, x, e ∙ ap (λ (y : Kind). y ∷ x) (local_first a h k x e))

      splits : (a : Cells) → LineRest a → LocalRest a ⊎ ((x : List Kind) → kinds a ≡ K.Mark mark.Colon ∷ x → ⊥)
      splits a (inl h) = inl h
      splits a (inr h) = inr (λ x e. let g : K.Mark mark.Colon ≡ K.Word (codes "to") = pass_first a h (K.Mark mark.Colon) x e in cc)

  pass_told : IsToldBy (K.Word (codes "to")) (Row v pass_row) LineRest
  pass_told = record { starts = starts (row_good v pass_row).live; into = λ a h. inr h; splits = splits }
    where
      starts : IsLive (Row v pass_row) → (a : Cells) × Row v pass_row a × (x : List Kind) × (kinds a ≡ K.Word (codes "to") ∷ x)
      starts l = go l.0 l.1 (kinds l.0) refl
        where
          go : (a : Cells) → Row v pass_row a → (u : List Kind) → kinds a ≡ u → (a : Cells) × Row v pass_row a × (x : List Kind) × (kinds a ≡ K.Word (codes "to") ∷ x)
          go a h [] e = absurd (pass_some a h e)
          go a h (k ∷ x) e = (a, h, x, e ∙ ap (λ (y : Kind). y ∷ x) (pass_first a h k x e))

      splits : (a : Cells) → LineRest a → Row v pass_row a ⊎ ((x : List Kind) → kinds a ≡ K.Word (codes "to") ∷ x → ⊥)
      splits a (inl h) = inr (λ x e. let g : K.Word (codes "to") ≡ K.Mark mark.Colon = local_first a h (K.Word (codes "to")) x e in cc)
      splits a (inr h) = inl h

  -- ---- a line at a place of a text

  module _ (ts : List Token) (i : ℕ) (fit : AreWordsFit v (kinds_of ts)) where
    -- no line begins with a word that isn't there
    pub head_fails : (f : ParseFault) → RowFails v ts i head_row f → FailsAt Lines ts i f
    head_fails f h = same_fail LineKind Lines ts line_same i f (first_fail (Row v head_row) LineRest ts (row_good v head_row) rest_good i f h.by)

    line_reads : (x : n.Line) (m : ℕ) → IsLine v x → AreTokensOf ts i (whole_line x) m → (o : ℕ) × (m ≡ i + o) × exact.IsPartAt whole_line (IsWholeLine v) x (drop i ts) o
    line_reads x m formed stands = part_at whole_line (IsWholeLine v) x ts i m (formed, fits_at v ts (whole_line x) i m fit stands) (line_solid x []) lines_good.closed stands

    module _ (j from : ℕ) (w : SWord) (head : RowAt v ts i head_row (head_values from w) j) where
      rest_fails : (f : ParseFault) → FailsAt LineRest ts j f → FailsAt Lines ts i f
      rest_fails f h = same_fail LineKind Lines ts line_same i f (second_fail (Row v head_row) LineRest ts (row_good v head_row) i j (row_read v ts i j head_row (head_values from w) fit head) f h)

      -- neither a colon nor `to` stands behind the word
      pub neither_fails : (IsThere ts j (K.Mark mark.Colon) → ⊥) → (IsThere ts j (K.Word (codes "to")) → ⊥) → FailsAt Lines ts i (faults.Syntax j)
      neither_fails no_colon no_to = rest_fails (faults.Syntax j) (none_fail LineRest rest_good.live rest_some ts j none)
        where
          none : (a : Cells) → LineRest a → (k : Kind) (x : List Kind) → kinds a ≡ k ∷ x → IsThere ts j k → ⊥
          none a (inl h) k x e there = no_colon (there.0, there.1, there.2 ∙ local_first a h k x e)
          none a (inr h) k x e there = no_to (there.0, there.1, there.2 ∙ pass_first a h k x e)

      pub pass_fails : IsThere ts j (K.Word (codes "to")) → (f : ParseFault) → RowFails v ts j pass_row f → FailsAt Lines ts i f
      pass_fails there f h = rest_fails f (told_fail (K.Word (codes "to")) (Row v pass_row) LineRest pass_told ts j there f h.by)

      module _ (k : ℕ) (there : IsThere ts j (K.Mark mark.Colon)) (colon : RowAt v ts j colon_row (tt, tt) k) where
        tail_fails : (f : ParseFault) → FailsAt Tail ts k f → FailsAt Lines ts i f
        tail_fails f h = rest_fails f (told_fail (K.Mark mark.Colon) LocalRest LineRest local_told ts j there f (second_fail (Row v colon_row) Tail ts (row_good v colon_row) j k (row_read v ts j k colon_row (tt, tt) fit colon) f h))

        pub prefix_fails : (f : ParseFault) → FailsAt (Prefixes v) ts k f → FailsAt Lines ts i f
        prefix_fails f h = tail_fails f (first_fail (Prefixes v) (Row v tail_row) ts (prefixes_good v) (row_good v tail_row) k f h)

        module _ (l : ℕ) (x : n.Prefix) (formed : IsPrefix v x) (stands : AreTokensOf ts k (whole_prefix x) l) where
          pub end_fails : (f : ParseFault) → RowFails v ts l tail_row f → FailsAt Lines ts i f
          end_fails f h = tail_fails f (second_fail (Prefixes v) (Row v tail_row) ts (prefixes_good v) k l
              (stands_read (Prefixes v) (prefixes_good v) ts (whole_prefix x) k l (of_piece whole_prefix (IsWholePrefix v) x (formed, fits_at v ts (whole_prefix x) k l fit stands)) stands) f h.by)

          pub local_reads : (m end : ℕ) → RowAt v ts l tail_row (tail_values end) m → (o : ℕ) × (m ≡ i + o) × exact.IsPartAt whole_line (IsWholeLine v) (n.local (record { from = from; to = end }) w x) (drop i ts) o
          local_reads m end tail = line_reads (n.local (record { from = from; to = end }) w x) m formed
              (subst (λ (q : List Piece). AreTokensOf ts i q m) (sym (local_are (record { from = from; to = end }) w x))
              (stands_both ts (row_pieces head_row (head_values from w) []) (row_pieces colon_row (tt, tt) [] ++ (whole_prefix x ++ row_pieces tail_row (tail_values end) [])) i j m head.stands
              (stands_both ts (row_pieces colon_row (tt, tt) []) (whole_prefix x ++ row_pieces tail_row (tail_values end) []) j k m colon.stands
              (stands_both ts (whole_prefix x) (row_pieces tail_row (tail_values end) []) k l m stands tail.stands))))

      pub pass_reads : (b c : SWord) (m : t.Msg) (x : SWord) (end k : ℕ) → RowAt v ts j pass_row (pass_values b c m x end) k → (o : ℕ) × (k ≡ i + o) × exact.IsPartAt whole_line (IsWholeLine v) (n.pass (record { from = from; to = end }) w b c m x) (drop i ts) o
      pass_reads b c m x end k rest = line_reads (n.pass (record { from = from; to = end }) w b c m x) k rest.are.1.1.1.1.1.0
          (stands_both ts (row_pieces head_row (head_values from w) []) (row_pieces pass_row (pass_values b c m x end) []) i j k head.stands rest.stands)

pub line_solids : (x : n.Line) (r : List Piece) → IsSolid (line_pieces x r)
line_solids x r = line_solid true x r

pub line_behind : (x : n.Line) (r : List Piece) → line_pieces x r ≡ line_pieces x [] ++ r
line_behind (n.local s w x) r =
    let front = λ (l : List Piece). opens s.from ∷ opens w.span.from ∷ cell (K.Word w.word) false ∷ closes w.span.to ∷ cell (K.Mark mark.Colon) false ∷ l in
    ap front (prefix_behind true x (a_mark mark.Semicolon (ends s r)) ∙ regroup (whole_prefix x) ∙ ap (λ (l : List Piece). l ++ r) (sym (prefix_behind true x (a_mark mark.Semicolon (ends s [])))))
  where
    regroup : (l : List Piece) → l ++ a_mark mark.Semicolon (ends s r) ≡ (l ++ a_mark mark.Semicolon (ends s [])) ++ r
    regroup [] = refl
    regroup (q ∷ l) = ap (λ (m : List Piece). q ∷ m) (regroup l)
line_behind (n.pass s a b c m x) r =
    ap (λ (l : List Piece). opens s.from ∷ opens a.span.from ∷ cell (K.Word a.word) false ∷ closes a.span.to ∷ l) (row_behind pass_row (pass_values b c m x s.to) r)

-- ---- the answers of the readers of lines

module _ (v : Bool) (ts : List Token) where
  pub head_at : (i next : ℕ) (w : SWord) → TakesWord (Ok (w, next)) ts i → RowAt v ts i head_row (head_values (start_of_token ts i) w) next
  head_at i next w h =
      row_more v ts i i next opening (name ∷ []) (start_of_token ts i) (w, tt) (opened v ts i (there_before ts i (K.Word w.word) (h.0, h.1, h.2)))
      (row_more v ts i next next name [] w tt (took_word v ts i (w, next) h) (row_end v ts next))

  pub colon_at : (i : ℕ) → IsThere ts i (K.Mark mark.Colon) → RowAt v ts i colon_row (tt, tt) (i + 1)
  colon_at i h = row_more v ts i (i + 1) (i + 1) (token (the_mark mark.Colon)) [] tt tt (took v ts i (i + 1) (the_mark mark.Colon) (h, refl)) (row_end v ts (i + 1))

  pub tail_at : (i next : ℕ) → TakesOneToken (K.Mark mark.Semicolon) (Ok next) ts i → RowAt v ts i tail_row (tail_values (end_before ts next)) next
  tail_at i next h =
      row_more v ts i next next (token (the_mark mark.Semicolon)) (closing ∷ []) tt (end_before ts next, tt) (took v ts i next (the_mark mark.Semicolon) h)
      (row_more v ts next next next closing [] (end_before ts next) tt (closed v ts next) (row_end v ts next))

  pub line_answer : {V : Type 0} (view : V → n.Line) (i : ℕ) (f : ParseFault) (r : Result (V × ℕ) ParseFault) → IsErrAnd r (λ e. e ≡ f) → FailsAt (Lines v) ts i f → exact.Reads view whole_line (IsWholeLine v) r ts i
  line_answer view i f (Ok x) is h = absurd is
  line_answer view i f (Err e) is h = fails_to view whole_line (IsWholeLine v) ts i e (subst (λ (g : ParseFault). FailsAt (Lines v) ts i g) (sym is) h)

  -- only a fault of the syntax comes of a single token, and it is at that token
  pub no_pass : (i j from : ℕ) (w : SWord) → AreWordsFit v (kinds_of ts) → RowAt v ts i head_row (head_values from w) j → (IsThere ts j (K.Mark mark.Colon) → ⊥) → (f : ParseFault) → TakesOneToken (K.Word (codes "to")) (Err f) ts j → FailsAt (Lines v) ts i f
  no_pass i j from w fit head other (faults.Syntax k) h = subst (λ (m : ℕ). FailsAt (Lines v) ts i (faults.Syntax m)) (sym h.1) (neither_fails v ts i fit j from w head other h.0)
  no_pass i j from w fit head other (faults.TooDeep k) h = absurd h
  no_pass i j from w fit head other faults.NoMemory h = absurd h

-- a line begins with a word
pub line_first : (v : Bool) (a : List (Kind × Bool)) → Lines v a → (k : Kind) × (x : List Kind) × (kinds a ≡ k ∷ x)
line_first v a p = go p.part p.shows
  where
    go : (l : n.Line) → cells (whole_line l) ≡ a → (k : Kind) × (x : List Kind) × (kinds a ≡ k ∷ x)
    go (n.local s w x) e = (K.Word w.word, _, ap kinds (sym e))
    go (n.pass s b c d m x) e = (K.Word b.word, _, ap kinds (sym e))

-- ---- the receiver, the channel and the datum by themselves

abbrev pub addressed_row : List HeadingSym
addressed_row = name ∷ token (the_word on) ∷ name ∷ token (the_mark mark.Colon) ∷ message ∷ []

abbrev addressed_part : SWord × SWord × t.Msg → List Piece
addressed_part x = a_word false x.0 (a_token (K.Word (codes "on")) (a_word false x.1 (a_mark mark.Colon (msg_pieces 1 x.2 []))))

pub addressed_are : (v : Bool) → AreRows v addressed_part (λ x. IsMsg v false x.2 × AreWordsFit v (kinds_in (addressed_part x))) addressed_row (λ x. (x.0, (tt, (x.1, (tt, (x.2, tt))))))
addressed_are v = record {
  part = λ xs. (xs.0, xs.1.1.0, xs.1.1.1.1.0);
  values_of = λ xs. refl;
  formed = λ xs are fit. (are.1.1.1.1.0, fit);
  are = λ x is. (tt, (tt, (tt, (tt, (is.0, tt)))));
  fit = λ x is. is.1;
  pieces_of = λ x. refl;
  known = λ x are fit. (are.1.1.1.1.0, fit);
  solid = λ x. tt;
}
