-- The forms of what a role does by itself, as rows, each told by its first token.
use Rattle.std.proofs.Common.{◌≡◌, ℕ, ◌+◌, ◌≤◌, Bool, true, List, [], ◌∷◌, ◌++◌, length, drop, Option, Some, Err, refl, sym, ap, subst, ◌∙◌, ◌⊎◌, inl, inr}
use Rattle.std.proofs.lemmas.Bool.{cases_eq}
use Rattle.spi_lex.specs.declared.token.Kind.{Kind}
use Rattle.spi_lex.specs.declared.token.Kind.TheVariants as K
use Rattle.spi_lex.specs.declared.token.Mark.TheVariants as mark
use Rattle.spi_lex.specs.declared.token.Reserved.{Reserved}
use Rattle.spi_lex.specs.declared.token.Reserved.TheVariants as word
use Rattle.spi_lex.specs.declared.token.Token.{Token}
use Rattle.spi_lex.specs.Lexing.{kinds_of}
use Rattle.spi_text.specs.declared.lines.Span.{Span}
use Rattle.spi_tree.specs.Trees as t
use Rattle.spi_tree.specs.Pieces.{Piece, cells}
use Rattle.spi_tree.specs.Formed.{AreWordsFit}
use Rattle.spi_parse.specs.Formed.{whole_message, IsWholeMessage}
use Rattle.spi_parse.specs.Exact as exact
use Rattle.spi_parse.specs.Table.{reserved_number}
use Rattle.spi_parse.proofs.Numbers.{same_reserved}
use Rattle.spi_grammar.specs.Exactly.{kinds, IsGoodKind}
use Rattle.spi_parts.proofs.Bridge.{OfPieces}
use Rattle.spi_heading.specs.Spans.{start_of_token, end_before, span_over}
use Rattle.spi_heading.specs.Taking.{IsThere}
use Rattle.spi_heading.proofs.Failing.{IsToldBy, fails_to}
use Rattle.spi_heading.proofs.Symbols.{HeadingSym, token, name, message, ty, closing, the_mark, the_reserved}
use Rattle.spi_heading.proofs.Rows.{Values, Row, row_pieces, row_into, row_behind, RowAt}
use Rattle.spi_heading.specs.Repeated.{IsSolid}
use Rattle.spi_heading.proofs.Standing.{AreTokensOf}
use Rattle.spi_heading.proofs.Calls.{part_stands, there_within}
use Rattle.spi_heading.proofs.Reached.{ended, then_message, then_closing}
use Rattle.spi_heading.proofs.Nodes.{node_row, node_starts, node_told, begun_node, node_reads}
use Rattle.spi_heading.proofs.Told.{FormOf, forms_good}
use Rattle.spi_heading.proofs.Wholes.{none_fail}
use Rattle.spi_grammar.proofs.Good.{IsSome}
use Rattle.spi_parse.specs.declared.fault.ParseFault.TheVariants as faults
use Rattle.spi_narrate.specs.Narrations as n
use Rattle.spi_narrate.specs.Grammar.{prefix_pieces, whole_prefix, IsPrefix, IsWholePrefix}

-- the row of a form: a node that begins with the reserved word
abbrev pub form_row : Reserved → List HeadingSym → List HeadingSym
form_row w ss = node_row (the_reserved w) ss

abbrev pub split_rest : List HeadingSym
split_rest = message ∷ token (the_reserved word.Is) ∷ token (the_mark mark.ParenOpen) ∷ name ∷ token (the_mark mark.Colon) ∷ ty ∷ token (the_mark mark.Comma) ∷ name ∷ token (the_mark mark.Colon) ∷ ty ∷ token (the_mark mark.ParenClose) ∷ closing ∷ []

abbrev pub split_row : List HeadingSym
split_row = form_row word.Split split_rest

abbrev pub match_rest : List HeadingSym
match_rest = message ∷ token (the_reserved word.Is) ∷ token (the_mark mark.ParenOpen) ∷ name ∷ token (the_mark mark.Colon) ∷ ty ∷ token (the_mark mark.Equals) ∷ message ∷ token (the_mark mark.Comma) ∷ name ∷ token (the_mark mark.Colon) ∷ ty ∷ token (the_mark mark.ParenClose) ∷ closing ∷ []

abbrev pub match_row : List HeadingSym
match_row = form_row word.Match match_rest

abbrev pub decrypt_rest : List HeadingSym
decrypt_rest = message ∷ token (the_reserved word.Is) ∷ token (the_mark mark.BraceOpen) ∷ name ∷ token (the_mark mark.Colon) ∷ ty ∷ token (the_mark mark.BraceClose) ∷ message ∷ closing ∷ []

abbrev pub decrypt_row : List HeadingSym
decrypt_row = form_row word.Decrypt decrypt_rest

abbrev pub check_rest : List HeadingSym
check_rest = message ∷ token (the_reserved word.Is) ∷ message ∷ closing ∷ []

abbrev pub check_row : List HeadingSym
check_row = form_row word.Check check_rest

abbrev pub label_rest : List HeadingSym
label_rest = message ∷ closing ∷ []

abbrev pub label_row : Reserved → List HeadingSym
label_row w = form_row w label_rest

abbrev pub cast_rest : List HeadingSym
cast_rest = message ∷ token (the_reserved word.Is) ∷ token (the_mark mark.ParenOpen) ∷ name ∷ token (the_mark mark.Colon) ∷ ty ∷ token (the_mark mark.ParenClose) ∷ closing ∷ []

abbrev pub cast_row : List HeadingSym
cast_row = form_row word.Cast cast_rest

abbrev pub new_rest : List HeadingSym
new_rest = token (the_mark mark.ParenOpen) ∷ name ∷ token (the_mark mark.Colon) ∷ ty ∷ token (the_mark mark.ParenClose) ∷ closing ∷ []

abbrev pub new_row : List HeadingSym
new_row = form_row word.New new_rest

-- the word that a form begins with
abbrev pub first_word : n.Prefix → Reserved
first_word (n.split s m x a y b) = word.Split
first_word (n.match s m x a k y b) = word.Match
first_word (n.decrypt s m x a k) = word.Decrypt
first_word (n.check s m k) = word.Check
first_word (n.begin s m) = word.Begin
first_word (n.end s m) = word.End
first_word (n.end_many s m) = word.EndMany
first_word (n.cast s m x a) = word.Cast
first_word (n.new s x a) = word.New

first_token : (x : n.Prefix) → (r : List Kind) × (kinds (cells (whole_prefix x)) ≡ K.Reserved (first_word x) ∷ r)
first_token (n.split s m x a y b) = (_, refl)
first_token (n.match s m x a k y b) = (_, refl)
first_token (n.decrypt s m x a k) = (_, refl)
first_token (n.check s m k) = (_, refl)
first_token (n.begin s m) = (_, refl)
first_token (n.end s m) = (_, refl)
first_token (n.end_many s m) = (_, refl)
first_token (n.cast s m x a) = (_, refl)
first_token (n.new s x a) = (_, refl)

-- what a form has behind that word
abbrev rest_of : Reserved → List HeadingSym
rest_of word.Split = split_rest
rest_of word.Match = match_rest
rest_of word.Decrypt = decrypt_rest
rest_of word.Check = check_rest
rest_of word.Begin = label_rest
rest_of word.End = label_rest
rest_of word.EndMany = label_rest
rest_of word.Cast = cast_rest
rest_of word.New = new_rest
rest_of _ = []

-- words are the same or not
either_word : (w u : Reserved) → (w ≡ u) ⊎ (w ≡ u → ⊥)
either_word w u = go (cases_eq (reserved_number w) (reserved_number u))
  where
    go : (reserved_number w ≡ reserved_number u) ⊎ (reserved_number w ≡ reserved_number u → ⊥) → (w ≡ u) ⊎ (w ≡ u → ⊥)
    go (inl e) = inl (same_reserved w u e)
    go (inr other) = inr (λ e. other (ap reserved_number e))

module _ (v : Bool) where
  abbrev pub Prefixes : List (Kind × Bool) → Type 0
  Prefixes = OfPieces whole_prefix (IsWholePrefix v)

  prefix_row : (x : n.Prefix) → IsWholePrefix v x → Row v (form_row (first_word x) (rest_of (first_word x))) (cells (whole_prefix x))
  prefix_row (n.split s m x a y b) is = row_into v split_row (s.from, (tt, (m, (tt, (tt, (x, (tt, (a, (tt, (y, (tt, (b, (tt, (s.to, tt)))))))))))))) (tt, (tt, (is.0.0, (tt, (tt, (tt, (tt, (is.0.1, (tt, (tt, (tt, (is.0.2, (tt, (tt, tt)))))))))))))) is.1
  prefix_row (n.match s m x a k y b) is = row_into v match_row (s.from, (tt, (m, (tt, (tt, (x, (tt, (a, (tt, (k, (tt, (y, (tt, (b, (tt, (s.to, tt)))))))))))))))) (tt, (tt, (is.0.0, (tt, (tt, (tt, (tt, (is.0.1, (tt, (is.0.2, (tt, (tt, (tt, (is.0.3, (tt, (tt, tt)))))))))))))))) is.1
  prefix_row (n.decrypt s m x a k) is = row_into v decrypt_row (s.from, (tt, (m, (tt, (tt, (x, (tt, (a, (tt, (k, (s.to, tt))))))))))) (tt, (tt, (is.0.0, (tt, (tt, (tt, (tt, (is.0.1, (tt, (is.0.2, (tt, tt))))))))))) is.1
  prefix_row (n.check s m k) is = row_into v check_row (s.from, (tt, (m, (tt, (k, (s.to, tt)))))) (tt, (tt, (is.0.0, (tt, (is.0.1, (tt, tt)))))) is.1
  prefix_row (n.begin s m) is = row_into v (label_row word.Begin) (s.from, (tt, (m, (s.to, tt)))) (tt, (tt, (is.0, (tt, tt)))) is.1
  prefix_row (n.end s m) is = row_into v (label_row word.End) (s.from, (tt, (m, (s.to, tt)))) (tt, (tt, (is.0, (tt, tt)))) is.1
  prefix_row (n.end_many s m) is = row_into v (label_row word.EndMany) (s.from, (tt, (m, (s.to, tt)))) (tt, (tt, (is.0.1, (tt, tt)))) is.1
  prefix_row (n.cast s m x a) is = row_into v cast_row (s.from, (tt, (m, (tt, (tt, (x, (tt, (a, (tt, (s.to, tt)))))))))) (tt, (tt, (is.0.0, (tt, (tt, (tt, (tt, (is.0.1, (tt, (tt, tt)))))))))) is.1
  prefix_row (n.new s x a) is = row_into v new_row (s.from, (tt, (tt, (x, (tt, (a, (tt, (s.to, tt)))))))) (tt, (tt, (tt, (tt, (tt, (is.0, (tt, (tt, tt)))))))) is.1

  row_or_not : (w : Reserved) (x : n.Prefix) → IsWholePrefix v x → Row v (form_row w (rest_of w)) (cells (whole_prefix x)) ⊎ ((y : List Kind) → kinds (cells (whole_prefix x)) ≡ K.Reserved w ∷ y → ⊥)
  row_or_not w x is = go (either_word (first_word x) w)
    where
      go : (first_word x ≡ w) ⊎ (first_word x ≡ w → ⊥) → Row v (form_row w (rest_of w)) (cells (whole_prefix x)) ⊎ ((y : List Kind) → kinds (cells (whole_prefix x)) ≡ K.Reserved w ∷ y → ⊥)
      go (inl e) = inl (subst (λ (u : Reserved). Row v (form_row u (rest_of u)) (cells (whole_prefix x))) e (prefix_row x is))
      go (inr other) = inr (λ y g. let f = first_token x in let h : K.Reserved (first_word x) ∷ f.0 ≡ K.Reserved w ∷ y = sym f.1 ∙ g in other cc)

  pub split_told : IsToldBy (K.Reserved word.Split) (Row v split_row) Prefixes
  split_told = node_told v whole_prefix (IsWholePrefix v) (the_reserved word.Split) split_rest (λ x. n.split (record { from = x.0; to = x.1.1.1.1.1.1.1.1.1.1.1.1.1.0 }) x.1.1.0 x.1.1.1.1.1.0 x.1.1.1.1.1.1.1.0 x.1.1.1.1.1.1.1.1.1.0 x.1.1.1.1.1.1.1.1.1.1.1.0) (λ x are fit. ((are.1.1.0, are.1.1.1.1.1.1.1.0, are.1.1.1.1.1.1.1.1.1.1.1.0), fit)) (λ x. refl) (row_or_not word.Split)

  pub match_told : IsToldBy (K.Reserved word.Match) (Row v match_row) Prefixes
  match_told = node_told v whole_prefix (IsWholePrefix v) (the_reserved word.Match) match_rest (λ x. n.match (record { from = x.0; to = x.1.1.1.1.1.1.1.1.1.1.1.1.1.1.1.0 }) x.1.1.0 x.1.1.1.1.1.0 x.1.1.1.1.1.1.1.0 x.1.1.1.1.1.1.1.1.1.0 x.1.1.1.1.1.1.1.1.1.1.1.0 x.1.1.1.1.1.1.1.1.1.1.1.1.1.0) (λ x are fit. ((are.1.1.0, are.1.1.1.1.1.1.1.0, are.1.1.1.1.1.1.1.1.1.0, are.1.1.1.1.1.1.1.1.1.1.1.1.1.0), fit)) (λ x. refl) (row_or_not word.Match)

  pub decrypt_told : IsToldBy (K.Reserved word.Decrypt) (Row v decrypt_row) Prefixes
  decrypt_told = node_told v whole_prefix (IsWholePrefix v) (the_reserved word.Decrypt) decrypt_rest (λ x. n.decrypt (record { from = x.0; to = x.1.1.1.1.1.1.1.1.1.1.0 }) x.1.1.0 x.1.1.1.1.1.0 x.1.1.1.1.1.1.1.0 x.1.1.1.1.1.1.1.1.1.0) (λ x are fit. ((are.1.1.0, are.1.1.1.1.1.1.1.0, are.1.1.1.1.1.1.1.1.1.0), fit)) (λ x. refl) (row_or_not word.Decrypt)

  pub check_told : IsToldBy (K.Reserved word.Check) (Row v check_row) Prefixes
  check_told = node_told v whole_prefix (IsWholePrefix v) (the_reserved word.Check) check_rest (λ x. n.check (record { from = x.0; to = x.1.1.1.1.1.0 }) x.1.1.0 x.1.1.1.1.0) (λ x are fit. ((are.1.1.0, are.1.1.1.1.0), fit)) (λ x. refl) (row_or_not word.Check)

  pub begin_told : IsToldBy (K.Reserved word.Begin) (Row v (label_row word.Begin)) Prefixes
  begin_told = node_told v whole_prefix (IsWholePrefix v) (the_reserved word.Begin) label_rest (λ x. n.begin (record { from = x.0; to = x.1.1.1.0 }) x.1.1.0) (λ x are fit. (are.1.1.0, fit)) (λ x. refl) (row_or_not word.Begin)

  pub end_told : IsToldBy (K.Reserved word.End) (Row v (label_row word.End)) Prefixes
  end_told = node_told v whole_prefix (IsWholePrefix v) (the_reserved word.End) label_rest (λ x. n.end (record { from = x.0; to = x.1.1.1.0 }) x.1.1.0) (λ x are fit. (are.1.1.0, fit)) (λ x. refl) (row_or_not word.End)

  pub end_many_told : v ≡ true → IsToldBy (K.Reserved word.EndMany) (Row v (label_row word.EndMany)) Prefixes
  end_many_told later = node_told v whole_prefix (IsWholePrefix v) (the_reserved word.EndMany) label_rest (λ x. n.end_many (record { from = x.0; to = x.1.1.1.0 }) x.1.1.0) (λ x are fit. ((later, are.1.1.0), fit)) (λ x. refl) (row_or_not word.EndMany)

  pub cast_told : IsToldBy (K.Reserved word.Cast) (Row v cast_row) Prefixes
  cast_told = node_told v whole_prefix (IsWholePrefix v) (the_reserved word.Cast) cast_rest (λ x. n.cast (record { from = x.0; to = x.1.1.1.1.1.1.1.1.1.0 }) x.1.1.0 x.1.1.1.1.1.0 x.1.1.1.1.1.1.1.0) (λ x are fit. ((are.1.1.0, are.1.1.1.1.1.1.1.0), fit)) (λ x. refl) (row_or_not word.Cast)

  pub new_told : IsToldBy (K.Reserved word.New) (Row v new_row) Prefixes
  new_told = node_told v whole_prefix (IsWholePrefix v) (the_reserved word.New) new_rest (λ x. n.new (record { from = x.0; to = x.1.1.1.1.1.1.1.0 }) x.1.1.1.0 x.1.1.1.1.1.0) (λ x are fit. (are.1.1.1.1.1.0, fit)) (λ x. refl) (row_or_not word.New)

  pub prefix_form : (a : List (Kind × Bool)) → Prefixes a → FormOf v Prefixes a
  prefix_form a p = go p.part p.is p.shows
    where
      go : (x : n.Prefix) → IsWholePrefix v x → cells (whole_prefix x) ≡ a → FormOf v Prefixes a
      go (n.split s m x a y b) is e = record { first = K.Reserved word.Split; row = split_row; told = split_told; is = subst (Row v split_row) e (prefix_row (n.split s m x a y b) is); begins = (_, ap kinds (sym e)) }
      go (n.match s m x a k y b) is e = record { first = K.Reserved word.Match; row = match_row; told = match_told; is = subst (Row v match_row) e (prefix_row (n.match s m x a k y b) is); begins = (_, ap kinds (sym e)) }
      go (n.decrypt s m x a k) is e = record { first = K.Reserved word.Decrypt; row = decrypt_row; told = decrypt_told; is = subst (Row v decrypt_row) e (prefix_row (n.decrypt s m x a k) is); begins = (_, ap kinds (sym e)) }
      go (n.check s m k) is e = record { first = K.Reserved word.Check; row = check_row; told = check_told; is = subst (Row v check_row) e (prefix_row (n.check s m k) is); begins = (_, ap kinds (sym e)) }
      go (n.begin s m) is e = record { first = K.Reserved word.Begin; row = (label_row word.Begin); told = begin_told; is = subst (Row v (label_row word.Begin)) e (prefix_row (n.begin s m) is); begins = (_, ap kinds (sym e)) }
      go (n.end s m) is e = record { first = K.Reserved word.End; row = (label_row word.End); told = end_told; is = subst (Row v (label_row word.End)) e (prefix_row (n.end s m) is); begins = (_, ap kinds (sym e)) }
      go (n.end_many s m) is e = record { first = K.Reserved word.EndMany; row = (label_row word.EndMany); told = end_many_told is.0.0; is = subst (Row v (label_row word.EndMany)) e (prefix_row (n.end_many s m) is); begins = (_, ap kinds (sym e)) }
      go (n.cast s m x a) is e = record { first = K.Reserved word.Cast; row = cast_row; told = cast_told; is = subst (Row v cast_row) e (prefix_row (n.cast s m x a) is); begins = (_, ap kinds (sym e)) }
      go (n.new s x a) is e = record { first = K.Reserved word.New; row = new_row; told = new_told; is = subst (Row v new_row) e (prefix_row (n.new s x a) is); begins = (_, ap kinds (sym e)) }

  pub prefixes_good : IsGoodKind Prefixes
  prefixes_good = forms_good v Prefixes prefix_form (let r = node_starts v (the_reserved word.Begin) label_rest in (r.0, begin_told.into r.0 r.1))

  pub prefix_solid : (x : n.Prefix) (r : List Piece) → IsSolid (prefix_pieces x r)
  prefix_solid (n.split s m x a y b) r = tt
  prefix_solid (n.match s m x a k y b) r = tt
  prefix_solid (n.decrypt s m x a k) r = tt
  prefix_solid (n.check s m k) r = tt
  prefix_solid (n.begin s m) r = tt
  prefix_solid (n.end s m) r = tt
  prefix_solid (n.end_many s m) r = tt
  prefix_solid (n.cast s m x a) r = tt
  prefix_solid (n.new s x a) r = tt

  pub prefix_behind : (x : n.Prefix) (r : List Piece) → prefix_pieces x r ≡ whole_prefix x ++ r
  prefix_behind (n.split s m x a y b) r = row_behind split_row (s.from, (tt, (m, (tt, (tt, (x, (tt, (a, (tt, (y, (tt, (b, (tt, (s.to, tt)))))))))))))) r
  prefix_behind (n.match s m x a k y b) r = row_behind match_row (s.from, (tt, (m, (tt, (tt, (x, (tt, (a, (tt, (k, (tt, (y, (tt, (b, (tt, (s.to, tt)))))))))))))))) r
  prefix_behind (n.decrypt s m x a k) r = row_behind decrypt_row (s.from, (tt, (m, (tt, (tt, (x, (tt, (a, (tt, (k, (s.to, tt))))))))))) r
  prefix_behind (n.check s m k) r = row_behind check_row (s.from, (tt, (m, (tt, (k, (s.to, tt)))))) r
  prefix_behind (n.begin s m) r = row_behind (label_row word.Begin) (s.from, (tt, (m, (s.to, tt)))) r
  prefix_behind (n.end s m) r = row_behind (label_row word.End) (s.from, (tt, (m, (s.to, tt)))) r
  prefix_behind (n.end_many s m) r = row_behind (label_row word.EndMany) (s.from, (tt, (m, (s.to, tt)))) r
  prefix_behind (n.cast s m x a) r = row_behind cast_row (s.from, (tt, (m, (tt, (tt, (x, (tt, (a, (tt, (s.to, tt)))))))))) r
  prefix_behind (n.new s x a) r = row_behind new_row (s.from, (tt, (tt, (x, (tt, (a, (tt, (s.to, tt)))))))) r

  -- ---- the forms that have a label alone

  abbrev pub IsLabelled : Reserved → Type 0
  IsLabelled w = (w ≡ word.Begin) ⊎ ((w ≡ word.End) ⊎ ((w ≡ word.EndMany) × (v ≡ true)))

  pub label_told : (w : Reserved) → IsLabelled w → IsToldBy (K.Reserved w) (Row v (label_row w)) Prefixes
  label_told w (inl e) = subst (λ (x : Reserved). IsToldBy (K.Reserved x) (Row v (label_row x)) Prefixes) (sym e) begin_told
  label_told w (inr (inl e)) = subst (λ (x : Reserved). IsToldBy (K.Reserved x) (Row v (label_row x)) Prefixes) (sym e) end_told
  label_told w (inr (inr e)) = subst (λ (x : Reserved). IsToldBy (K.Reserved x) (Row v (label_row x)) Prefixes) (sym e.0) (end_many_told e.1)

  pub last_label : (w : Reserved) → IsLabelled w → (w ≡ word.Begin → ⊥) → (w ≡ word.End → ⊥) → (w ≡ word.EndMany) × (v ≡ true)
  last_label w (inl e) no_begin no_end = absurd (no_begin e)
  last_label w (inr (inl e)) no_begin no_end = absurd (no_end e)
  last_label w (inr (inr e)) no_begin no_end = e

  -- ---- the answers of the readers of forms

  pub prefix_reads : (ts : List Token) (i : ℕ) → AreWordsFit v (kinds_of ts) → (x : Span → n.Prefix) (s : Span) (j : ℕ) → s ≡ span_over ts i j → IsPrefix v (x (span_over ts i j)) → (row : List HeadingSym) (xs : Values row) → whole_prefix (x (span_over ts i j)) ≡ row_pieces row xs []
      → RowAt v ts i row xs j → (m : ℕ) × (j ≡ i + m) × exact.IsPartAt whole_prefix (IsWholePrefix v) (x s) (drop i ts) m
  prefix_reads ts i = node_reads v whole_prefix (IsPrefix v) (λ x. prefix_solid x []) prefixes_good.closed ts i

  module _ (ts : List Token) (i : ℕ) where
    pub label_reads : AreWordsFit v (kinds_of ts) → (x : Span → n.Prefix) (s : Span) (j : ℕ) → s ≡ span_over ts i j → (w : Reserved) → IsThere ts i (K.Reserved w) → (m : t.Msg) → (h : (k : ℕ) × (j ≡ (i + 1) + k) × exact.IsPartAt whole_message (IsWholeMessage v) m (drop (i + 1) ts) k)
        → IsPrefix v (x (span_over ts i j)) → whole_prefix (x (span_over ts i j)) ≡ row_pieces (label_row w) (start_of_token ts i, (tt, (m, (end_before ts j, tt)))) [] → (k : ℕ) × (j ≡ i + k) × exact.IsPartAt whole_prefix (IsWholePrefix v) (x s) (drop i ts) k
    label_reads fit x s j spans w there m h formed are =
        prefix_reads ts i fit x s j spans formed (label_row w) (start_of_token ts i, (tt, (m, (end_before ts j, tt)))) are
        (ended (then_closing (then_message (begun_node v ts i fit (the_reserved w) label_rest there) m j (there_within ts i (K.Reserved w) there) h)))

-- a prefix that is read, where it stands
pub prefix_stands : (v : Bool) (ts : List Token) (i : ℕ) (x : n.Prefix) (j : ℕ) → i ≤ length ts → (r : (m : ℕ) × (j ≡ i + m) × exact.IsPartAt whole_prefix (IsWholePrefix v) x (drop i ts) m) → AreTokensOf ts i (whole_prefix x) j
prefix_stands v ts i x j w r = subst (λ (k : ℕ). AreTokensOf ts i (whole_prefix x) k) (sym r.1) (part_stands whole_prefix (IsWholePrefix v) x ts i r.0 w (prefix_solid v x []) r.2)

-- ---- where none begins

module _ (v : Bool) (ts : List Token) (i : ℕ) where
  pub prefixes_some : IsSome (Prefixes v)
  prefixes_some a p e = let f = first_token p.part in let g : K.Reserved (first_word p.part) ∷ f.0 ≡ [] = sym f.1 ∙ ap kinds p.shows ∙ e in cc

  pub no_prefix : {V : Type 0} (view : V → n.Prefix) → ((x : n.Prefix) → IsPrefix v x → IsThere ts i (K.Reserved (first_word x)) → ⊥) → exact.Reads view whole_prefix (IsWholePrefix v) (Err (faults.Syntax i)) ts i
  no_prefix view not = fails_to view whole_prefix (IsWholePrefix v) ts i (faults.Syntax i) (none_fail (Prefixes v) (prefixes_good v).live prefixes_some ts i none)
    where
      none : (a : List (Kind × Bool)) → Prefixes v a → (k : Kind) (x : List Kind) → kinds a ≡ k ∷ x → IsThere ts i k → ⊥
      none a p k x e there =
          let f = first_token p.part in
          let g : K.Reserved (first_word p.part) ∷ f.0 ≡ k ∷ x = sym f.1 ∙ ap kinds p.shows ∙ e in
          let j : k ≡ K.Reserved (first_word p.part) = cc in
          not p.part p.is.0 (there.0, there.1, there.2 ∙ j)

  pub no_prefix_word : {V : Type 0} (view : V → n.Prefix) (w : Reserved) → IsThere ts i (K.Reserved w) → ((x : n.Prefix) → IsPrefix v x → first_word x ≡ w → ⊥) → exact.Reads view whole_prefix (IsWholePrefix v) (Err (faults.Syntax i)) ts i
  no_prefix_word view w there not = no_prefix view (λ x h at. not x h (same x (ap (λ (o : Option Token). o) (sym at.1 ∙ there.1)) at.2 there.2))
    where
      same : (x : n.Prefix) {t s : Token} → Some t ≡ Some s → t.kind ≡ K.Reserved (first_word x) → s.kind ≡ K.Reserved w → first_word x ≡ w
      same x {t = t} {s = s} e f g = let j : t ≡ s = cc in let h : K.Reserved (first_word x) ≡ K.Reserved w = sym f ∙ ap (λ (y : Token). y.kind) j ∙ g in cc
