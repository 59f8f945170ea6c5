-- The answers on tokens, told by cells.
use Rattle.std.proofs.Common.{◌≡◌, ℕ, ◌<◌, Bool, List, [], ◌∷◌, ◌++◌, length, map, refl, sym, ap, subst, ◌∙◌, append_assoc, arith}
use Rattle.std.proofs.lemmas.List.{length-append}
use Rattle.spi_lex.specs.declared.token.Kind.{Kind}
use Rattle.spi_lex.specs.declared.token.Token.{Token}
use Rattle.spi_lex.specs.Lexing.{kinds_of}
use Rattle.spi_tree.specs.Pieces.{Piece, opens, cell, closes, cells, kinds_in}
use Rattle.spi_parse.specs.Exact as x
use Rattle.spi_parse.proofs.Spelled.{spelled_within}
use Rattle.spi_grammar.specs.Exactly.{kinds, IsWithinLimits, PartKind, Stops, IsEnd, StartsDeep, NoneDeep, IsSyntax, IsDeep, IsNone}
use Rattle.spi_grammar.proofs.Cuts.{Cut, same, behind, before, cut}

pub kinds_cells : (ps : List Piece) → kinds (cells ps) ≡ kinds_in ps
kinds_cells [] = refl
kinds_cells (opens from ∷ ps) = kinds_cells ps
kinds_cells (cell k deep ∷ ps) = ap (λ (l : List Kind). k ∷ l) (kinds_cells ps)
kinds_cells (closes to ∷ ps) = kinds_cells ps

kinds_map : (cs : List (Kind × Bool)) → kinds cs ≡ map (λ c. c.0) cs
kinds_map [] = refl
kinds_map (c ∷ cs) = ap (λ (l : List Kind). c.0 ∷ l) (kinds_map cs)

pub clean_cells : (ps : List Piece) → x.IsWithin ps → IsWithinLimits (cells ps)
clean_cells [] h = tt
clean_cells (opens from ∷ ps) h = clean_cells ps h
clean_cells (cell k deep ∷ ps) h = (h.0, clean_cells ps h.1)
clean_cells (closes to ∷ ps) h = clean_cells ps h

pub within_cells : (ps : List Piece) → IsWithinLimits (cells ps) → x.IsWithin ps
within_cells [] h = tt
within_cells (opens from ∷ ps) h = within_cells ps h
within_cells (cell k deep ∷ ps) h = (h.0, within_cells ps h.1)
within_cells (closes to ∷ ps) h = within_cells ps h

pub deep_to : (ps : List Piece) (p : List Kind) (k : Kind) → StartsDeep (cells ps) p k → x.PiecesStartDeep ps p k
deep_to ps p k s = record { before = s.before; after = s.after; parts = s.parts; begins = sym (kinds_map s.before) ∙ s.begins }

pub deep_from : (ps : List Piece) (p : List Kind) (k : Kind) → x.PiecesStartDeep ps p k → StartsDeep (cells ps) p k
deep_from ps p k s = record { before = s.before; after = s.after; parts = s.parts; begins = kinds_map s.before ∙ s.begins }

front_lt : (pre rest p : List Kind) (k : Kind) (r : List Kind) → pre ++ rest ≡ p ++ k ∷ r → length p < length pre → (c : List Kind) × (pre ≡ p ++ k ∷ c)
front_lt pre rest p k r e lt = go (cut pre rest p (k ∷ r) e)
  where
    go : Cut pre rest p (k ∷ r) → (c : List Kind) × (pre ≡ p ++ k ∷ c)
    go (same f g) = absurd (let l = ap length f in omega arith)
    go (behind y d f g) = let j : k ≡ y = cc in (d, subst (λ (z : Kind). pre ≡ p ++ z ∷ d) (sym j) f)
    go (before y d f g) = absurd (let l = ap length f ∙ length-append pre (y ∷ d) in omega arith)

module _ {X : Type 0} (pieces : X → List Piece) (P : X → Type 0) where
  -- the kind of these parts
  abbrev pub OfPieces : List (Kind × Bool) → Type 0
  OfPieces = PartKind (λ (y : X). cells (pieces y)) P

  pub of_piece : (y : X) → P y → OfPieces (cells (pieces y))
  of_piece y p = record { part = y; is = p; shows = refl }

  tokens_of_part : (a : List (Kind × Bool)) (la : OfPieces a) → kinds_in (pieces la.part) ≡ kinds a
  tokens_of_part a la = sym (kinds_cells (pieces la.part)) ∙ ap kinds la.shows

  deep_of_part : (a : List (Kind × Bool)) (la : OfPieces a) (p : List Kind) (k : Kind) → StartsDeep a p k → x.PiecesStartDeep (pieces la.part) p k
  deep_of_part a la p k s = deep_to (pieces la.part) p k (subst (λ (l : List (Kind × Bool)). StartsDeep l p k) (sym la.shows) s)

  -- ---- from the answers on tokens

  first_from : (ks : List Kind) (i : ℕ) (pre rest : List Kind) → ks ≡ pre ++ rest → length pre ≡ i → x.NoDeepBefore pieces P ks i → NoneDeep OfPieces pre
  first_from ks i pre rest split place h p k c e a la d =
      h p k (c ++ rest) (split ∙ ap (λ (l : List Kind). l ++ rest) e ∙ append_assoc p (k ∷ c) rest) (let l = ap length e ∙ length-append p (k ∷ c) in omega arith) la.part la.is (deep_of_part a la p k d)

  stops_from : (pre rest : List Kind) → x.ItemStops pieces P pre rest → Stops OfPieces pre rest
  stops_from pre [] h = λ a la e. h la.part la.is (tokens_of_part a la ∙ e)
  stops_from pre (k ∷ rest) h = λ a la c e. h la.part la.is c (tokens_of_part a la ∙ e)

  pub end_from : (pre rest : List Kind) → x.ItemEnds pieces P pre rest → IsEnd OfPieces pre rest
  end_from pre [] h = tt
  end_from pre (k ∷ rest) h = λ a la c e. h la.part la.is c (tokens_of_part a la ∙ e)

  pub end_to : (pre rest : List Kind) → IsEnd OfPieces pre rest → x.ItemEnds pieces P pre rest
  end_to pre [] h = tt
  end_to pre (k ∷ rest) h = λ y p c e. h (cells (pieces y)) (of_piece y p) c (kinds_cells (pieces y) ∙ e)

  pub syntax_from : (ks : List Kind) (i : ℕ) → x.IsSyntaxAt pieces P ks i → (pre : List Kind) × (rest : List Kind) × (ks ≡ pre ++ rest) × (length pre ≡ i) × IsSyntax OfPieces pre rest
  syntax_from ks i s = (
    s.pre,
    s.rest,
    s.split,
    s.place,
    record {
      begins = record { cells = cells (pieces s.begins.0); is = of_piece s.begins.0 s.begins.1; more = s.begins.2; begins = kinds_cells (pieces s.begins.0) ∙ s.begins.3 };
      stops = stops_from s.pre s.rest s.stops;
      first = first_from ks i s.pre s.rest s.split s.place s.first;
    },
  )

  pub deep_at_from : (ks : List Kind) (i : ℕ) → x.IsDeepAt pieces P ks i → (pre : List Kind) × (k : Kind) × (rest : List Kind) × (ks ≡ pre ++ k ∷ rest) × (length pre ≡ i) × IsDeep OfPieces pre k
  deep_at_from ks i s = (
    s.pre,
    s.token,
    s.rest,
    s.split,
    s.place,
    record {
      cells = cells (pieces s.part.0);
      is = of_piece s.part.0 s.part.1;
      deep = deep_from (pieces s.part.0) s.pre s.token s.part.2;
      first = first_from ks i s.pre (s.token ∷ s.rest) s.split s.place s.first;
      every = λ a la c e within. s.every la.part la.is c (tokens_of_part a la ∙ e) (within_cells (pieces la.part) (subst (λ (l : List (Kind × Bool)). IsWithinLimits l) (sym la.shows) within));
    },
  )

  pub none_from : (ks : List Kind) → x.IsNoPart pieces P ks → IsNone OfPieces ks
  none_from ks h a la within rest e ends = h la.part (kinds a) rest e la.is (within_cells (pieces la.part) (subst (λ (l : List (Kind × Bool)). IsWithinLimits l) (sym la.shows) within)) (tokens_of_part a la) (end_to (kinds a) rest ends)

  -- ---- to the answers on tokens

  first_to : (ks pre rest : List Kind) → ks ≡ pre ++ rest → NoneDeep OfPieces pre → x.NoDeepBefore pieces P ks (length pre)
  first_to ks pre rest split h p k r e lt y py d = let f = front_lt pre rest p k r (sym split ∙ e) lt in h p k f.0 f.1 (cells (pieces y)) (of_piece y py) (deep_from (pieces y) p k d)

  stops_to : (pre rest : List Kind) → Stops OfPieces pre rest → x.ItemStops pieces P pre rest
  stops_to pre [] h = λ y p e. h (cells (pieces y)) (of_piece y p) (kinds_cells (pieces y) ∙ e)
  stops_to pre (k ∷ rest) h = λ y p c e. h (cells (pieces y)) (of_piece y p) c (kinds_cells (pieces y) ∙ e)

  pub syntax_to : (ks pre rest : List Kind) → ks ≡ pre ++ rest → IsSyntax OfPieces pre rest → x.IsSyntaxAt pieces P ks (length pre)
  syntax_to ks pre rest split s = record {
    pre = pre;
    rest = rest;
    split = split;
    place = refl;
    begins = (s.begins.is.part, s.begins.is.is, s.begins.more, tokens_of_part s.begins.cells s.begins.is ∙ s.begins.begins);
    stops = stops_to pre rest s.stops;
    first = first_to ks pre rest split s.first;
  }

  pub deep_at_to : (ks pre : List Kind) (k : Kind) (rest : List Kind) → ks ≡ pre ++ k ∷ rest → IsDeep OfPieces pre k → x.IsDeepAt pieces P ks (length pre)
  deep_at_to ks pre k rest split s = record {
    pre = pre;
    token = k;
    rest = rest;
    split = split;
    place = refl;
    part = (s.is.part, s.is.is, deep_of_part s.cells s.is pre k s.deep);
    first = first_to ks pre (k ∷ rest) split s.first;
    every = λ y p c e within. s.every (cells (pieces y)) (of_piece y p) c (kinds_cells (pieces y) ∙ e) (clean_cells (pieces y) within);
  }

  pub none_to : (ks : List Kind) → IsNone OfPieces ks → x.IsNoPart pieces P ks
  none_to ks h y pre rest split p within are ends =
      h (cells (pieces y)) (of_piece y p) (clean_cells (pieces y) within) rest (split ∙ ap (λ (l : List Kind). l ++ rest) (sym are ∙ sym (kinds_cells (pieces y))))
      (subst (λ (l : List Kind). IsEnd OfPieces l rest) (sym are ∙ sym (kinds_cells (pieces y))) (end_from pre rest ends))

  -- a part that is read
  pub part_from : (y : X) (ts : List Token) (n : ℕ) (r : x.IsPartAt pieces P y ts n) → IsWithinLimits (cells (pieces y)) × IsEnd OfPieces (kinds (cells (pieces y))) (kinds_of r.rest)
  part_from y ts n r = (
    clean_cells (pieces y) (spelled_within r.rest 0 (pieces y) ts r.spells),
    subst (λ (l : List Kind). IsEnd OfPieces l (kinds_of r.rest)) (sym (kinds_cells (pieces y) ∙ r.tokens)) (end_from (kinds_of r.pre) (kinds_of r.rest) r.ends),
  )
