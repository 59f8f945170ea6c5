-- Roles: the first, and the further ones behind commas.
use Rattle.std.proofs.Common.{◌≡◌, ℕ, ◌+◌, Bool, false, List, [], ◌∷◌, ◌++◌, drop, map, Result, Ok, Err, refl, sym, ap, subst, ◌∙◌, codes}
use Rattle.std.specs.List.{AllByRecursion}
use Rattle.std.specs.Result.{IsErrAnd}
use Rattle.std.proofs.lemmas.List.{map-id}
use Rattle.spi_lex.specs.declared.token.Kind.{Kind}
use Rattle.spi_lex.specs.declared.token.Kind.TheVariants as K
use Rattle.spi_lex.specs.declared.token.Mark.TheVariants as mark
use Rattle.spi_lex.specs.declared.token.Token.{Token}
use Rattle.spi_lex.specs.Lexing.{kinds_of}
use Rattle.spi_tree.specs.declared.tree.SWord.{SWord}
use Rattle.spi_tree.specs.Pieces.{Piece, opens, cell, closes, cells, kinds_in, a_mark}
use Rattle.spi_tree.specs.Formed.{AreWordsFit}
use Rattle.spi_parse.specs.declared.fault.ParseFault.{ParseFault}
use Rattle.spi_parse.specs.Exact as exact
use Rattle.spi_parse.proofs.Words.{fits_front, fits_drop}
use Rattle.spi_grammar.specs.Exactly.{kinds, IsGoodKind, IsSame, Then, Many}
use Rattle.spi_grammar.proofs.Cuts.{kinds_append}
use Rattle.spi_grammar.proofs.Answers.{good_both}
use Rattle.spi_grammar.proofs.Good.{IsSome, Differ, good_many}
use Rattle.spi_parts.proofs.Alone.{kinds_in_append}
use Rattle.spi_parts.proofs.Bridge.{OfPieces}
use Rattle.spi_heading.specs.Taking.{IsThere, TakesOneToken, TakesWord}
use Rattle.spi_heading.specs.Each.{each_pieces, IsWhole, EachAt}
use Rattle.spi_heading.specs.Repeated.{IsSolid, ReadsRepeated}
use Rattle.spi_heading.proofs.Standing.{AreTokensOf, stands_both}
use Rattle.spi_heading.proofs.Failing.{FailsAt, same_fail, first_fail, second_fail, fails_to}
use Rattle.spi_heading.proofs.Symbols.{cells_append, HeadingSym, token, name, the_mark, the_word, roles}
use Rattle.spi_heading.proofs.Versions.{Cells}
use Rattle.spi_heading.proofs.Rows.{Row, row_good, row_pieces, row_into, row_from, row_read, RowAt, RowFails, row_end, row_more, fits_at}
use Rattle.spi_heading.proofs.Calls.{part_at, took, took_word}
use Rattle.spi_heading.proofs.RowParts.{AreRows, rows_same, part_fails, part_reads}
use Rattle.spi_heading.proofs.Reached.{begun, ended, then_token, then_word, no_word}
use Rattle.spi_heading.proofs.Each.{Along, along_rest, each_behind, one_read}
use Rattle.spi_heading.proofs.Manys.{part_fail, more_fail, last_fail, both_fit, many_from, many_into}
use Rattle.spi_narrate.specs.Views.{further_kind}
use Rattle.spi_narrate.specs.Grammar.{comma_pieces, roles_pieces, IsAnyWord, HasRole, whole_roles, AreWholeRoles}

abbrev pub roles_head : List HeadingSym
roles_head = token (the_word roles) ∷ name ∷ []

abbrev pub comma_row : List HeadingSym
comma_row = token (the_mark mark.Comma) ∷ name ∷ []

abbrev pub semicolon_row : List HeadingSym
semicolon_row = token (the_mark mark.Semicolon) ∷ []

pub comma_behind : (w : SWord) (r : List Piece) → comma_pieces w r ≡ comma_pieces w [] ++ r
comma_behind w r = refl

pub comma_solid : (w : SWord) (r : List Piece) → IsSolid (comma_pieces w r)
comma_solid w r = tt

pub comma_are : (v : Bool) → AreRows v (λ w. comma_pieces w []) (IsWhole v comma_pieces IsAnyWord) comma_row (λ w. (tt, (w, tt)))
comma_are v = record {
  part = λ xs. xs.1.0;
  values_of = λ xs. refl;
  formed = λ xs are fit. (tt, fit);
  are = λ w is. (tt, (tt, tt));
  fit = λ w is. is.1;
  pieces_of = λ w. refl;
  known = λ w are fit. (tt, fit);
  solid = λ w. tt;
}

pub roles_are : (w : SWord) (ws : List SWord) → whole_roles (w ∷ ws) ≡ row_pieces roles_head (tt, (w, tt)) [] ++ (each_pieces comma_pieces ws [] ++ row_pieces semicolon_row (tt, tt) [])
roles_are w ws = ap (λ (l : List Piece). cell (K.Word (codes "roles")) false ∷ opens w.span.from ∷ cell (K.Word w.word) false ∷ closes w.span.to ∷ l) (each_behind comma_pieces comma_behind ws (a_mark mark.Semicolon []))

module _ (v : Bool) where
  abbrev pub Commas : Cells → Type 0
  Commas = OfPieces (λ w. comma_pieces w []) (IsWhole v comma_pieces IsAnyWord)

  abbrev pub MoreRoles : Cells → Type 0
  MoreRoles = Many Commas (Row v semicolon_row)

  abbrev pub RolesKind : Cells → Type 0
  RolesKind = Then (Row v roles_head) MoreRoles

  abbrev pub Roles : Cells → Type 0
  Roles = OfPieces whole_roles (AreWholeRoles v)

  -- ---- words behind commas

  comma_same : IsSame (Row v comma_row) Commas
  comma_same = rows_same (comma_are v)

  pub commas_good : IsGoodKind Commas
  commas_good = record {
    live = ((row_good v comma_row).live.0, comma_same.there (row_good v comma_row).live.0 (row_good v comma_row).live.1);
    closed = λ a b ma mb k x e. (row_good v comma_row).closed a b (comma_same.back a ma) (comma_same.back b mb) k x e;
    even = λ a b ma mb within p k x e d. (row_good v comma_row).even a b (comma_same.back a ma) (comma_same.back b mb) within p k x e d;
  }

  comma_first : (a : Cells) → Commas a → (k : Kind) (x : List Kind) → kinds a ≡ k ∷ x → k ≡ K.Mark mark.Comma
  comma_first a p k x e = let f : kinds (cells (comma_pieces p.part [])) ≡ k ∷ x = ap kinds p.shows ∙ e in cc

  commas_some : IsSome Commas
  commas_some a p e = let f : kinds (cells (comma_pieces p.part [])) ≡ [] = ap kinds p.shows ∙ e in cc

  semi_first : (a : Cells) → Row v semicolon_row a → (k : Kind) (x : List Kind) → kinds a ≡ k ∷ x → k ≡ K.Mark mark.Semicolon
  semi_first a h k x e =
      let all : K.Mark mark.Semicolon ∷ kinds h.right ≡ k ∷ x = ap (λ (l : List Kind). l ++ kinds h.right) (sym (ap kinds h.one.cells ∙ ap (λ (y : Kind). y ∷ []) h.one.is)) ∙ sym (kinds_append h.left h.right) ∙ sym (ap kinds h.cells) ∙ e in
      cc

  semi_some : IsSome (Row v semicolon_row)
  semi_some a h e =
      let all : K.Mark mark.Semicolon ∷ kinds h.right ≡ [] = ap (λ (l : List Kind). l ++ kinds h.right) (sym (ap kinds h.one.cells ∙ ap (λ (y : Kind). y ∷ []) h.one.is)) ∙ sym (kinds_append h.left h.right) ∙ sym (ap kinds h.cells) ∙ e in
      cc

  differ : Differ Commas (Row v semicolon_row)
  differ a b la lb k x y e f = let g : K.Mark mark.Comma ≡ K.Mark mark.Semicolon = sym (comma_first a la k x e) ∙ semi_first b lb k y f in cc

  more_good : IsGoodKind MoreRoles
  more_good = good_many Commas (Row v semicolon_row) commas_some semi_some differ commas_good (row_good v semicolon_row)

  -- ---- roles

  roles_into : (cs : Cells) (ws : List SWord) → HasRole ws → AreWordsFit v (kinds_in (whole_roles ws)) → cells (whole_roles ws) ≡ cs → RolesKind cs
  roles_into cs ws h fit e =
      let w = h.0 in
      let more = h.1 in
      let head = row_pieces roles_head (tt, (w, tt)) [] in
      let commas = each_pieces comma_pieces more [] in
      let last = row_pieces semicolon_row (tt, tt) [] in
      let are : whole_roles ws ≡ head ++ (commas ++ last) = ap whole_roles h.2 ∙ roles_are w more in
      let f = subst (AreWordsFit v) (kinds_in_append head (commas ++ last)) (subst (λ (l : List Piece). AreWordsFit v (kinds_in l)) are fit) in
      let g = subst (AreWordsFit v) (kinds_in_append commas last) (fits_drop v (kinds_in head) (kinds_in (commas ++ last)) f) in
      record {
        left = cells head;
        right = cells commas ++ cells last;
        one = row_into v roles_head (tt, (w, tt)) (tt, (tt, tt)) (fits_front v (kinds_in head) (kinds_in (commas ++ last)) f);
        two = many_into comma_pieces comma_behind v IsAnyWord (Row v semicolon_row) more (all more) (fits_front v (kinds_in commas) (kinds_in last) g) (cells last) (row_into v semicolon_row (tt, tt) (tt, tt) (fits_drop v (kinds_in commas) (kinds_in last) g));
        cells = sym e ∙ ap cells are ∙ cells_append head (commas ++ last) ∙ ap (λ (l : Cells). cells head ++ l) (cells_append commas last);
      }
    where
      all : (ws : List SWord) → AllByRecursion IsAnyWord ws
      all [] = tt
      all (w ∷ ws) = (tt, all ws)

  roles_from : (cs : Cells) → RolesKind cs → Roles cs
  roles_from cs h =
      let r = row_from v roles_head h.left h.one in
      let m = many_from comma_pieces comma_behind v IsAnyWord (Row v semicolon_row) h.right h.two in
      let s = row_from v semicolon_row m.rest m.behind_them in
      let w = r.values.1.0 in
      let commas = each_pieces comma_pieces m.parts [] in
      let last = row_pieces semicolon_row (tt, tt) [] in
      let head = row_pieces roles_head (tt, (w, tt)) [] in
      record {
        part = w ∷ m.parts;
        is = ((w, m.parts, refl), subst (λ (l : List Piece). AreWordsFit v (kinds_in l)) (sym (roles_are w m.parts)) (both_fit v head (commas ++ last) r.fit (both_fit v commas last m.fit s.fit)));
        shows =
            ap cells (roles_are w m.parts) ∙ cells_append head (commas ++ last) ∙ ap (λ (l : Cells). cells head ++ l) (cells_append commas last) ∙ ap (λ (l : Cells). l ++ (cells commas ++ cells last)) r.shows
            ∙ ap (λ (l : Cells). h.left ++ l) (ap (λ (l : Cells). cells commas ++ l) s.shows ∙ sym m.shows) ∙ sym h.cells;
      }

  pub roles_same : IsSame RolesKind Roles
  roles_same = record { there = roles_from; back = λ cs p. roles_into cs p.part p.is.0 p.is.1 p.shows }

  pub roles_good : IsGoodKind Roles
  roles_good =
      let g = good_both (Row v roles_head) MoreRoles (row_good v roles_head) more_good in
      record {
        live = (g.live.0, roles_same.there g.live.0 g.live.1);
        closed = λ a b ma mb k x e. g.closed a b (roles_same.back a ma) (roles_same.back b mb) k x e;
        even = λ a b ma mb within p k x e d. g.even a b (roles_same.back a ma) (roles_same.back b mb) within p k x e d;
      }

  -- ---- roles at a place of a text

  pub roles_head_at : (ts : List Token) (i j k : ℕ) (w : SWord) → TakesOneToken (K.Word (codes "roles")) (Ok j) ts i → TakesWord (Ok (w, k)) ts j → RowAt v ts i roles_head (tt, (w, tt)) k
  roles_head_at ts i j k w h g =
      row_more v ts i j k (token (the_word roles)) (name ∷ []) tt (w, tt) (took v ts i j (the_word roles) h)
      (row_more v ts j k k name [] w tt (took_word v ts j (w, k) g) (row_end v ts k))

  module _ (ts : List Token) (fit : AreWordsFit v (kinds_of ts)) where
    comma_starts : (a : Cells) × Commas a × (x : List Kind) × (kinds a ≡ K.Mark mark.Comma ∷ x)
    comma_starts = go commas_good.live.0 commas_good.live.1 (kinds commas_good.live.0) refl
      where
        go : (a : Cells) → Commas a → (u : List Kind) → kinds a ≡ u → (a : Cells) × Commas a × (x : List Kind) × (kinds a ≡ K.Mark mark.Comma ∷ x)
        go a h [] e = absurd (commas_some a h e)
        go a h (k ∷ x) e = (a, h, x, e ∙ ap (λ (y : Kind). y ∷ x) (comma_first a h k x e))

    -- words are read, and then the fault comes
    each_comma : (ws : List SWord) (i j : ℕ) → Along comma_pieces comma_behind IsAnyWord ts i ws j → (f : ParseFault) → FailsAt MoreRoles ts j f → FailsAt MoreRoles ts i f
    each_comma [] i j a f h = subst (λ (k : ℕ). FailsAt MoreRoles ts k f) (sym a.stands) h
    each_comma (w ∷ ws) i j a f h =
        let c = along_rest comma_pieces comma_behind IsAnyWord ts i j w ws a in
        more_fail Commas (Row v semicolon_row) commas_some semi_some differ commas_good (row_good v semicolon_row) ts i c.0 (K.Mark mark.Comma) (c.2.0, Rattle.spi_heading.proofs.Standing.unfound ts i c.2.0 c.2.1 c.2.2, c.2.3)
        (one_read comma_pieces comma_behind v IsAnyWord commas_good ts i c.0 w fit tt c.2) f (each_comma ws c.0 j c.3 f h)

    module _ (i : ℕ) where
      pub roles_answer : {V : Type 0} (view : V → List SWord) (f : ParseFault) (r : Result (V × ℕ) ParseFault) → IsErrAnd r (λ e. e ≡ f) → FailsAt RolesKind ts i f → exact.Reads view whole_roles (AreWholeRoles v) r ts i
      roles_answer view f (Ok x) is h = absurd is
      roles_answer view f (Err e) is h = fails_to view whole_roles (AreWholeRoles v) ts i e (same_fail RolesKind Roles ts roles_same i e (subst (λ (g : ParseFault). FailsAt RolesKind ts i g) (sym is) h))

      pub roles_head_fails : (f : ParseFault) → RowFails v ts i roles_head f → FailsAt RolesKind ts i f
      roles_head_fails f h = first_fail (Row v roles_head) MoreRoles ts (row_good v roles_head) more_good i f h.by

      module _ (j : ℕ) (w : SWord) (head : RowAt v ts i roles_head (tt, (w, tt)) j) where
        more_fails : (f : ParseFault) → FailsAt MoreRoles ts j f → FailsAt RolesKind ts i f
        more_fails f h = second_fail (Row v roles_head) MoreRoles ts (row_good v roles_head) i j (row_read v ts i j roles_head (tt, (w, tt)) fit head) f h

        module _ (ws : List SWord) (k : ℕ) (along : Along comma_pieces comma_behind IsAnyWord ts j ws k) where
          pub word_fails : IsThere ts k (K.Mark mark.Comma) → (f : ParseFault) → FailsAt Commas ts k f → FailsAt RolesKind ts i f
          word_fails there f h = more_fails f (each_comma ws j k along f (part_fail Commas (Row v semicolon_row) commas_some semi_some differ commas_good (row_good v semicolon_row) ts k (K.Mark mark.Comma) there comma_starts f h))

          pub semicolon_fails : (IsThere ts k (K.Mark mark.Comma) → ⊥) → (f : ParseFault) → RowFails v ts k semicolon_row f → FailsAt RolesKind ts i f
          semicolon_fails other f h = more_fails f (each_comma ws j k along f (last_fail Commas (Row v semicolon_row) commas_some semi_some differ commas_good (row_good v semicolon_row) ts k (λ a la q x e there. other (there.0, there.1, there.2 ∙ comma_first a la q x e)) f h.by))

          pub roles_read : (l : ℕ) → RowAt v ts k semicolon_row (tt, tt) l → (o : ℕ) × (l ≡ i + o) × exact.IsPartAt whole_roles (AreWholeRoles v) (w ∷ ws) (drop i ts) o
          roles_read l last =
              let stands : AreTokensOf ts i (whole_roles (w ∷ ws)) l =
              subst (λ (q : List Piece). AreTokensOf ts i q l) (sym (roles_are w ws))
              (stands_both ts (row_pieces roles_head (tt, (w, tt)) []) (each_pieces comma_pieces ws [] ++ row_pieces semicolon_row (tt, tt) []) i j l head.stands
              (stands_both ts (each_pieces comma_pieces ws []) (row_pieces semicolon_row (tt, tt) []) j k l along.stands last.stands)) in
              part_at whole_roles (AreWholeRoles v) (w ∷ ws) ts i l ((w, ws, refl), fits_at v ts (whole_roles (w ∷ ws)) i l fit stands) tt roles_good.closed stands

-- ---- roles in front of others

pub roles_behind : (ws : List SWord) (r : List Piece) → roles_pieces ws r ≡ whole_roles ws ++ r
roles_behind [] r = refl
roles_behind (w ∷ ws) r =
    ap (λ (l : List Piece). cell (K.Word (codes "roles")) false ∷ opens w.span.from ∷ cell (K.Word w.word) false ∷ closes w.span.to ∷ l)
    (each_behind comma_pieces comma_behind ws (a_mark mark.Semicolon r) ∙ regroup (each_pieces comma_pieces ws []) ∙ ap (λ (l : List Piece). l ++ r) (sym (each_behind comma_pieces comma_behind ws (a_mark mark.Semicolon []))))
  where
    regroup : (l : List Piece) → l ++ a_mark mark.Semicolon r ≡ (l ++ a_mark mark.Semicolon []) ++ r
    regroup [] = refl
    regroup (q ∷ l) = ap (λ (m : List Piece). q ∷ m) (regroup l)

pub roles_first : (v : Bool) (a : List (Kind × Bool)) → Roles v a → (x : List Kind) × (kinds a ≡ K.Word (codes "roles") ∷ x)
roles_first v a p = go p.part p.is.0 p.shows
  where
    go : (ws : List SWord) → HasRole ws → cells (whole_roles ws) ≡ a → (x : List Kind) × (kinds a ≡ K.Word (codes "roles") ∷ x)
    go [] h e = absurd (let f : [] ≡ h.0 ∷ h.1 = h.2 in cc)
    go (w ∷ ws) h e = (_, ap kinds (sym e))

-- ---- reading the further roles

pub further_reads : (v : Bool) (ts : List Token) (i j : ℕ) → AreWordsFit v (kinds_of ts) → TakesOneToken (K.Mark mark.Comma) (Ok j) ts i → (r : Result (SWord × ℕ) ParseFault) → TakesWord r ts j → ReadsRepeated further_kind v r ts i
further_reads v ts i j fit h (Ok r) t = part_reads (comma_are v) ts i fit r.0 r.1 (ended (then_word (then_token (begun v ts i comma_row fit) j h) r.0 r.1 t))
further_reads v ts i j fit h (Err f) t = part_fails (comma_are v) ts i (λ (w : SWord). w) f (Err f) refl (no_word (then_token (begun v ts i comma_row fit) j h) f t)

pub further_are : (ws : List SWord) (ts : List Token) (i j : ℕ) → EachAt comma_pieces IsAnyWord (map (λ (w : SWord). w) ws) ts i j → EachAt comma_pieces IsAnyWord ws ts i j
further_are ws ts i j h = subst (λ (l : List SWord). EachAt comma_pieces IsAnyWord l ts i j) (map-id ws) h
