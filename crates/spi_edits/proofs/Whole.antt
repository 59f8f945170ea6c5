-- Whole benches: the version, the declarations, the shared names and the edits.
use Rattle.std.proofs.Common.{◌≡◌, ◌==◌, ℕ, Bool, true, false, List, [], ◌∷◌, ◌++◌, refl, sym, ap, subst, ◌∙◌, append-nil, ◌⊎◌, inl, inr}
use Rattle.std.specs.List.{AllByRecursion}
use Rattle.spi_lex.specs.declared.token.Kind.{Kind}
use Rattle.spi_text.specs.declared.lines.Span.{Span}
use Rattle.spi_tree.specs.Trees as t
use Rattle.spi_tree.specs.Pieces.{Piece, closes, cells, kinds_in, decl_pieces}
use Rattle.spi_tree.specs.Formed.{AreWordsFit, IsDeclared}
use Rattle.spi_parse.proofs.Words.{fits_front, fits_drop}
use Rattle.spi_grammar.specs.Exactly.{Either, Many, Nothing}
use Rattle.spi_grammar.proofs.Repetition.{live_many}
use Rattle.spi_grammar.proofs.Good.{begins_many}
use Rattle.spi_parts.proofs.Behind.{decl_behind}
use Rattle.spi_parts.proofs.Alone.{kinds_in_append}
use Rattle.spi_parts.proofs.Bridge.{OfPieces}
use Rattle.spi_heading.specs.Headings as h
use Rattle.spi_heading.specs.Each.{each_pieces}
use Rattle.spi_heading.specs.Grammar.{shared_pieces, IsShared}
use Rattle.spi_heading.proofs.Symbols.{cells_append}
use Rattle.spi_heading.proofs.Rows.{row_pieces, row_into, row_from}
use Rattle.spi_heading.proofs.Each.{each_behind}
use Rattle.spi_heading.proofs.Names.{shared_behind}
use Rattle.spi_heading.proofs.Manys.{FromMany, both_fit, both_cells, many_from, each_into, each_shows, last_into, last_shows}
use Rattle.spi_heading.proofs.Versions.{version_row, Cells, InLaterVersion}
use Rattle.spi_heading.proofs.Fronts.{BeginsFront, NeverFront, SharedFront, Front, IsFrontOf}
use Rattle.spi_heading.proofs.Lasts.{nothing_begins}
use Rattle.spi_edits.specs.Edits.{Edit, Bench}
use Rattle.spi_edits.specs.Grammar.{put_word, drop_word, edit_pieces, IsEdit, bench_pieces, placed, whole_bench, IsBench}
use Rattle.spi_edits.proofs.EditRows.{Edits, edits_begin, edits_some, edit_behind}
use Rattle.spi_tree.specs.Trees.{nowhere}

-- what stands behind the version
abbrev pub bench_body : List t.Declared → List h.Shared → List Edit → List Piece
bench_body ds ss es = each_pieces decl_pieces ds [] ++ (each_pieces shared_pieces ss [] ++ each_pieces edit_pieces es [])

pub body_are : (ds : List t.Declared) (ss : List h.Shared) (es : List Edit) → each_pieces decl_pieces ds (each_pieces shared_pieces ss (each_pieces edit_pieces es [])) ≡ bench_body ds ss es
body_are ds ss es =
    each_behind decl_pieces decl_behind ds (each_pieces shared_pieces ss (each_pieces edit_pieces es []))
    ∙ ap (λ (l : List Piece). each_pieces decl_pieces ds [] ++ l) (each_behind shared_pieces shared_behind ss (each_pieces edit_pieces es []))

module _ (v : Bool) where
  abbrev pub EditsOn : Cells → Type 0
  EditsOn = Many (Edits v) Nothing

  -- ---- what each begins with

  edits_never : NeverFront EditsOn
  edits_never k is = begins_many (Edits v) Nothing (edits_some v) k (λ a la x e. none k is (edits_begin v a la k x e)) (nothing_begins k)
    where
      none : (k : Kind) → BeginsFront k → (k ≡ put_word) ⊎ (k ≡ drop_word) → ⊥
      none k (inl f) (inl e) = cc
      none k (inl f) (inr e) = cc
      none k (inr (inl f)) (inl e) = cc
      none k (inr (inl f)) (inr e) = cc
      none k (inr (inr (inl f))) (inl e) = cc
      none k (inr (inr (inl f))) (inr e) = cc
      none k (inr (inr (inr f))) (inl e) = cc
      none k (inr (inr (inr f))) (inr e) = cc

  -- ---- bodies by their parts

  pub record FromBody (cs : Cells) : Type 0 where
    pub decls : FromMany decl_pieces decl_behind v (IsDeclared v) (SharedFront v EditsOn) cs
    pub shared : FromMany shared_pieces shared_behind v (IsShared v) EditsOn decls.rest
    pub edits : FromMany edit_pieces edit_behind v (IsEdit v) Nothing shared.rest
    pub fit : AreWordsFit v (kinds_in (bench_body decls.parts shared.parts edits.parts))
    pub shows : cells (bench_body decls.parts shared.parts edits.parts) ≡ cs

  pub body_from : (cs : Cells) → Front v EditsOn cs → FromBody cs
  body_from cs b =
      let d = many_from decl_pieces decl_behind v (IsDeclared v) (SharedFront v EditsOn) cs b in
      let s = many_from shared_pieces shared_behind v (IsShared v) EditsOn d.rest d.behind_them in
      let e = many_from edit_pieces edit_behind v (IsEdit v) Nothing s.rest s.behind_them in
      let edits = each_pieces edit_pieces e.parts [] in
      let behind = each_pieces shared_pieces s.parts [] ++ edits in
      record {
        decls = d;
        shared = s;
        edits = e;
        fit = both_fit v (each_pieces decl_pieces d.parts []) behind d.fit (both_fit v (each_pieces shared_pieces s.parts []) edits s.fit e.fit);
        shows =
            each_shows decl_pieces decl_behind v (IsDeclared v) (SharedFront v EditsOn) cs d behind
            (each_shows shared_pieces shared_behind v (IsShared v) EditsOn d.rest s edits (last_shows edit_pieces edit_behind v (IsEdit v) s.rest e));
      }

  pub body_into : (ds : List t.Declared) (ss : List h.Shared) (es : List Edit) → AllByRecursion (IsDeclared v) ds → AllByRecursion (IsShared v) ss → AllByRecursion (IsEdit v) es
      → AreWordsFit v (kinds_in (bench_body ds ss es)) → Front v EditsOn (cells (bench_body ds ss es))
  body_into ds ss es hd hs he fit =
      let edits = each_pieces edit_pieces es [] in
      each_into decl_pieces decl_behind v (IsDeclared v) (SharedFront v EditsOn) ds hd (each_pieces shared_pieces ss [] ++ edits) fit
      (λ f. each_into shared_pieces shared_behind v (IsShared v) EditsOn ss hs edits f (λ g. last_into edit_pieces edit_behind v (IsEdit v) es he g))

-- ---- benches, with the version in front or not

abbrev pub Benches : Cells → Type 0
Benches = OfPieces whole_bench IsBench

abbrev BenchFronts : Bool → Cells → Type 0
BenchFronts v = Front v (EditsOn v)

abbrev pub bench_of_version : ℕ → Span → List t.Declared → List h.Shared → List Edit → Bench
bench_of_version v s ds ss es = record { span = s; version = v; decls = ds; shared = ss; edits = es }

abbrev pub bench_version_are : List Piece
bench_version_are = row_pieces version_row (tt, (tt, (tt, tt))) []

pub later_pieces : (s : Span) (ds : List t.Declared) (ss : List h.Shared) (es : List Edit) → bench_pieces (bench_of_version 2 s ds ss es) ≡ bench_version_are ++ bench_body ds ss es
later_pieces s ds ss es = ap (λ (l : List Piece). bench_version_are ++ l) (body_are ds ss es)

pub first_pieces : (s : Span) (ds : List t.Declared) (ss : List h.Shared) (es : List Edit) → bench_pieces (bench_of_version 1 s ds ss es) ≡ bench_body ds ss es
first_pieces s ds ss es = body_are ds ss es

-- the place of a bench adds no token
placed_cells : (s : Span) (ps : List Piece) → cells (placed s ps) ≡ cells ps
placed_cells s [] = refl
placed_cells s (p ∷ ps) = cells_append (p ∷ ps) (closes s.to ∷ []) ∙ append-nil (cells (p ∷ ps))

placed_kinds : (s : Span) (ps : List Piece) → kinds_in (placed s ps) ≡ kinds_in ps
placed_kinds s [] = refl
placed_kinds s (p ∷ ps) = kinds_in_append (p ∷ ps) (closes s.to ∷ []) ∙ append-nil (kinds_in (p ∷ ps))

formed_body : (v : ℕ) (cs : Cells) (b : FromBody (v == 2) cs) → (v ≡ 1) ⊎ (v ≡ 2) → AreWordsFit (v == 2) (kinds_in (whole_bench (bench_of_version v nowhere b.decls.parts b.shared.parts b.edits.parts))) → IsBench (bench_of_version v nowhere b.decls.parts b.shared.parts b.edits.parts)
formed_body v cs b known words = record { version = known; decls = b.decls.are; shared = b.shared.are; edits = b.edits.are; words = words; place = λ e. refl }

there : (cs : Cells) → Either (InLaterVersion BenchFronts) (BenchFronts false) cs → Benches cs
there cs (inl k) =
    let b = body_from true k.right k.two in
    let r = row_from true version_row k.left k.one in
    let x = bench_of_version 2 nowhere b.decls.parts b.shared.parts b.edits.parts in
    let body = bench_body b.decls.parts b.shared.parts b.edits.parts in
    let are = later_pieces nowhere b.decls.parts b.shared.parts b.edits.parts in
    record {
      part = x;
      is = formed_body 2 k.right b (inr refl) (subst (AreWordsFit true) (sym (placed_kinds nowhere (bench_pieces x) ∙ ap kinds_in are)) (both_fit true bench_version_are body r.fit b.fit));
      shows = placed_cells nowhere (bench_pieces x) ∙ ap cells are ∙ both_cells bench_version_are body k.left k.right r.shows b.shows ∙ sym k.cells;
    }
there cs (inr k) =
    let b = body_from false cs k in
    let x = bench_of_version 1 nowhere b.decls.parts b.shared.parts b.edits.parts in
    let are = first_pieces nowhere b.decls.parts b.shared.parts b.edits.parts in
    record {
      part = x;
      is = formed_body 1 cs b (inl refl) (subst (AreWordsFit false) (sym (placed_kinds nowhere (bench_pieces x) ∙ ap kinds_in are)) b.fit);
      shows = placed_cells nowhere (bench_pieces x) ∙ ap cells are ∙ b.shows;
    }

later_back : (s : Span) (ds : List t.Declared) (ss : List h.Shared) (es : List Edit) → IsBench (bench_of_version 2 s ds ss es) → InLaterVersion BenchFronts (cells (whole_bench (bench_of_version 2 s ds ss es)))
later_back s ds ss es is =
    let body = bench_body ds ss es in
    let x = bench_of_version 2 s ds ss es in
    let are = later_pieces s ds ss es in
    let fit = subst (AreWordsFit true) (placed_kinds s (bench_pieces x) ∙ ap kinds_in are ∙ kinds_in_append bench_version_are body) is.words in
    record {
      left = cells bench_version_are;
      right = cells body;
      one = row_into true version_row (tt, (tt, (tt, tt))) (tt, (tt, (tt, tt))) (fits_front true (kinds_in bench_version_are) (kinds_in body) fit);
      two = body_into true ds ss es is.decls is.shared is.edits (fits_drop true (kinds_in bench_version_are) (kinds_in body) fit);
      cells = placed_cells s (bench_pieces x) ∙ ap cells are ∙ cells_append bench_version_are body;
    }

first_back : (s : Span) (ds : List t.Declared) (ss : List h.Shared) (es : List Edit) → IsBench (bench_of_version 1 s ds ss es) → BenchFronts false (cells (whole_bench (bench_of_version 1 s ds ss es)))
first_back s ds ss es is =
    let x = bench_of_version 1 s ds ss es in
    let are = first_pieces s ds ss es in
    subst (BenchFronts false) (sym (placed_cells s (bench_pieces x) ∙ ap cells are)) (body_into false ds ss es is.decls is.shared is.edits (subst (AreWordsFit false) (placed_kinds s (bench_pieces x) ∙ ap kinds_in are) is.words))

back : (cs : Cells) → Benches cs → Either (InLaterVersion BenchFronts) (BenchFronts false) cs
back cs p = go p.part.version p.part.decls p.part.shared p.part.edits p.part.span p.is p.shows p.is.version
  where
    go : (v : ℕ) (ds : List t.Declared) (ss : List h.Shared) (es : List Edit) (s : Span) → IsBench (bench_of_version v s ds ss es) → cells (whole_bench (bench_of_version v s ds ss es)) ≡ cs → (v ≡ 1) ⊎ (v ≡ 2) → Either (InLaterVersion BenchFronts) (BenchFronts false) cs
    go v ds ss es s is e (inl f) =
        inr (subst (BenchFronts false) (subst (λ (i : ℕ). cells (whole_bench (bench_of_version i s ds ss es)) ≡ cs) f e) (first_back s ds ss es (subst (λ (i : ℕ). IsBench (bench_of_version i s ds ss es)) f is)))
    go v ds ss es s is e (inr f) =
        inl (subst (InLaterVersion BenchFronts) (subst (λ (i : ℕ). cells (whole_bench (bench_of_version i s ds ss es)) ≡ cs) f e) (later_back s ds ss es (subst (λ (i : ℕ). IsBench (bench_of_version i s ds ss es)) f is)))

pub benches_headed : IsFrontOf Benches EditsOn
benches_headed = record { same = record { there = there; back = back }; live = λ v. live_many (Edits v) Nothing ([], refl); never = edits_never }
