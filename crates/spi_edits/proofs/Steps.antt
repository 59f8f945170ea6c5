-- Reading a bench part after part.
use Rattle.std.proofs.Common.{◌≡◌, ℕ, ◌<◌, ◌==◌, Bool, false, List, [], ◌∷◌, ◌++◌, length, Result, Ok, Err, refl, sym, ap, subst, ◌∙◌, ◌⊎◌, inl, inr, arith}
use Rattle.std.specs.Result.{IsErrAnd}
use Rattle.std.proofs.Math.Seq.{drop-length}
use Rattle.spi_lex.specs.declared.token.Token.{Token}
use Rattle.spi_lex.specs.Lexing.{kinds_of, is_version_2}
use Rattle.spi_text.specs.declared.lines.Span.{Span}
use Rattle.spi_tree.specs.Trees.{nowhere}
use Rattle.spi_tree.specs.Trees as t
use Rattle.spi_tree.specs.Pieces.{Piece, opens, cell, closes, decl_pieces}
use Rattle.spi_tree.specs.Formed.{AreWordsFit, IsDeclared}
use Rattle.spi_parse.specs.declared.fault.ParseFault.{ParseFault}
use Rattle.spi_parse.specs.Exact as exact
use Rattle.spi_parts.proofs.Behind.{decl_behind}
use Rattle.spi_heading.specs.Headings as h
use Rattle.spi_heading.specs.Spans.{span_over}
use Rattle.spi_heading.specs.Reading.{HeadingAt}
use Rattle.spi_heading.specs.Taking.{ReadsVersion}
use Rattle.spi_heading.specs.Each.{each_pieces, FailsWhole}
use Rattle.spi_heading.specs.Grammar.{shared_pieces, IsShared}
use Rattle.spi_heading.specs.Repeated.{IsSolid}
use Rattle.spi_heading.proofs.Standing.{AreTokensOf, stands_both, spelled, within_one, decl_solid}
use Rattle.spi_heading.proofs.Rows.{fits_at}
use Rattle.spi_heading.proofs.Each.{Along}
use Rattle.spi_heading.proofs.Names.{shared_behind, shared_solid}
use Rattle.spi_heading.proofs.Wholes.{WholeFails, whole_fails}
use Rattle.spi_heading.proofs.Fronts.{heading_decls, heading_shared}
use Rattle.spi_heading.proofs.Versions.{version_row_at, version_fits, version_known}
use Rattle.spi_edits.specs.Edits.{Edit, Bench}
use Rattle.spi_edits.specs.Grammar.{edit_pieces, IsEdit, bench_pieces, placed, whole_bench, IsBench}
use Rattle.spi_edits.specs.Reads.{IsBenchSpelled, ParsesBench}
use Rattle.spi_edits.specs.Spans.{span_of_all}
use Rattle.spi_edits.proofs.EditRows.{edit_behind, edit_solid}
use Rattle.spi_edits.proofs.Whole.{bench_body, Benches, benches_headed, bench_of_version, bench_version_are, later_pieces, first_pieces}

body_stands : (v : Bool) (ts : List Token) (ds : List t.Declared) (ss : List h.Shared) (es : List Edit) (i j k l : ℕ) → Along decl_pieces decl_behind (IsDeclared v) ts i ds j → Along shared_pieces shared_behind (IsShared v) ts j ss k
    → Along edit_pieces edit_behind (IsEdit v) ts k es l → AreTokensOf ts i (bench_body ds ss es) l
body_stands v ts ds ss es i j k l a b c =
    stands_both ts (each_pieces decl_pieces ds []) (each_pieces shared_pieces ss [] ++ each_pieces edit_pieces es []) i j l a.stands (stands_both ts (each_pieces shared_pieces ss []) (each_pieces edit_pieces es []) j k l b.stands c.stands)

-- ---- a bench has no pieces, or begins with a token

abbrev NoneOrSolid : List Piece → Type 0
NoneOrSolid ps = (ps ≡ []) ⊎ IsSolid ps

edits_start : (es : List Edit) → NoneOrSolid (each_pieces edit_pieces es [])
edits_start [] = inl refl
edits_start (e ∷ es) = inr (edit_solid e (each_pieces edit_pieces es []))

shared_start : (ss : List h.Shared) (es : List Edit) → NoneOrSolid (each_pieces shared_pieces ss (each_pieces edit_pieces es []))
shared_start [] es = edits_start es
shared_start (s ∷ ss) es = inr (shared_solid s (each_pieces shared_pieces ss (each_pieces edit_pieces es [])))

decls_start : (ds : List t.Declared) (ss : List h.Shared) (es : List Edit) → NoneOrSolid (each_pieces decl_pieces ds (each_pieces shared_pieces ss (each_pieces edit_pieces es [])))
decls_start [] ss es = shared_start ss es
decls_start (d ∷ ds) ss es = inr (decl_solid d (each_pieces decl_pieces ds (each_pieces shared_pieces ss (each_pieces edit_pieces es []))))

bench_start : (v : ℕ) (s : Span) (ds : List t.Declared) (ss : List h.Shared) (es : List Edit) → (v ≡ 1) ⊎ (v ≡ 2) → NoneOrSolid (bench_pieces (bench_of_version v s ds ss es))
bench_start v s ds ss es (inl e) = subst (λ (i : ℕ). NoneOrSolid (bench_pieces (bench_of_version i s ds ss es))) (sym e) (decls_start ds ss es)
bench_start v s ds ss es (inr e) = subst (λ (i : ℕ). NoneOrSolid (bench_pieces (bench_of_version i s ds ss es))) (sym e) (inr tt)

solid_within : (ts : List Token) (ps : List Piece) (i j : ℕ) → IsSolid ps → AreTokensOf ts i ps j → i < length ts
solid_within ts [] i j s h = absurd s
solid_within ts (opens from ∷ ps) i j s h = h.0
solid_within ts (cell k deep ∷ ps) i j s h = within_one ts i h.0 h.1 h.2
solid_within ts (closes to ∷ ps) i j s h = absurd s

-- ---- all of it, up to the end

placed_stands : (ts : List Token) (s : Span) → s ≡ span_over ts 0 (length ts) → (ps : List Piece) → IsSolid ps → AreTokensOf ts 0 ps (length ts) → AreTokensOf ts 0 (placed s ps) (length ts)
placed_stands ts s spans [] solid h = absurd solid
placed_stands ts s spans (p ∷ ps) solid h = (
  solid_within ts (p ∷ ps) 0 (length ts) solid h,
  ap (λ (y : Span). y.from) (sym spans),
  stands_both ts (p ∷ ps) (closes s.to ∷ []) 0 (length ts) (length ts) h (ap (λ (y : Span). y.to) (sym spans), refl),
)

spans_some : (ts : List Token) → 0 < length ts → span_of_all ts ≡ span_over ts 0 (length ts)
spans_some [] lt = absurd (omega (arith, lt))
spans_some (t ∷ ts) lt = refl

spans_none : (ts : List Token) → 0 ≡ length ts → (ts ≡ []) × (span_of_all ts ≡ nowhere)
spans_none [] e = (refl, refl)
spans_none (t ∷ ts) e = absurd (omega (arith, e))

module _ (ts : List Token) (s : Span) (spans : s ≡ span_of_all ts) where
  -- the place, and the whole as it is spelled
  abbrev IsPlaced : Bench → Type 0
  IsPlaced x = (bench_pieces x ≡ [] → s ≡ nowhere) × AreTokensOf ts 0 (placed s (bench_pieces x)) (length ts)

  bench_placed : (x : Bench) → NoneOrSolid (bench_pieces x) → AreTokensOf ts 0 (bench_pieces x) (length ts) → IsPlaced x
  bench_placed x (inl e) h =
      let none : 0 ≡ length ts = subst (λ (l : List Piece). AreTokensOf ts 0 l (length ts)) e h in
      (λ f. spans ∙ (spans_none ts none).1, subst (λ (l : List Piece). AreTokensOf ts 0 (placed s l) (length ts)) (sym e) none)
  bench_placed x (inr solid) h = (
    λ f. absurd (subst (λ (l : List Piece). IsSolid l) f solid),
    placed_stands ts s (spans ∙ spans_some ts (solid_within ts (bench_pieces x) 0 (length ts) solid h)) (bench_pieces x) solid h,
  )

  whole_stands : (ds : List t.Declared) (ss : List h.Shared) (es : List Edit) (r : ℕ × ℕ) → ReadsVersion (Ok r) ts → AreTokensOf ts r.1 (bench_body ds ss es) (length ts) → AreTokensOf ts 0 (bench_pieces (bench_of_version r.0 s ds ss es)) (length ts)
  whole_stands ds ss es r (inl h) body =
      subst (λ (n : ℕ). AreTokensOf ts 0 (bench_pieces (bench_of_version n s ds ss es)) (length ts)) (sym h.0)
      (subst (λ (l : List Piece). AreTokensOf ts 0 l (length ts)) (sym (later_pieces s ds ss es))
      (stands_both ts bench_version_are (bench_body ds ss es) 0 3 (length ts) (version_row_at false ts h.2 h.3 h.4).stands (subst (λ (n : ℕ). AreTokensOf ts n (bench_body ds ss es) (length ts)) h.1 body)))
  whole_stands ds ss es r (inr h) body =
      subst (λ (n : ℕ). AreTokensOf ts 0 (bench_pieces (bench_of_version n s ds ss es)) (length ts)) (sym h.0)
      (subst (λ (l : List Piece). AreTokensOf ts 0 l (length ts)) (sym (first_pieces s ds ss es)) (subst (λ (n : ℕ). AreTokensOf ts n (bench_body ds ss es) (length ts)) h.1 body))

  pub bench_read : AreWordsFit (is_version_2 (kinds_of ts)) (kinds_of ts) → (v : ℕ) (ds : List t.Declared) (ss : List h.Shared) (es : List Edit) (k : ℕ) → HeadingAt v ds ss ts k → Along edit_pieces edit_behind (IsEdit (v == 2)) ts k es (length ts)
      → IsBenchSpelled (bench_of_version v s ds ss es) ts
  bench_read fit v ds ss es k a c = (
    record {
      version = version_known ts (v, a.front.start) a.front.front.read;
      decls = a.front.decls.0.are;
      shared = a.shared.0.are;
      edits = c.are;
      words = fits_at (v == 2) ts (whole_bench x) 0 (length ts) (version_fits ts fit (v, a.front.start) a.front.front.read) is.1;
      place = is.0;
    },
    subst (λ (l : List Token). exact.Spells l 0 (whole_bench x) ts) (drop-length ts) (spelled ts (whole_bench x) 0 (length ts) is.1),
  )
    where
      x : Bench
      x = bench_of_version v s ds ss es

      is : IsPlaced x
      is = bench_placed x (bench_start v s ds ss es (version_known ts (v, a.front.start) a.front.front.read))
          (whole_stands ds ss es (v, a.front.start) a.front.front.read (body_stands (v == 2) ts ds ss es a.front.start a.start k (length ts) (heading_decls benches_headed ts fit v ds ss k a) (heading_shared benches_headed ts fit v ds ss k a) c))

pub parse_fails : {V : Type 0} (view : V → Bench) (ts : List Token) (f : ParseFault) (r : Result V ParseFault) → IsErrAnd r (λ e. e ≡ f) → WholeFails Benches ts f → ParsesBench view r ts
parse_fails view ts f (Ok x) is h = absurd is
parse_fails view ts f (Err e) is h = subst (λ (g : ParseFault). FailsWhole whole_bench IsBench g ts) (sym is) (whole_fails whole_bench IsBench ts f h)
