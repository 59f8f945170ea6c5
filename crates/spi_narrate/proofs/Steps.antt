-- Reading a narration part after part.
use Rattle.std.proofs.Common.{◌≡◌, ℕ, ◌+◌, ◌≤◌, ◌<◌, ◌==◌, Bool, false, List, [], ◌∷◌, ◌++◌, length, drop, Result, Ok, Err, refl, sym, ap, subst, inl, inr, arith}
use Rattle.std.specs.Result.{IsErrAnd}
use Rattle.std.proofs.Math.Seq.{drop-length}
use Rattle.spi_lex.specs.declared.token.Token.{Token}
use Rattle.spi_lex.specs.Lexing.{kinds_of, is_version_2}
use Rattle.spi_text.specs.declared.lines.Span.{Span}
use Rattle.spi_tree.specs.declared.tree.SWord.{SWord}
use Rattle.spi_tree.specs.Trees as t
use Rattle.spi_tree.specs.Pieces.{Piece, closes, decl_pieces}
use Rattle.spi_tree.specs.Formed.{AreWordsFit, IsDeclared}
use Rattle.spi_parse.specs.declared.fault.ParseFault.{ParseFault}
use Rattle.spi_parse.specs.Exact as exact
use Rattle.spi_parts.proofs.Behind.{decl_behind}
use Rattle.spi_parts.proofs.Bridge.{of_piece}
use Rattle.spi_heading.specs.Headings as h
use Rattle.spi_heading.specs.Spans.{span_over}
use Rattle.spi_heading.specs.Reading.{HeadingAt}
use Rattle.spi_heading.specs.Taking.{ReadsVersion}
use Rattle.spi_heading.specs.Each.{each_pieces, ReadsEach, FailsWhole}
use Rattle.spi_heading.specs.Grammar.{shared_pieces, IsShared}
use Rattle.spi_heading.proofs.Standing.{AreTokensOf, stands_both, spelled, within_one}
use Rattle.spi_heading.proofs.Failing.{FailsAt}
use Rattle.spi_heading.proofs.Rows.{fits_at, stands_read}
use Rattle.spi_heading.proofs.Calls.{part_stands, part_within}
use Rattle.spi_heading.proofs.Each.{Along}
use Rattle.spi_heading.proofs.Names.{shared_behind}
use Rattle.spi_heading.proofs.Wholes.{WholeFails, RestOfWhole, rest_next, rest_fails, whole_fails}
use Rattle.spi_narrate.specs.Narrations as n
use Rattle.spi_narrate.specs.Grammar.{line_pieces, IsLine, whole_roles, AreWholeRoles, HasRole, whole_narration, IsNarration}
use Rattle.spi_narrate.specs.Reads.{IsNarrationSpelled, ParsesNarration}
use Rattle.spi_heading.proofs.Lasts.{last_answer}
use Rattle.spi_narrate.proofs.LineRows.{lines_good, line_behind, line_solids}
use Rattle.spi_narrate.proofs.RoleRows.{Roles, roles_good}
use Rattle.spi_heading.proofs.Fronts.{heading_decls, heading_shared}
use Rattle.spi_heading.proofs.Versions.{version_row_at, version_fits, version_known}
use Rattle.spi_narrate.proofs.Whole.{narration_body, body_are, LinesOn, RolesOn, Narrations, narrations_headed, lines_some, lines_live, version_are}

-- ---- what stands behind the shared names

-- roles that are read stand there, and end within the text
pub roles_read : (v : Bool) (ts : List Token) (w : SWord) (ws : List SWord) (i j : ℕ) → i ≤ length ts → (r : (m : ℕ) × (j ≡ i + m) × exact.IsPartAt whole_roles (AreWholeRoles v) (w ∷ ws) (drop i ts) m)
    → AreTokensOf ts i (whole_roles (w ∷ ws)) j × (j ≤ length ts)
roles_read v ts w ws i j within r = (
  subst (λ (m : ℕ). AreTokensOf ts i (whole_roles (w ∷ ws)) m) (sym r.1) (part_stands whole_roles (AreWholeRoles v) (w ∷ ws) ts i r.0 within tt r.2),
  part_within whole_roles (AreWholeRoles v) (w ∷ ws) ts i j within r,
)

module _ (v : Bool) (ts : List Token) (fit : AreWordsFit v (kinds_of ts)) where
  pub roles_fault : (i : ℕ) → RestOfWhole Narrations (RolesOn v) ts i → (f : ParseFault) → FailsAt (Roles v) ts i f → WholeFails Narrations ts f
  roles_fault i r f e = rest_fails Narrations (Roles v) (LinesOn v) ts i f r (roles_good v) (lines_live v) e

  after_roles : (ws : List SWord) (i j : ℕ) → HasRole ws → AreTokensOf ts i (whole_roles ws) j → RestOfWhole Narrations (RolesOn v) ts i → RestOfWhole Narrations (LinesOn v) ts j
  after_roles ws i j has stands r =
      rest_next Narrations (Roles v) (LinesOn v) ts i j r (roles_good v) (stands_read (Roles v) (roles_good v) ts (whole_roles ws) i j (of_piece whole_roles (AreWholeRoles v) ws (has, fits_at v ts (whole_roles ws) i j fit stands)) stands)

  -- roles that are read, and lines that are not
  pub lines_answer : (w : SWord) (ws : List SWord) (i j : ℕ) → j ≤ length ts → AreTokensOf ts i (whole_roles (w ∷ ws)) j → RestOfWhole Narrations (RolesOn v) ts i → (f : ParseFault)
      → ReadsEach (λ (ls : List n.Line). ls) line_pieces v (IsLine v) (λ ts i. i < length ts) (Err f) ts j → WholeFails Narrations ts f
  lines_answer w ws i j within stands r f e = last_answer line_pieces line_behind line_solids v (IsLine v) (lines_good v) (lines_some v) Narrations ts fit j within (after_roles (w ∷ ws) i j (w, ws, refl) stands r) f e

  body_stands : (ds : List t.Declared) (ss : List h.Shared) (ws : List SWord) (ls : List n.Line) (i j k l m : ℕ) → Along decl_pieces decl_behind (IsDeclared v) ts i ds j → Along shared_pieces shared_behind (IsShared v) ts j ss k
      → AreTokensOf ts k (whole_roles ws) l → Along line_pieces line_behind (IsLine v) ts l ls m → AreTokensOf ts i (narration_body ds ss ws ls) m
  body_stands ds ss ws ls i j k l m a b c d =
      stands_both ts (each_pieces decl_pieces ds []) (each_pieces shared_pieces ss [] ++ (whole_roles ws ++ each_pieces line_pieces ls [])) i j m a.stands
      (stands_both ts (each_pieces shared_pieces ss []) (whole_roles ws ++ each_pieces line_pieces ls []) j k m b.stands
      (stands_both ts (whole_roles ws) (each_pieces line_pieces ls []) k l m c d.stands))

-- all of it, up to the end
module _ (ts : List Token) (some : 0 < length ts) (s : Span) (spans : s ≡ span_over ts 0 (length ts)) where
  closes_at : (ps : List Piece) (i : ℕ) → AreTokensOf ts i ps (length ts) → AreTokensOf ts i (ps ++ closes s.to ∷ []) (length ts)
  closes_at ps i h = stands_both ts ps (closes s.to ∷ []) i (length ts) (length ts) h (ap (λ (x : Span). x.to) (sym spans), refl)

  spell : (x : n.Narration) → AreTokensOf ts 0 (whole_narration x) (length ts) → exact.Spells [] 0 (whole_narration x) ts
  spell x h = subst (λ (l : List Token). exact.Spells l 0 (whole_narration x) ts) (drop-length ts) (spelled ts (whole_narration x) 0 (length ts) h)

  whole_stands : (ds : List t.Declared) (ss : List h.Shared) (ws : List SWord) (ls : List n.Line) (r : ℕ × ℕ) → ReadsVersion (Ok r) ts → AreTokensOf ts r.1 (narration_body ds ss ws ls ++ closes s.to ∷ []) (length ts)
      → AreTokensOf ts 0 (whole_narration (record { span = s; version = r.0; decls = ds; shared = ss; roles = ws; lines = ls })) (length ts)
  whole_stands ds ss ws ls r (inl h) body =
      subst (λ (n : ℕ). AreTokensOf ts 0 (whole_narration (record { span = s; version = n; decls = ds; shared = ss; roles = ws; lines = ls })) (length ts)) (sym h.0) (
        some,
        ap (λ (y : Span). y.from) (sym spans),
        subst (λ (l : List Piece). AreTokensOf ts 0 (version_are ++ l) (length ts)) (sym (body_are ds ss ws ls (closes s.to ∷ [])))
            (stands_both ts version_are (narration_body ds ss ws ls ++ closes s.to ∷ []) 0 3 (length ts) (version_row_at false ts h.2 h.3 h.4).stands (subst (λ (n : ℕ). AreTokensOf ts n (narration_body ds ss ws ls ++ closes s.to ∷ []) (length ts)) h.1 body)),
      )
  whole_stands ds ss ws ls r (inr h) body =
      subst (λ (n : ℕ). AreTokensOf ts 0 (whole_narration (record { span = s; version = n; decls = ds; shared = ss; roles = ws; lines = ls })) (length ts)) (sym h.0) (
        some,
        ap (λ (y : Span). y.from) (sym spans),
        subst (λ (l : List Piece). AreTokensOf ts 0 l (length ts)) (sym (body_are ds ss ws ls (closes s.to ∷ [])))
            (subst (λ (n : ℕ). AreTokensOf ts n (narration_body ds ss ws ls ++ closes s.to ∷ []) (length ts)) h.1 body),
      )

  pub narration_read : AreWordsFit (is_version_2 (kinds_of ts)) (kinds_of ts) → (v : ℕ) (ds : List t.Declared) (ss : List h.Shared) (w : SWord) (ws : List SWord) (ls : List n.Line) (k l : ℕ) → HeadingAt v ds ss ts k → AreTokensOf ts k (whole_roles (w ∷ ws)) l
      → Along line_pieces line_behind (IsLine (v == 2)) ts l ls (length ts) → IsNarrationSpelled (record { span = s; version = v; decls = ds; shared = ss; roles = w ∷ ws; lines = ls }) ts
  narration_read fit v ds ss w ws ls k l a c d = (
    record {
      version = version_known ts (v, a.front.start) a.front.front.read;
      decls = a.front.decls.0.are;
      shared = a.shared.0.are;
      roles = (w, ws, refl);
      lines = d.are;
      words = fits_at (v == 2) ts (whole_narration x) 0 (length ts) fit_in stands;
    },
    spell x stands,
  )
    where
      x : n.Narration
      x = record { span = s; version = v; decls = ds; shared = ss; roles = w ∷ ws; lines = ls }

      fit_in : AreWordsFit (v == 2) (kinds_of ts)
      fit_in = version_fits ts fit (v, a.front.start) a.front.front.read

      stands : AreTokensOf ts 0 (whole_narration x) (length ts)
      stands = whole_stands ds ss (w ∷ ws) ls (v, a.front.start) a.front.front.read
          (closes_at (narration_body ds ss (w ∷ ws) ls) a.front.start (body_stands (v == 2) ts fit_in ds ss (w ∷ ws) ls a.front.start a.start k l (length ts) (heading_decls narrations_headed ts fit v ds ss k a) (heading_shared narrations_headed ts fit v ds ss k a) c d))

-- ---- the answers of the call

pub parse_fails : {V : Type 0} (view : V → n.Narration) (ts : List Token) (f : ParseFault) (r : Result V ParseFault) → IsErrAnd r (λ e. e ≡ f) → WholeFails Narrations ts f → ParsesNarration view r ts
parse_fails view ts f (Ok x) is h = absurd is
parse_fails view ts f (Err e) is h = subst (λ (g : ParseFault). FailsWhole whole_narration IsNarration g ts) (sym is) (whole_fails whole_narration IsNarration ts f h)

pub roles_some : (ts : List Token) (w : SWord) (ws : List SWord) (i j : ℕ) → AreTokensOf ts i (whole_roles (w ∷ ws)) j → 0 < length ts
roles_some ts w ws i j h = let b = within_one ts i h.0 h.1 h.2 in omega arith
