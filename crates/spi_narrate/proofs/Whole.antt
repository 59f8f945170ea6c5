-- Whole narrations: the version, the declarations, the shared names, the roles and the lines.
use Rattle.std.proofs.Common.{◌≡◌, ◌==◌, ℕ, Bool, true, false, List, [], ◌∷◌, ◌++◌, refl, sym, ap, subst, ◌∙◌, append_assoc, append-nil, codes, ◌⊎◌, inl, inr}
use Rattle.std.specs.List.{AllByRecursion}
use Rattle.spi_lex.specs.declared.token.Kind.{Kind}
use Rattle.spi_lex.specs.declared.token.Kind.TheVariants as K
use Rattle.spi_text.specs.declared.lines.Span.{Span}
use Rattle.spi_tree.specs.declared.tree.SWord.{SWord}
use Rattle.spi_tree.specs.Trees as t
use Rattle.spi_tree.specs.Pieces.{Piece, opens, closes, cells, kinds_in, decl_pieces}
use Rattle.spi_tree.specs.Formed.{AreWordsFit, IsDeclared}
use Rattle.spi_parse.proofs.Words.{fits_front, fits_drop}
use Rattle.spi_grammar.specs.Exactly.{kinds, IsLive, Then, Either, Many, Nothing}
use Rattle.spi_grammar.proofs.Cuts.{kinds_append}
use Rattle.spi_grammar.proofs.Repetition.{live_many}
use Rattle.spi_grammar.proofs.Sequence.{live_both}
use Rattle.spi_grammar.proofs.Good.{IsSome}
use Rattle.spi_parts.proofs.Behind.{decl_behind}
use Rattle.spi_parts.proofs.Alone.{kinds_in_append}
use Rattle.spi_parts.proofs.Bridge.{OfPieces}
use Rattle.spi_heading.specs.Headings as h
use Rattle.spi_heading.specs.Each.{each_pieces}
use Rattle.spi_heading.specs.Grammar.{shared_pieces, IsShared}
use Rattle.spi_heading.proofs.Symbols.{cells_append}
use Rattle.spi_heading.proofs.Rows.{row_pieces, row_into, row_from}
use Rattle.spi_heading.proofs.Each.{each_behind}
use Rattle.spi_heading.proofs.Names.{shared_behind}
use Rattle.spi_heading.proofs.Manys.{both_fit, both_cells, many_from, each_into, each_shows, last_into, last_shows}
use Rattle.spi_heading.proofs.Versions.{version_row, Cells, InLaterVersion}
use Rattle.spi_heading.proofs.Fronts.{BeginsFront, NeverFront, SharedFront, Front, IsFrontOf}
use Rattle.spi_narrate.specs.Narrations as n
use Rattle.spi_narrate.specs.Grammar.{line_pieces, IsLine, roles_pieces, whole_roles, HasRole, whole_narration, IsNarration}
use Rattle.spi_narrate.proofs.LineRows.{Lines, line_behind, line_first}
use Rattle.spi_narrate.proofs.RoleRows.{Roles, roles_good, roles_first, roles_behind}
use Rattle.spi_tree.specs.Trees.{nowhere}

-- what stands behind the version
abbrev pub narration_body : List t.Declared → List h.Shared → List SWord → List n.Line → List Piece
narration_body ds ss ws ls = each_pieces decl_pieces ds [] ++ (each_pieces shared_pieces ss [] ++ (whole_roles ws ++ each_pieces line_pieces ls []))

pub body_are : (ds : List t.Declared) (ss : List h.Shared) (ws : List SWord) (ls : List n.Line) (r : List Piece) → each_pieces decl_pieces ds (each_pieces shared_pieces ss (roles_pieces ws (each_pieces line_pieces ls r))) ≡ narration_body ds ss ws ls ++ r
body_are ds ss ws ls r =
    let lines = each_pieces line_pieces ls [] in
    let roles_ = whole_roles ws in
    let names = each_pieces shared_pieces ss [] in
    let decls = each_pieces decl_pieces ds [] in
    each_behind decl_pieces decl_behind ds (each_pieces shared_pieces ss (roles_pieces ws (each_pieces line_pieces ls r)))
    ∙ ap (λ (l : List Piece). decls ++ l)
    (each_behind shared_pieces shared_behind ss (roles_pieces ws (each_pieces line_pieces ls r))
    ∙ ap (λ (l : List Piece). names ++ l) (roles_behind ws (each_pieces line_pieces ls r) ∙ ap (λ (l : List Piece). roles_ ++ l) (each_behind line_pieces line_behind ls r) ∙ sym (append_assoc roles_ lines r))
    ∙ sym (append_assoc names (roles_ ++ lines) r))
    ∙ sym (append_assoc decls (names ++ (roles_ ++ lines)) r)

module _ (v : Bool) where
  abbrev pub LinesOn : Cells → Type 0
  LinesOn = Many (Lines v) Nothing

  abbrev pub RolesOn : Cells → Type 0
  RolesOn = Then (Roles v) LinesOn

  -- ---- what each begins with

  roles_on_first : (a : Cells) → RolesOn a → (k : Kind) (x : List Kind) → kinds a ≡ k ∷ x → k ≡ K.Word (codes "roles")
  roles_on_first a r k x e = go (kinds r.left) refl
    where
      all : kinds r.left ++ kinds r.right ≡ k ∷ x
      all = sym (ap kinds r.cells ∙ kinds_append r.left r.right) ∙ e

      go : (u : List Kind) → kinds r.left ≡ u → k ≡ K.Word (codes "roles")
      go [] is = absurd (let f = roles_first v r.left r.one in let g : K.Word (codes "roles") ∷ f.0 ≡ [] = sym f.1 ∙ is in cc)
      go (q ∷ u) is =
          let f = roles_first v r.left r.one in
          let g : q ∷ (u ++ kinds r.right) ≡ k ∷ x = ap (λ (l : List Kind). l ++ kinds r.right) (sym is) ∙ all in
          let j : K.Word (codes "roles") ∷ f.0 ≡ q ∷ u = sym f.1 ∙ is in
          cc

  roles_never : NeverFront RolesOn
  roles_never k is b lb x e = none k is (roles_on_first b lb k x e)
    where
      none : (k : Kind) → BeginsFront k → k ≡ K.Word (codes "roles") → ⊥
      none k (inl f) g = cc
      none k (inr (inl f)) g = cc
      none k (inr (inr (inl f))) g = cc
      none k (inr (inr (inr f))) g = cc

  pub lines_some : IsSome (Lines v)
  lines_some a la e = let f = line_first v a la in let g : f.0 ∷ f.1 ≡ [] = sym f.2 ∙ e in cc

  pub lines_live : IsLive LinesOn
  lines_live = live_many (Lines v) Nothing ([], refl)

  pub roles_live : IsLive RolesOn
  roles_live = live_both (Roles v) LinesOn (Rattle.spi_grammar.proofs.Sequence.apart_closed (Roles v) LinesOn (roles_good v).closed) (roles_good v).live lines_live

  -- ---- bodies by their parts

  pub record FromBody (cs : Cells) : Type 0 where
    pub decls : List t.Declared
    pub shared : List h.Shared
    pub roles : List SWord
    pub lines : List n.Line
    pub decls_are : AllByRecursion (IsDeclared v) decls
    pub shared_are : AllByRecursion (IsShared v) shared
    pub has_role : HasRole roles
    pub lines_are : AllByRecursion (IsLine v) lines
    pub fit : AreWordsFit v (kinds_in (narration_body decls shared roles lines))
    pub shows : cells (narration_body decls shared roles lines) ≡ cs

  pub body_from : (cs : Cells) → Front v RolesOn cs → FromBody cs
  body_from cs b =
      let d = many_from decl_pieces decl_behind v (IsDeclared v) (SharedFront v RolesOn) cs b in
      let s = many_from shared_pieces shared_behind v (IsShared v) RolesOn d.rest d.behind_them in
      let r = s.behind_them in
      let l = many_from line_pieces line_behind v (IsLine v) Nothing r.right r.two in
      let ws = r.one.part in
      let lines = each_pieces line_pieces l.parts [] in
      let behind = each_pieces shared_pieces s.parts [] ++ (whole_roles ws ++ lines) in
      record {
        decls = d.parts;
        shared = s.parts;
        roles = ws;
        lines = l.parts;
        decls_are = d.are;
        shared_are = s.are;
        has_role = r.one.is.0;
        lines_are = l.are;
        fit = both_fit v (each_pieces decl_pieces d.parts []) behind d.fit (both_fit v (each_pieces shared_pieces s.parts []) (whole_roles ws ++ lines) s.fit (both_fit v (whole_roles ws) lines r.one.is.1 l.fit));
        shows =
            each_shows decl_pieces decl_behind v (IsDeclared v) (SharedFront v RolesOn) cs d behind
            (each_shows shared_pieces shared_behind v (IsShared v) RolesOn d.rest s (whole_roles ws ++ lines)
            (both_cells (whole_roles ws) lines r.left r.right r.one.shows (last_shows line_pieces line_behind v (IsLine v) r.right l) ∙ sym r.cells));
      }

  roles_into : (ws : List SWord) (ls : List n.Line) → HasRole ws → AllByRecursion (IsLine v) ls → AreWordsFit v (kinds_in (whole_roles ws ++ each_pieces line_pieces ls [])) → RolesOn (cells (whole_roles ws ++ each_pieces line_pieces ls []))
  roles_into ws ls hw hl fit =
      let lines = each_pieces line_pieces ls [] in
      let both = subst (AreWordsFit v) (kinds_in_append (whole_roles ws) lines) fit in
      record {
        left = cells (whole_roles ws);
        right = cells lines;
        one = record { part = ws; is = (hw, fits_front v (kinds_in (whole_roles ws)) (kinds_in lines) both); shows = refl };
        two = last_into line_pieces line_behind v (IsLine v) ls hl (fits_drop v (kinds_in (whole_roles ws)) (kinds_in lines) both);
        cells = cells_append (whole_roles ws) lines;
      }

  pub body_into : (ds : List t.Declared) (ss : List h.Shared) (ws : List SWord) (ls : List n.Line) → AllByRecursion (IsDeclared v) ds → AllByRecursion (IsShared v) ss → HasRole ws → AllByRecursion (IsLine v) ls
      → AreWordsFit v (kinds_in (narration_body ds ss ws ls)) → Front v RolesOn (cells (narration_body ds ss ws ls))
  body_into ds ss ws ls hd hs hw hl fit =
      let tail = whole_roles ws ++ each_pieces line_pieces ls [] in
      each_into decl_pieces decl_behind v (IsDeclared v) (SharedFront v RolesOn) ds hd (each_pieces shared_pieces ss [] ++ tail) fit (λ f. each_into shared_pieces shared_behind v (IsShared v) RolesOn ss hs tail f (λ g. roles_into ws ls hw hl g))

-- ---- narrations, with the version in front or not

abbrev pub Narrations : Cells → Type 0
Narrations = OfPieces whole_narration IsNarration

abbrev NarrationFronts : Bool → Cells → Type 0
NarrationFronts v = Front v (RolesOn v)

abbrev narration_of_version : ℕ → Span → List t.Declared → List h.Shared → List SWord → List n.Line → n.Narration
narration_of_version v s ds ss ws ls = record { span = s; version = v; decls = ds; shared = ss; roles = ws; lines = ls }

abbrev pub version_are : List Piece
version_are = row_pieces version_row (tt, (tt, (tt, tt))) []

later_pieces : (s : Span) (ds : List t.Declared) (ss : List h.Shared) (ws : List SWord) (ls : List n.Line) → whole_narration (narration_of_version 2 s ds ss ws ls) ≡ opens s.from ∷ (version_are ++ (narration_body ds ss ws ls ++ closes s.to ∷ []))
later_pieces s ds ss ws ls = ap (λ (l : List Piece). opens s.from ∷ (version_are ++ l)) (body_are ds ss ws ls (closes s.to ∷ []))

first_pieces : (s : Span) (ds : List t.Declared) (ss : List h.Shared) (ws : List SWord) (ls : List n.Line) → whole_narration (narration_of_version 1 s ds ss ws ls) ≡ opens s.from ∷ (narration_body ds ss ws ls ++ closes s.to ∷ [])
first_pieces s ds ss ws ls = ap (λ (l : List Piece). opens s.from ∷ l) (body_are ds ss ws ls (closes s.to ∷ []))

closed_cells : (ps : List Piece) (to : ℕ) → cells (ps ++ closes to ∷ []) ≡ cells ps
closed_cells ps to = cells_append ps (closes to ∷ []) ∙ append-nil (cells ps)

closed_kinds : (ps : List Piece) (to : ℕ) → kinds_in (ps ++ closes to ∷ []) ≡ kinds_in ps
closed_kinds ps to = kinds_in_append ps (closes to ∷ []) ∙ append-nil (kinds_in ps)

formed_body : (v : ℕ) (cs : Cells) (b : FromBody (v == 2) cs) → (v ≡ 1) ⊎ (v ≡ 2) → AreWordsFit (v == 2) (kinds_in (whole_narration (narration_of_version v nowhere b.decls b.shared b.roles b.lines))) → IsNarration (narration_of_version v nowhere b.decls b.shared b.roles b.lines)
formed_body v cs b known words = record { version = known; decls = b.decls_are; shared = b.shared_are; roles = b.has_role; lines = b.lines_are; words = words }

there : (cs : Cells) → Either (InLaterVersion NarrationFronts) (NarrationFronts false) cs → Narrations cs
there cs (inl k) =
    let b = body_from true k.right k.two in
    let r = row_from true version_row k.left k.one in
    let x = narration_of_version 2 nowhere b.decls b.shared b.roles b.lines in
    let body = narration_body b.decls b.shared b.roles b.lines in
    let rest = body ++ closes 0 ∷ [] in
    record {
      part = x;
      is = formed_body 2 k.right b (inr refl) (subst (λ (l : List Piece). AreWordsFit true (kinds_in l)) (sym (later_pieces nowhere b.decls b.shared b.roles b.lines)) (both_fit true version_are rest r.fit (subst (AreWordsFit true) (sym (closed_kinds body 0)) b.fit)));
      shows = ap cells (later_pieces nowhere b.decls b.shared b.roles b.lines) ∙ both_cells version_are rest k.left k.right r.shows (closed_cells body 0 ∙ b.shows) ∙ sym k.cells;
    }
there cs (inr k) =
    let b = body_from false cs k in
    let x = narration_of_version 1 nowhere b.decls b.shared b.roles b.lines in
    let body = narration_body b.decls b.shared b.roles b.lines in
    record {
      part = x;
      is = formed_body 1 cs b (inl refl) (subst (λ (l : List Piece). AreWordsFit false (kinds_in l)) (sym (first_pieces nowhere b.decls b.shared b.roles b.lines)) (subst (AreWordsFit false) (sym (closed_kinds body 0)) b.fit));
      shows = ap cells (first_pieces nowhere b.decls b.shared b.roles b.lines) ∙ closed_cells body 0 ∙ b.shows;
    }

later_back : (s : Span) (ds : List t.Declared) (ss : List h.Shared) (ws : List SWord) (ls : List n.Line) → IsNarration (narration_of_version 2 s ds ss ws ls) → InLaterVersion NarrationFronts (cells (whole_narration (narration_of_version 2 s ds ss ws ls)))
later_back s ds ss ws ls is =
    let body = narration_body ds ss ws ls in
    let rest = body ++ closes s.to ∷ [] in
    let fit = subst (AreWordsFit true) (kinds_in_append version_are rest) (subst (λ (l : List Piece). AreWordsFit true (kinds_in l)) (later_pieces s ds ss ws ls) is.words) in
    record {
      left = cells version_are;
      right = cells body;
      one = row_into true version_row (tt, (tt, (tt, tt))) (tt, (tt, (tt, tt))) (fits_front true (kinds_in version_are) (kinds_in rest) fit);
      two = body_into true ds ss ws ls is.decls is.shared is.roles is.lines (subst (AreWordsFit true) (closed_kinds body s.to) (fits_drop true (kinds_in version_are) (kinds_in rest) fit));
      cells = ap cells (later_pieces s ds ss ws ls) ∙ both_cells version_are rest (cells version_are) (cells body) refl (closed_cells body s.to);
    }

first_back : (s : Span) (ds : List t.Declared) (ss : List h.Shared) (ws : List SWord) (ls : List n.Line) → IsNarration (narration_of_version 1 s ds ss ws ls) → NarrationFronts false (cells (whole_narration (narration_of_version 1 s ds ss ws ls)))
first_back s ds ss ws ls is =
    let body = narration_body ds ss ws ls in
    let fit = subst (λ (l : List Piece). AreWordsFit false (kinds_in l)) (first_pieces s ds ss ws ls) is.words in
    subst (NarrationFronts false) (sym (ap cells (first_pieces s ds ss ws ls) ∙ closed_cells body s.to))
    (body_into false ds ss ws ls is.decls is.shared is.roles is.lines (subst (AreWordsFit false) (closed_kinds body s.to) fit))

back : (cs : Cells) → Narrations cs → Either (InLaterVersion NarrationFronts) (NarrationFronts false) cs
back cs p = go p.part.version p.part.decls p.part.shared p.part.roles p.part.lines p.part.span p.is p.shows p.is.version
  where
    go : (v : ℕ) (ds : List t.Declared) (ss : List h.Shared) (ws : List SWord) (ls : List n.Line) (s : Span) → IsNarration (narration_of_version v s ds ss ws ls) → cells (whole_narration (narration_of_version v s ds ss ws ls)) ≡ cs → (v ≡ 1) ⊎ (v ≡ 2) → Either (InLaterVersion NarrationFronts) (NarrationFronts false) cs
    go v ds ss ws ls s is e (inl f) =
        inr (subst (NarrationFronts false) (subst (λ (i : ℕ). cells (whole_narration (narration_of_version i s ds ss ws ls)) ≡ cs) f e) (first_back s ds ss ws ls (subst (λ (i : ℕ). IsNarration (narration_of_version i s ds ss ws ls)) f is)))
    go v ds ss ws ls s is e (inr f) =
        inl (subst (InLaterVersion NarrationFronts) (subst (λ (i : ℕ). cells (whole_narration (narration_of_version i s ds ss ws ls)) ≡ cs) f e) (later_back s ds ss ws ls (subst (λ (i : ℕ). IsNarration (narration_of_version i s ds ss ws ls)) f is)))

pub narrations_headed : IsFrontOf Narrations RolesOn
narrations_headed = record { same = record { there = there; back = back }; live = roles_live; never = roles_never }
