-- Tokens are those of one narration at most: its parts in their order.
use Rattle.std.proofs.Common.{◌≡◌, ℕ, ◌<◌, Bool, true, false, List, [], ◌∷◌, ◌++◌, length, drop, Some, sym, ap, subst, ◌∙◌, codes, ◌⊎◌, inl, inr, arith, append-nil}
use Rattle.std.specs.List.{AllByRecursion}
use Rattle.std.proofs.Math.Seq.{drop-length}
use Rattle.spi_lex.specs.declared.token.Kind.{Kind}
use Rattle.spi_lex.specs.declared.token.Kind.TheVariants as K
use Rattle.spi_lex.specs.declared.token.Mark.TheVariants as mark
use Rattle.spi_lex.specs.declared.token.Reserved.TheVariants as word
use Rattle.spi_lex.specs.declared.token.Token.{Token}
use Rattle.spi_lex.specs.Lexing.{kinds_of}
use Rattle.spi_text.specs.declared.lines.Span.{Span}
use Rattle.spi_tree.specs.declared.tree.SWord.{SWord}
use Rattle.spi_tree.specs.Trees as t
use Rattle.spi_tree.specs.Pieces.{Piece, opens, cell, closes, kinds_in, decl_pieces}
use Rattle.spi_tree.specs.Formed.{AreWordsFit, IsDeclared}
use Rattle.spi_parse.specs.Exact.{Spells}
use Rattle.spi_parts.proofs.Behind.{decl_behind}
use Rattle.spi_heading.specs.Headings as h
use Rattle.spi_heading.specs.Each.{each_pieces}
use Rattle.spi_heading.specs.Grammar.{shared_word, shared_pieces, IsShared, BeginsDecl, BeginsShared}
use Rattle.spi_heading.specs.Spans.{start_of_token, end_before}
use Rattle.spi_heading.specs.Taking.{IsThere, version_word}
use Rattle.spi_heading.proofs.Standing.{AreTokensOf, unfound, standing, stands_kinds}
use Rattle.spi_heading.proofs.Rows.{row_pieces}
use Rattle.spi_heading.proofs.Each.{stands_cut}
use Rattle.spi_heading.proofs.Names.{shared_behind}
use Rattle.spi_narrate.specs.Narrations as n
use Rattle.spi_narrate.specs.Grammar.{line_pieces, IsLine, comma_pieces, whole_roles, HasRole, whole_narration, IsNarration, IsAnyWord}
use Rattle.spi_narrate.specs.Reads.{IsNarrationSpelled}
use Rattle.spi_narrate.proofs.LineRows.{line_behind}
use Rattle.spi_narrate.proofs.RoleRows.{roles_head, semicolon_row, roles_are, comma_behind}
use Rattle.spi_narrate.proofs.Whole.{narration_body, body_are}
use Rattle.spi_narrate.proofs.Once.{row_once, decl_once, shared_once, comma_once, line_once, each_once}

module _ (ts : List Token) where
  -- the token that stands first
  kind_there : (j : ℕ) (a : Token) (more : List Token) (k l : Kind) → drop j ts ≡ a ∷ more → a.kind ≡ k → IsThere ts j l → k ≡ l
  kind_there j a more k l e p there =
      let s : Some a ≡ Some there.0 = sym (unfound ts j a more e) ∙ there.1 in
      let same : a ≡ there.0 = cc in
      sym p ∙ ap (λ (x : Token). x.kind) same ∙ there.2

  first_there : (j : ℕ) (a : Token) (more : List Token) (k : Kind) → drop j ts ≡ a ∷ more → a.kind ≡ k → IsThere ts j k
  first_there j a more k e p = (a, unfound ts j a more e, p)

  decl_starts : (x : t.Declared) (i j : ℕ) → AreTokensOf ts i (decl_pieces x []) j → BeginsDecl ts i
  decl_starts (t.free s w ws) i j f = inl (first_there i f.2.0 f.2.1 (K.Reserved word.Free) f.2.2 f.2.3)
  decl_starts (t.abbreviated s w a) i j f = inr (first_there i f.2.0 f.2.1 (K.Reserved word.TypeWord) f.2.2 f.2.3)

  shared_starts : (x : h.Shared) (i j : ℕ) → AreTokensOf ts i (shared_pieces x []) j → BeginsShared ts i
  shared_starts x i j f = first_there i f.2.0 f.2.1 shared_word f.2.2 f.2.3

  comma_starts : (x : SWord) (i j : ℕ) → AreTokensOf ts i (comma_pieces x []) j → IsThere ts i (K.Mark mark.Comma)
  comma_starts x i j f = first_there i f.0 f.1 (K.Mark mark.Comma) f.2 f.3

  line_starts : (x : n.Line) (i j : ℕ) → AreTokensOf ts i (line_pieces x []) j → i < length ts
  line_starts (n.local s w x) i j f = f.0
  line_starts (n.pass s a b c m x) i j f = f.0

  -- what doesn't stand behind the parts of a kind
  abbrev RolesOn : List SWord → List n.Line → List Piece
  RolesOn ws ls = whole_roles ws ++ each_pieces line_pieces ls []

  abbrev SharedOn : List h.Shared → List SWord → List n.Line → List Piece
  SharedOn ss ws ls = each_pieces shared_pieces ss [] ++ RolesOn ws ls

  roles_there : (ws : List SWord) (ls : List n.Line) (j k : ℕ) → HasRole ws → AreTokensOf ts j (RolesOn ws ls) k → IsThere ts j (K.Word (codes "roles"))
  roles_there [] ls j k has f = absurd (let z = has.2 in cc)
  roles_there (w ∷ ws) ls j k has f = first_there j f.0 f.1 (K.Word (codes "roles")) f.2 f.3

  same_there : (j : ℕ) (k l : Kind) → IsThere ts j k → IsThere ts j l → k ≡ l
  same_there j k l a b = let s : Some a.0 ≡ Some b.0 = sym a.1 ∙ b.1 in let same : a.0 ≡ b.0 = cc in sym a.2 ∙ ap (λ (x : Token). x.kind) same ∙ b.2

  shared_or_roles : (ss : List h.Shared) (ws : List SWord) (ls : List n.Line) (j k : ℕ) → HasRole ws → AreTokensOf ts j (SharedOn ss ws ls) k → IsThere ts j shared_word ⊎ IsThere ts j (K.Word (codes "roles"))
  shared_or_roles [] ws ls j k has f = inr (roles_there ws ls j k has f)
  shared_or_roles (s ∷ ss) ws ls j k has f = inl (first_there j f.2.0 f.2.1 shared_word f.2.2 f.2.3)

  no_decl : (ss : List h.Shared) (ws : List SWord) (ls : List n.Line) (j k : ℕ) → HasRole ws → AreTokensOf ts j (SharedOn ss ws ls) k → BeginsDecl ts j → ⊥
  no_decl ss ws ls j k has f b = go (shared_or_roles ss ws ls j k has f) b
    where
      go : IsThere ts j shared_word ⊎ IsThere ts j (K.Word (codes "roles")) → BeginsDecl ts j → ⊥
      go (inl a) (inl c) = let e : shared_word ≡ K.Reserved word.Free = same_there j shared_word (K.Reserved word.Free) a c in cc
      go (inl a) (inr c) = let e : shared_word ≡ K.Reserved word.TypeWord = same_there j shared_word (K.Reserved word.TypeWord) a c in cc
      go (inr a) (inl c) = let e : K.Word (codes "roles") ≡ K.Reserved word.Free = same_there j (K.Word (codes "roles")) (K.Reserved word.Free) a c in cc
      go (inr a) (inr c) = let e : K.Word (codes "roles") ≡ K.Reserved word.TypeWord = same_there j (K.Word (codes "roles")) (K.Reserved word.TypeWord) a c in cc

  no_shared : (ws : List SWord) (ls : List n.Line) (j k : ℕ) → HasRole ws → AreTokensOf ts j (RolesOn ws ls) k → BeginsShared ts j → ⊥
  no_shared ws ls j k has f b = let e : K.Word (codes "roles") ≡ shared_word = same_there j (K.Word (codes "roles")) shared_word (roles_there ws ls j k has f) b in cc

  no_comma : (j k : ℕ) → AreTokensOf ts j (row_pieces semicolon_row (tt, tt) []) k → IsThere ts j (K.Mark mark.Comma) → ⊥
  no_comma j k f b = let e : K.Mark mark.Semicolon ≡ K.Mark mark.Comma = kind_there j f.0 f.1 (K.Mark mark.Semicolon) (K.Mark mark.Comma) f.2 f.3 b in cc

  -- a text that begins with its version has no body in front
  no_version : (ds : List t.Declared) (ss : List h.Shared) (ws : List SWord) (ls : List n.Line) (j k : ℕ) → HasRole ws → AreTokensOf ts j (narration_body ds ss ws ls) k → IsThere ts j version_word → ⊥
  no_version [] ss ws ls j k has f there = go (shared_or_roles ss ws ls j k has f)
    where
      go : IsThere ts j shared_word ⊎ IsThere ts j (K.Word (codes "roles")) → ⊥
      go (inl a) = let e : shared_word ≡ version_word = same_there j shared_word version_word a there in cc
      go (inr a) = let e : K.Word (codes "roles") ≡ version_word = same_there j (K.Word (codes "roles")) version_word a there in cc
  no_version (t.free s w more ∷ ds) ss ws ls j k has f there = let e : K.Reserved word.Free ≡ version_word = kind_there j f.2.0 f.2.1 (K.Reserved word.Free) version_word f.2.2 f.2.3 there in cc
  no_version (t.abbreviated s w a ∷ ds) ss ws ls j k has f there = let e : K.Reserved word.TypeWord ≡ version_word = kind_there j f.2.0 f.2.1 (K.Reserved word.TypeWord) version_word f.2.2 f.2.3 there in cc

  module _ (v : Bool) where
    -- where the parts of a narration stand
    pub record BodyAt (i : ℕ) (x : n.Narration) : Type 0 where
      pub decls : AllByRecursion (IsDeclared v) x.decls
      pub shared : AllByRecursion (IsShared v) x.shared
      pub roles : HasRole x.roles
      pub lines : AllByRecursion (IsLine v) x.lines
      pub stands : AreTokensOf ts i (narration_body x.decls x.shared x.roles x.lines) (length ts)
      pub from : start_of_token ts 0 ≡ x.span.from
      pub to : end_before ts (length ts) ≡ x.span.to

  module _ (v : Bool) (fit : AreWordsFit v (kinds_of ts)) where
    roles_once : (ws zs : List SWord) (i j k : ℕ) → HasRole ws → HasRole zs → AreTokensOf ts i (whole_roles ws) j → AreTokensOf ts i (whole_roles zs) k → (ws ≡ zs) × (j ≡ k)
    roles_once [] zs i j k p q f g = absurd (let z = p.2 in cc)
    roles_once (w ∷ ws) [] i j k p q f g = absurd (let z = q.2 in cc)
    roles_once (w ∷ ws) (z ∷ zs) i j k p q f g =
        let head : SWord → List Piece = λ x. row_pieces roles_head (tt, (x, tt)) [] in
        let semicolon : List Piece = row_pieces semicolon_row (tt, tt) [] in
        let c = stands_cut ts (head w) (each_pieces comma_pieces ws [] ++ semicolon) i j (subst (λ (l : List Piece). AreTokensOf ts i l j) (roles_are w ws) f) in
        let d = stands_cut ts (head z) (each_pieces comma_pieces zs [] ++ semicolon) i k (subst (λ (l : List Piece). AreTokensOf ts i l k) (roles_are z zs) g) in
        let one = row_once v ts fit roles_head i c.0 d.0 (tt, (w, tt)) (tt, (z, tt)) (tt, (tt, tt)) (tt, (tt, tt)) (tt, (tt, tt)) c.1 d.1 in
        let c2 = stands_cut ts (each_pieces comma_pieces ws []) semicolon c.0 j c.2 in
        let d2 = stands_cut ts (each_pieces comma_pieces zs []) semicolon c.0 k (subst (λ (m : ℕ). AreTokensOf ts m (each_pieces comma_pieces zs [] ++ semicolon) k) (sym one.1) d.2) in
        let more = each_once v ts fit comma_pieces comma_behind IsAnyWord (λ i. IsThere ts i (K.Mark mark.Comma)) comma_starts (comma_once v ts fit) ws zs c.0 c2.0 d2.0 (any ws) (any zs) c2.1 d2.1 (no_comma c2.0 j c2.2) (no_comma d2.0 k d2.2) in
        let last = row_once v ts fit semicolon_row c2.0 j k (tt, tt) (tt, tt) (tt, tt) (tt, tt) (tt, tt) c2.2 (subst (λ (m : ℕ). AreTokensOf ts m semicolon k) (sym more.1) d2.2) in
        (ap (λ (x : Rattle.spi_heading.proofs.Rows.Values roles_head). x.1.0 ∷ ws) one.0 ∙ ap (λ (l : List SWord). z ∷ l) more.0, last.1)
      where
        any : (ws : List SWord) → AllByRecursion IsAnyWord ws
        any [] = tt
        any (w ∷ ws) = (tt, any ws)

    abbrev span_of : ℕ → ℕ → Span
    span_of from to = record { from = from; to = to }

    span_same : (a b c d : ℕ) → a ≡ b → c ≡ d → span_of a c ≡ span_of b d
    span_same a b c d e f = ap (λ (x : ℕ). span_of x c) e ∙ ap (λ (x : ℕ). span_of b x) f

    body_once : (i : ℕ) (x y : n.Narration) → BodyAt v i x → BodyAt v i y → x.version ≡ y.version → x ≡ y
    body_once i x y a b version =
        let end = length ts in
        let c = stands_cut ts (each_pieces decl_pieces x.decls []) (SharedOn x.shared x.roles x.lines) i end a.stands in
        let d = stands_cut ts (each_pieces decl_pieces y.decls []) (SharedOn y.shared y.roles y.lines) i end b.stands in
        let decls = each_once v ts fit decl_pieces decl_behind (IsDeclared v) (BeginsDecl ts) decl_starts (decl_once v ts fit) x.decls y.decls i c.0 d.0 a.decls b.decls c.1 d.1
        (no_decl x.shared x.roles x.lines c.0 end a.roles c.2) (no_decl y.shared y.roles y.lines d.0 end b.roles d.2) in
        let c2 = stands_cut ts (each_pieces shared_pieces x.shared []) (RolesOn x.roles x.lines) c.0 end c.2 in
        let d2 = stands_cut ts (each_pieces shared_pieces y.shared []) (RolesOn y.roles y.lines) c.0 end (subst (λ (m : ℕ). AreTokensOf ts m (SharedOn y.shared y.roles y.lines) end) (sym decls.1) d.2) in
        let shared = each_once v ts fit shared_pieces shared_behind (IsShared v) (BeginsShared ts) shared_starts (shared_once v ts fit) x.shared y.shared c.0 c2.0 d2.0 a.shared b.shared c2.1 d2.1
        (no_shared x.roles x.lines c2.0 end a.roles c2.2) (no_shared y.roles y.lines d2.0 end b.roles d2.2) in
        let c3 = stands_cut ts (whole_roles x.roles) (each_pieces line_pieces x.lines []) c2.0 end c2.2 in
        let d3 = stands_cut ts (whole_roles y.roles) (each_pieces line_pieces y.lines []) c2.0 end (subst (λ (m : ℕ). AreTokensOf ts m (RolesOn y.roles y.lines) end) (sym shared.1) d2.2) in
        let roles = roles_once x.roles y.roles c2.0 c3.0 d3.0 a.roles b.roles c3.1 d3.1 in
        let lines = each_once v ts fit line_pieces line_behind (IsLine v) (λ i. i < length ts) line_starts (line_once v ts fit) x.lines y.lines c3.0 end end a.lines b.lines c3.2
        (subst (λ (m : ℕ). AreTokensOf ts m (each_pieces line_pieces y.lines []) end) (sym roles.1) d3.2) (λ l. omega (arith, l)) (λ l. omega (arith, l)) in
        let span : x.span ≡ y.span = span_same x.span.from y.span.from x.span.to y.span.to (sym a.from ∙ b.from) (sym a.to ∙ b.to) in
        let one : Span → n.Narration = λ z. record { span = z; version = x.version; decls = x.decls; shared = x.shared; roles = x.roles; lines = x.lines } in
        let two : ℕ → n.Narration = λ z. record { span = y.span; version = z; decls = x.decls; shared = x.shared; roles = x.roles; lines = x.lines } in
        let three : List t.Declared → n.Narration = λ z. record { span = y.span; version = y.version; decls = z; shared = x.shared; roles = x.roles; lines = x.lines } in
        let four : List h.Shared → n.Narration = λ z. record { span = y.span; version = y.version; decls = y.decls; shared = z; roles = x.roles; lines = x.lines } in
        let five : List SWord → n.Narration = λ z. record { span = y.span; version = y.version; decls = y.decls; shared = y.shared; roles = z; lines = x.lines } in
        let six : List n.Line → n.Narration = λ z. record { span = y.span; version = y.version; decls = y.decls; shared = y.shared; roles = y.roles; lines = z } in
        ap one span ∙ ap two version ∙ ap three decls.0 ∙ ap four shared.0 ∙ ap five roles.0 ∙ ap six lines.0

  -- ---- the whole

  abbrev of_version : ℕ → n.Narration → n.Narration
  of_version v x = record { span = x.span; version = v; decls = x.decls; shared = x.shared; roles = x.roles; lines = x.lines }

  abbrev body_of : n.Narration → List Piece
  body_of x = narration_body x.decls x.shared x.roles x.lines

  -- the parts and the end of the whole
  ended : (x : n.Narration) (i : ℕ) → AreTokensOf ts i (body_of x ++ closes x.span.to ∷ []) (length ts) → AreTokensOf ts i (body_of x) (length ts) × (end_before ts (length ts) ≡ x.span.to)
  ended x i f =
      let c = stands_cut ts (body_of x) (closes x.span.to ∷ []) i (length ts) f in
      (subst (λ (m : ℕ). AreTokensOf ts i (body_of x) m) c.2.1 c.1, subst (λ (m : ℕ). end_before ts m ≡ x.span.to) c.2.1 c.2.0)

  abbrev Texts : n.Narration → Type 0
  Texts x = ((x.version ≡ 1) × AreWordsFit false (kinds_of ts) × BodyAt false 0 x) ⊎ ((x.version ≡ 2) × AreWordsFit true (kinds_of ts) × IsThere ts 0 version_word × BodyAt true 3 x)

  fits : (x : n.Narration) (v : Bool) → AreWordsFit v (kinds_in (whole_narration x)) → AreTokensOf ts 0 (whole_narration x) (length ts) → AreWordsFit v (kinds_of ts)
  fits x v words f =
      let e : kinds_of (drop (length ts) ts) ≡ [] = ap kinds_of (drop-length ts) in
      subst (AreWordsFit v) (sym (stands_kinds ts (whole_narration x) 0 (length ts) f ∙ ap (λ (l : List Kind). kinds_in (whole_narration x) ++ l) e ∙ append-nil (kinds_in (whole_narration x)))) words

  first_text : (x : n.Narration) → IsNarration (of_version 1 x) → AreTokensOf ts 0 (whole_narration (of_version 1 x)) (length ts) → AreWordsFit false (kinds_of ts) × BodyAt false 0 x
  first_text x is f =
      let g : AreTokensOf ts 0 (opens x.span.from ∷ (body_of x ++ closes x.span.to ∷ [])) (length ts) =
      subst (λ (l : List Piece). AreTokensOf ts 0 (opens x.span.from ∷ l) (length ts)) (body_are x.decls x.shared x.roles x.lines (closes x.span.to ∷ [])) f in
      let e = ended x 0 g.2 in
      (fits (of_version 1 x) false is.words f, record { decls = is.decls; shared = is.shared; roles = is.roles; lines = is.lines; stands = e.0; from = g.1; to = e.1 })

  later_text : (x : n.Narration) → IsNarration (of_version 2 x) → AreTokensOf ts 0 (whole_narration (of_version 2 x)) (length ts) → AreWordsFit true (kinds_of ts) × IsThere ts 0 version_word × BodyAt true 3 x
  later_text x is f =
      let g = subst (λ (l : List Piece). AreTokensOf ts 0 (opens x.span.from ∷ cell version_word false ∷ cell (K.Number 2) false ∷ cell (K.Mark mark.Semicolon) false ∷ l) (length ts)) (body_are x.decls x.shared x.roles x.lines (closes x.span.to ∷ [])) f in
      let e = ended x 3 g.2.5.5.5 in
      (fits (of_version 2 x) true is.words f, first_there 0 g.2.0 g.2.1 version_word g.2.2 g.2.3, record { decls = is.decls; shared = is.shared; roles = is.roles; lines = is.lines; stands = e.0; from = g.1; to = e.1 })

  text_of : (x : n.Narration) → IsNarrationSpelled x ts → Texts x
  text_of x (is, h) = go is.version
    where
      all : AreTokensOf ts 0 (whole_narration x) (length ts)
      all = standing ts (whole_narration x) 0 (length ts) (omega arith) (omega arith) (subst (λ (l : List Token). Spells l 0 (whole_narration x) ts) (sym (drop-length ts)) h)

      go : (x.version ≡ 1) ⊎ (x.version ≡ 2) → Texts x
      go (inl e) = let f = first_text x (subst (λ (v : ℕ). IsNarration (of_version v x)) e is) (subst (λ (v : ℕ). AreTokensOf ts 0 (whole_narration (of_version v x)) (length ts)) e all) in inl (e, f.0, f.1)
      go (inr e) = let f = later_text x (subst (λ (v : ℕ). IsNarration (of_version v x)) e is) (subst (λ (v : ℕ). AreTokensOf ts 0 (whole_narration (of_version v x)) (length ts)) e all) in inr (e, f.0, f.1, f.2)

  pub narration_once : (x y : n.Narration) → IsNarrationSpelled x ts → IsNarrationSpelled y ts → x ≡ y
  narration_once x y a b = go (text_of x a) (text_of y b)
    where
      go : Texts x → Texts y → x ≡ y
      go (inl (e, fit, p)) (inl (f, fit', q)) = body_once false fit 0 x y p q (e ∙ sym f)
      go (inr (e, fit, there, p)) (inr (f, fit', there', q)) = body_once true fit 3 x y p q (e ∙ sym f)
      go (inl (e, fit, p)) (inr (f, fit', there, q)) = absurd (no_version x.decls x.shared x.roles x.lines 0 (length ts) p.roles p.stands there)
      go (inr (e, fit, there, p)) (inl (f, fit', q)) = absurd (no_version y.decls y.shared y.roles y.lines 0 (length ts) q.roles q.stands there)
