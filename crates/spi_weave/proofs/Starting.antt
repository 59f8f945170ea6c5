-- Where the nodes of a woven tree start: where the nodes and words of its narration do.
use Rattle.std.proofs.Common.{◌≡◌, ℕ, ◌+◌, ◌≤◌, ◌==◌, Bool, true, false, List, [], ◌∷◌, ◌++◌, codes, if◌then◌else◌, length, slice_get, Some, inl, inr, zero, suc, sym, subst}
use Rattle.spi_lex.specs.declared.token.Kind.TheVariants as kinds
use Rattle.spi_lex.specs.declared.token.Mark.TheVariants as mark
use Rattle.spi_lex.specs.declared.token.Reserved.TheVariants as word
use Rattle.spi_text.specs.declared.lines.Span.{Span}
use Rattle.spi_tree.specs.declared.tree.SWord.{SWord}
use Rattle.spi_tree.specs.Trees as t
use Rattle.spi_tree.specs.Pieces.{Piece, opens, cell, closes, Place, at_level, below, ends, a_token, a_number, a_mark, a_reserved, msg_pieces, ty_pieces, named_pieces, words_pieces, proc_pieces, decl_pieces, decls_pieces, version_pieces, opponent_pieces}
use Rattle.spi_parse.specs.Formed.{whole_file}
use Rattle.spi_parts.proofs.Behind.{msg_behind, ty_behind, decl_behind}
use Rattle.spi_heading.specs.Headings.{Shared}
use Rattle.spi_heading.specs.Each.{each_pieces}
use Rattle.spi_heading.specs.Grammar.{shared_pieces}
use Rattle.spi_narrate.specs.Narrations as n
use Rattle.spi_narrate.specs.Grammar.{prefix_pieces, line_pieces, roles_pieces, HasRole, whole_narration}
use Rattle.spi_narrate.specs.declared.fault.NarrateFault.{NarrateFault}
use Rattle.spi_narrate.specs.declared.fault.NarrateFault.TheVariants as faults
use Rattle.spi_narrate.specs.Faults.{FaultItem, declares, speaks, counts, fault_of, shared_items, role_items, line_items, items_of, IsFirstFault}
use Rattle.spi_weave.specs.Starts.{StartBy}
use Rattle.spi_weave.specs.Woven.{prefixed, sent, received, woven_prefix, is_word, role_part, role_process, roles_beside, roles_together, sharing, last_span, woven}
use Rattle.spi_weave.proofs.Forming.{split_same, match_same, decrypt_same, check_same, label_same, cast_same, new_same}

module _ (end : ℕ) where
  abbrev By : List Piece → Type 0
  By ps = StartBy end ps

  by_left : (ps qs : List Piece) → By (ps ++ qs) → By ps
  by_left [] qs h = tt
  by_left (opens from ∷ ps) qs h = (h.0, by_left ps qs h.1)
  by_left (cell k deep ∷ ps) qs h = by_left ps qs h
  by_left (closes to ∷ ps) qs h = by_left ps qs h

  by_right : (ps qs : List Piece) → By (ps ++ qs) → By qs
  by_right [] qs h = h
  by_right (opens from ∷ ps) qs h = by_right ps qs h.1
  by_right (cell k deep ∷ ps) qs h = by_right ps qs h
  by_right (closes to ∷ ps) qs h = by_right ps qs h

  by_both : (ps qs : List Piece) → By ps → By qs → By (ps ++ qs)
  by_both [] qs h g = g
  by_both (opens from ∷ ps) qs h g = (h.0, by_both ps qs h.1 g)
  by_both (cell k deep ∷ ps) qs h g = by_both ps qs h g
  by_both (closes to ∷ ps) qs h g = by_both ps qs h g

  -- what stands behind a message, a type or a declaration may be replaced
  behind_msg : (m : t.Msg) (r : List Piece) → By (msg_pieces 1 m r) → By r
  behind_msg m r h = by_right (msg_pieces 1 m []) r (subst (StartBy end) (msg_behind 1 m r) h)

  behind_ty : (a : t.Ty) (r : List Piece) → By (ty_pieces 1 a r) → By r
  behind_ty a r h = by_right (ty_pieces 1 a []) r (subst (StartBy end) (ty_behind 1 a r) h)

  behind_decl : (d : t.Declared) (r : List Piece) → By (decl_pieces d r) → By r
  behind_decl d r h = by_right (decl_pieces d []) r (subst (StartBy end) (decl_behind d r) h)

  abbrev Goes : List Piece → List Piece → Type 0
  Goes x y = StartBy end x → StartBy end y

  msg_then : (m : t.Msg) (r q : List Piece) → Goes r q → Goes (msg_pieces 1 m r) (msg_pieces 1 m q)
  msg_then m r q f h = subst (StartBy end) (sym (msg_behind 1 m q))
      (by_both (msg_pieces 1 m []) q (by_left (msg_pieces 1 m []) r (subst (StartBy end) (msg_behind 1 m r) h)) (f (behind_msg m r h)))

  ty_then : (a : t.Ty) (r q : List Piece) → Goes r q → Goes (ty_pieces 1 a r) (ty_pieces 1 a q)
  ty_then a r q f h = subst (StartBy end) (sym (ty_behind 1 a q))
      (by_both (ty_pieces 1 a []) q (by_left (ty_pieces 1 a []) r (subst (StartBy end) (ty_behind 1 a r) h)) (f (behind_ty a r h)))

  decl_then : (d : t.Declared) (r q : List Piece) → Goes r q → Goes (decl_pieces d r) (decl_pieces d q)
  decl_then d r q f h = subst (StartBy end) (sym (decl_behind d q))
      (by_both (decl_pieces d []) q (by_left (decl_pieces d []) r (subst (StartBy end) (decl_behind d r) h)) (f (behind_decl d r h)))

  behind_named : (w : SWord) (a : t.Ty) (r : List Piece) → By (named_pieces w a r) → By r
  behind_named w a r h = behind_ty a r h.1

  goes_on : (p : Piece) (x y : List Piece) → Goes x y → Goes (p ∷ x) (p ∷ y)
  goes_on (opens from) x y f h = (h.0, f h.1)
  goes_on (cell k deep) x y f h = f h
  goes_on (closes to) x y f h = f h

  skips : (to : ℕ) (x y : List Piece) → Goes x y → Goes (closes to ∷ x) y
  skips to x y f h = f h

  -- ---- processes

  abbrev Starts : t.Proc → Type 0
  Starts p = (a : Place) (r : List Piece) → StartBy end r → StartBy end (proc_pieces a p r)

  with_prefix : (s : Span) (f : n.Prefix) (p : t.Proc) (r0 : List Piece) → s.from ≤ end → By (prefix_pieces f r0) → Starts p → Starts (prefixed s f p)
  with_prefix s (n.split at m x b y c) p r0 l h g a r e = (l, split_same Goes goes_on skips at.to m x b y c r0 (proc_pieces (below a) p (ends s r)) (λ z. g (below a) (ends s r) e) h.1)
  with_prefix s (n.match at m x b k y c) p r0 l h g a r e = (l, match_same Goes goes_on skips at.to m x b k y c r0 (proc_pieces (below a) p (ends s r)) (λ z. g (below a) (ends s r) e) h.1)
  with_prefix s (n.decrypt at m x b k) p r0 l h g a r e = (l, decrypt_same Goes goes_on skips at.to m x b k r0 (proc_pieces (below a) p (ends s r)) (λ z. g (below a) (ends s r) e) h.1)
  with_prefix s (n.check at m k) p r0 l h g a r e = (l, check_same Goes goes_on skips at.to m k r0 (proc_pieces (below a) p (ends s r)) (λ z. g (below a) (ends s r) e) h.1)
  with_prefix s (n.begin at m) p r0 l h g a r e = (l, label_same Goes goes_on skips at.to m r0 (proc_pieces (below a) p (ends s r)) (λ z. g (below a) (ends s r) e) h.1)
  with_prefix s (n.end at m) p r0 l h g a r e = (l, label_same Goes goes_on skips at.to m r0 (proc_pieces (below a) p (ends s r)) (λ z. g (below a) (ends s r) e) h.1)
  with_prefix s (n.end_many at m) p r0 l h g a r e = (l, label_same Goes goes_on skips at.to m r0 (proc_pieces (below a) p (ends s r)) (λ z. g (below a) (ends s r) e) h.1)
  with_prefix s (n.cast at m x b) p r0 l h g a r e = (l, cast_same Goes goes_on skips at.to m x b r0 (proc_pieces (below a) p (ends s r)) (λ z. g (below a) (ends s r) e) h.1)
  with_prefix s (n.new at x b) p r0 l h g a r e = (l, new_same Goes goes_on skips at.to x b r0 (proc_pieces (below a) p (ends s r)) (λ z. g (below a) (ends s r) e) h.1)

  -- what stands behind a line
  behind_prefix : (f : n.Prefix) (r : List Piece) → By (prefix_pieces f r) → By r
  behind_prefix (n.split at m x b y c) r h = behind_named y c _ (behind_named x b _ (behind_msg m _ h.1))
  behind_prefix (n.match at m x b k y c) r h = behind_named y c _ (behind_msg k _ (behind_named x b _ (behind_msg m _ h.1)))
  behind_prefix (n.decrypt at m x b k) r h = behind_msg k _ (behind_named x b _ (behind_msg m _ h.1))
  behind_prefix (n.check at m k) r h = behind_msg k _ (behind_msg m _ h.1)
  behind_prefix (n.begin at m) r h = behind_msg m _ h.1
  behind_prefix (n.end at m) r h = behind_msg m _ h.1
  behind_prefix (n.end_many at m) r h = behind_msg m _ h.1
  behind_prefix (n.cast at m x b) r h = behind_named x b _ (behind_msg m _ h.1)
  behind_prefix (n.new at x b) r h = behind_named x b _ h.1

  pub behind_line : (l : n.Line) (r : List Piece) → By (line_pieces l r) → By r
  behind_line (n.local s w f) r h = behind_prefix f _ h.1.1
  behind_line (n.pass s from to c m x) r h = (behind_msg m _ h.1.1.1.1).1

  starts_done : (b : Bool) (s : Span) (f : n.Prefix) (p : t.Proc) (r0 : List Piece) → s.from ≤ end → By (prefix_pieces f r0) → Starts p → Starts (woven_prefix b s f p)
  starts_done true s f p r0 l h g = with_prefix s f p r0 l h g
  starts_done false s f p r0 l h g = g

  starts_received : (b : Bool) (s : Span) (c x : SWord) (p : t.Proc) → s.from ≤ end → c.span.from ≤ end → x.span.from ≤ end → Starts p → Starts (received b s c x p)
  starts_received true s c x p l i j g a r e = (l, (i, (i, (j, (j, g (below a) (ends s r) e)))))
  starts_received false s c x p l i j g a r e = g a r e

  starts_sent : (b : Bool) (s : Span) (c : SWord) (m : t.Msg) (p : t.Proc) (r0 : List Piece) → s.from ≤ end → c.span.from ≤ end → By (msg_pieces 1 m r0) → Starts p → Starts (sent b s c m p)
  starts_sent true s c m p r0 l i h g a r e = (l, (i, (i, msg_then m r0 (a_mark mark.Semicolon (proc_pieces (below a) p (ends s r))) (λ z. g (below a) (ends s r) e) h)))
  starts_sent false s c m p r0 l i h g a r e = g a r e

  starts_part : (w : SWord) (l : n.Line) (p : t.Proc) (r0 : List Piece) → By (line_pieces l r0) → Starts p → Starts (role_part w l p)
  starts_part w (n.local s who f) p r0 h g = starts_done (is_word who w) s f p _ h.0 h.1.1 g
  starts_part w (n.pass s from to c m x) p r0 h g =
      let behind = behind_msg m _ h.1.1.1.1 in
      starts_sent (is_word from w) s c m (received (is_word to w) s c x p) _ h.0 h.1.1.1.0 h.1.1.1.1 (starts_received (is_word to w) s c x p h.0 h.1.1.1.0 behind.0 g)

  starts_role : (w : SWord) (ls : List n.Line) (r0 : List Piece) → w.span.from ≤ end → By (each_pieces line_pieces ls r0) → Starts (role_process w ls)
  starts_role w [] r0 l h a r e = (l, e)
  starts_role w (x ∷ ls) r0 l h a r e = starts_part w x (role_process w ls) (each_pieces line_pieces ls r0) h (starts_role w ls r0 l (behind_line x (each_pieces line_pieces ls r0) h)) a r e

  -- roles beside one another
  module _ (ls : List n.Line) (r0 : List Piece) (lines : By (each_pieces line_pieces ls r0)) where
    starts_beside : (w : SWord) (ws : List SWord) (r1 : List Piece) → w.span.from ≤ end → By (words_pieces ws r1) → Starts (roles_beside ls w ws)
    starts_beside w [] r1 l h a r e = starts_role w ls r0 l lines a r e
    starts_beside w (q ∷ ws) r1 l h a r e = (l, starts_role w ls r0 l lines _ _ (starts_beside q ws r1 h.0 h.1 _ _ e))

    starts_together : (w : SWord) (ws : List SWord) (r1 : List Piece) → w.span.from ≤ end → By (words_pieces ws r1) → Starts (roles_together ls (w ∷ ws))
    starts_together w [] r1 l h a r e = starts_role w ls r0 l lines a r e
    starts_together w (q ∷ ws) r1 l h a r e = (l, starts_role w ls r0 l lines _ _ (starts_beside q ws r1 h.0 h.1 _ _ e))

  starts_sharing : (xs : List Shared) (p : t.Proc) (r0 : List Piece) → By (each_pieces shared_pieces xs r0) → Starts p → Starts (sharing xs p)
  starts_sharing [] p r0 h g a r e = g a r e
  starts_sharing (x ∷ xs) p r0 h g a r e =
      let more = starts_sharing xs p r0 (behind_named x.name x.ty _ h.1) g (below a) (ends x.span r) e in
      (h.0, (h.1.0, ty_then x.ty (a_mark mark.Semicolon (ends x.span (each_pieces shared_pieces xs r0))) (a_mark mark.ParenClose (a_mark mark.Semicolon (proc_pieces (below a) (sharing xs p) (ends x.span r)))) (λ z. more) h.1.1))

  -- ---- the whole

  behind_decls : (ds : List t.Declared) (r : List Piece) → By (each_pieces decl_pieces ds r) → By r
  behind_decls [] r h = h
  behind_decls (d ∷ ds) r h = behind_decls ds r (behind_decl d _ h)

  decls_starts : (ds : List t.Declared) (r q : List Piece) → By q → By (each_pieces decl_pieces ds r) → By (decls_pieces ds q)
  decls_starts [] r q f h = f
  decls_starts (d ∷ ds) r q f h = decl_then d (each_pieces decl_pieces ds r) (decls_pieces ds q) (decls_starts ds r q f) h

  behind_all_shared : (xs : List Shared) (r : List Piece) → By (each_pieces shared_pieces xs r) → By r
  behind_all_shared [] r h = h
  behind_all_shared (x ∷ xs) r h = behind_all_shared xs r (behind_named x.name x.ty _ h.1)

  behind_words : (ws : List SWord) (r : List Piece) → By (words_pieces ws r) → By r
  behind_words [] r h = h
  behind_words (w ∷ ws) r h = behind_words ws r h.1

  last_starts : (s : Span) (ws : List SWord) (r : List Piece) → s.from ≤ end → By (words_pieces ws r) → (last_span s ws).from ≤ end
  last_starts s [] r l h = l
  last_starts s (w ∷ ws) r l h = last_starts w.span ws r h.0 h.1

  abbrev version_on : List Piece → List Piece
  version_on r = a_token (kinds.Word (codes "version")) (a_number 2 (a_mark mark.Semicolon r))

  version_then : (v : ℕ) (r q : List Piece) → Goes r q → Goes (version_pieces v r) (version_pieces v q)
  version_then v r q f h = go (v == 2) h
    where
      go : (b : Bool) → StartBy end (if b then version_on r else r) → StartBy end (if b then version_on q else q)
      go true k = f k
      go false k = f k

  abbrev of_roles : n.Narration → List SWord → n.Narration
  of_roles x ws = record { span = x.span; version = x.version; decls = x.decls; shared = x.shared; roles = ws; lines = x.lines }

  body_starts : (x : n.Narration) (w : SWord) (ws : List SWord)
      → By (each_pieces decl_pieces x.decls (each_pieces shared_pieces x.shared (roles_pieces (w ∷ ws) (each_pieces line_pieces x.lines (ends x.span [])))))
      → By (decls_pieces x.decls (a_reserved word.Process (proc_pieces (at_level 0) (woven (of_roles x (w ∷ ws))).process (opponent_pieces (woven (of_roles x (w ∷ ws))).opponent (ends x.span [])))))
  body_starts x w ws h =
      let shared = behind_decls x.decls _ h in
      let roles = behind_all_shared x.shared _ shared in
      let lines = behind_words ws _ roles.1 in
      let process = starts_sharing x.shared (roles_together x.lines (w ∷ ws)) _ shared (starts_together x.lines (ends x.span []) lines w ws _ roles.0 roles.1) in
      decls_starts x.decls _ _ (process (at_level 0) _ (last_starts w.span ws _ roles.0 roles.1, tt)) h

  starts : (x : n.Narration) (ws : List SWord) → HasRole ws → By (whole_narration (of_roles x ws)) → By (whole_file (woven (of_roles x ws)))
  starts x [] has h = absurd (let z = has.2 in cc)
  starts x (w ∷ ws) has h = (h.0, version_then x.version _ _ (body_starts x w ws) h.1)

  -- ---- where the parts of a narration start

  behind_version : (v : ℕ) (r : List Piece) → By (version_pieces v r) → By r
  behind_version v r h = go (v == 2) h
    where
      go : (b : Bool) → StartBy end (if b then version_on r else r) → StartBy end r
      go true k = k
      go false k = k

  behind_roles : (ws : List SWord) (r : List Piece) → By (roles_pieces ws r) → By r
  behind_roles [] r h = h
  behind_roles (w ∷ ws) r h = behind_words ws _ h.1

  abbrev roles_on : n.Narration → List Piece
  roles_on x = roles_pieces x.roles (each_pieces line_pieces x.lines (ends x.span []))

  shared_of : (x : n.Narration) → By (whole_narration x) → By (each_pieces shared_pieces x.shared (roles_on x))
  shared_of x h = behind_decls x.decls _ (behind_version x.version _ h.1)

  pub lines_of : (x : n.Narration) → By (whole_narration x) → By (each_pieces line_pieces x.lines (ends x.span []))
  lines_of x h = behind_roles x.roles _ (behind_all_shared x.shared _ (shared_of x h))

  -- items, of which the first that has a fault says where it is
  abbrev item_from : FaultItem → ℕ
  item_from (declares before w) = w.span.from
  item_from (speaks roles w) = w.span.from
  item_from (counts i limit all s) = s.from

  abbrev AllBy : List FaultItem → Type 0
  AllBy [] = Unit {0}
  AllBy (x ∷ xs) = (item_from x ≤ end) × AllBy xs

  both_by : (xs ys : List FaultItem) → AllBy xs → AllBy ys → AllBy (xs ++ ys)
  both_by [] ys h g = g
  both_by (x ∷ xs) ys h g = (h.0, both_by xs ys h.1 g)

  shared_by : (i all : ℕ) (ss : List Shared) (r : List Piece) → By (each_pieces shared_pieces ss r) → AllBy (shared_items i all ss)
  shared_by i all [] r h = tt
  shared_by i all (s ∷ ss) r h = (h.0, shared_by (i + 1) all ss r (behind_named s.name s.ty _ h.1))

  words_by : (i all : ℕ) (before ws : List SWord) (r : List Piece) → By (words_pieces ws r) → AllBy (role_items i all before ws)
  words_by i all before [] r h = tt
  words_by i all before (w ∷ ws) r h = (h.0, (h.0, words_by (i + 1) all (before ++ w ∷ []) ws r h.1))

  roles_by : (i all : ℕ) (before ws : List SWord) (r : List Piece) → By (roles_pieces ws r) → AllBy (role_items i all before ws)
  roles_by i all before [] r h = tt
  roles_by i all before (w ∷ ws) r h = (h.0, (h.0, words_by (i + 1) all (before ++ w ∷ []) ws _ h.1))

  lines_by : (i all : ℕ) (roles : List SWord) (ls : List n.Line) (r : List Piece) → By (each_pieces line_pieces ls r) → AllBy (line_items i all roles ls)
  lines_by i all roles [] r h = tt
  lines_by i all roles (n.local s w f ∷ ls) r h = (h.1.0, (h.0, lines_by (i + 1) all roles ls r (behind_line (n.local s w f) _ h)))
  lines_by i all roles (n.pass s from to c m x ∷ ls) r h = (h.1.0, (h.0, (h.1.1.0, lines_by (i + 1) all roles ls r (behind_line (n.pass s from to c m x) _ h))))

  items_by : (x : n.Narration) → By (whole_narration x) → AllBy (items_of x)
  items_by x h =
      let shared = shared_of x h in
      let roles = behind_all_shared x.shared _ shared in
      both_by (shared_items 0 (length x.shared) x.shared) (role_items 0 (length x.roles) [] x.roles ++ line_items 0 (length x.lines) x.roles x.lines) (shared_by 0 (length x.shared) x.shared _ shared)
      (both_by (role_items 0 (length x.roles) [] x.roles) (line_items 0 (length x.lines) x.roles x.lines) (roles_by 0 (length x.roles) [] x.roles _ roles) (lines_by 0 (length x.lines) x.roles x.lines _ (lines_of x h)))

  abbrev pub fault_from : NarrateFault → ℕ
  fault_from (faults.Syntax token) = 0
  fault_from (faults.TooDeep token) = 0
  fault_from (faults.UnknownRole s w) = s.from
  fault_from (faults.RoleTwice s w) = s.from
  fault_from (faults.NarrationTooLarge s count) = s.from
  fault_from faults.NoMemory = 0

  fault_by : (x : FaultItem) → item_from x ≤ end → fault_from (fault_of x) ≤ end
  fault_by (declares before w) h = h
  fault_by (speaks roles w) h = h
  fault_by (counts i limit all s) h = h

  first_by : (xs : List FaultItem) (f : NarrateFault) → AllBy xs → IsFirstFault xs f → fault_from f ≤ end
  first_by [] f h g = absurd g
  first_by (x ∷ xs) f h (inl g) = subst (λ (z : NarrateFault). fault_from z ≤ end) (sym g.1) (fault_by x h.0)
  first_by (x ∷ xs) f h (inr g) = first_by xs f h.1 g.1

  pub fault_starts : (x : n.Narration) (f : NarrateFault) → By (whole_narration x) → IsFirstFault (items_of x) f → fault_from f ≤ end
  fault_starts x f h g = first_by (items_of x) f (items_by x h) g

  -- a line, and the word after `on`
  pub channel_starts : (before after : List n.Line) (s : Span) (from to c : SWord) (m : t.Msg) (x : SWord) (r : List Piece) → By (each_pieces line_pieces (before ++ n.pass s from to c m x ∷ after) r) → c.span.from ≤ end
  channel_starts [] after s from to c m x r h = h.1.1.1.0
  channel_starts (l ∷ before) after s from to c m x r h = channel_starts before after s from to c m x r (behind_line l _ h)

  abbrev pub line_from : n.Line → ℕ
  line_from (n.local s w f) = s.from
  line_from (n.pass s from to c m x) = s.from

  one_starts : (l : n.Line) (r : List Piece) → By (line_pieces l r) → line_from l ≤ end
  one_starts (n.local s w f) r h = h.0
  one_starts (n.pass s from to c m x) r h = h.0

  pub line_starts : (ls : List n.Line) (i : ℕ) (l : n.Line) (r : List Piece) → slice_get ls i ≡ Some l → By (each_pieces line_pieces ls r) → line_from l ≤ end
  line_starts [] i l r e h = absurd (let z = e in cc)
  line_starts (k ∷ ls) zero l r e h = let same : k ≡ l = cc in subst (λ (z : n.Line). line_from z ≤ end) same (one_starts k _ h)
  line_starts (k ∷ ls) (suc i) l r e h = line_starts ls i l r e (behind_line k _ h)

pub woven_starts : (x : n.Narration) (end : ℕ) → HasRole x.roles → StartBy end (whole_narration x) → StartBy end (whole_file (woven x))
woven_starts x end has h = starts end x x.roles has h
