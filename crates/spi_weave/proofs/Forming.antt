-- The woven tree of a formed narration within the limits is formed and within them, and its tokens are those of its version.
use Rattle.std.proofs.Common.{◌≡◌, ℕ, suc, ◌+◌, ◌*◌, ◌≤◌, Bool, true, false, List, [], ◌∷◌, ◌++◌, length, refl, sym, subst, arith}
use Rattle.std.specs.Prelude.{nat_lt, ⊤}
use Rattle.std.specs.List.{AllByRecursion}
use Rattle.std.proofs.lemmas.Bool.{le-ltb}
use Rattle.spi_text.specs.declared.lines.Span.{Span}
use Rattle.spi_lex.specs.declared.token.Kind.{Kind}
use Rattle.spi_lex.specs.declared.token.Kind.TheVariants as kinds
use Rattle.spi_lex.specs.declared.token.Reserved.{Reserved}
use Rattle.spi_lex.specs.declared.token.Reserved.TheVariants as word
use Rattle.spi_lex.specs.declared.token.Mark.TheVariants as mark
use Rattle.spi_lex.specs.Words.{words_of}
use Rattle.spi_lex.specs.Writing.{IsKind}
use Rattle.spi_tree.specs.declared.tree.SWord.{SWord}
use Rattle.spi_tree.specs.Trees as t
use Rattle.spi_tree.specs.Pieces.{Piece, opens, cell, closes, Place, in_seq, at_level, nesting_of, below, ends, a_mark, msg_pieces, ty_pieces, named_pieces, proc_pieces, decl_pieces, a_reserved}
use Rattle.spi_tree.specs.Formed.{IsMsg, IsProc}
use Rattle.spi_tree.proofs.Same.{same_msg, same_named}
use Rattle.spi_parts.proofs.Behind.{msg_behind, ty_behind, decl_behind}
use Rattle.spi_heading.specs.Headings.{Shared}
use Rattle.spi_heading.specs.Each.{each_pieces}
use Rattle.spi_heading.specs.Grammar.{shared_pieces, IsShared}
use Rattle.spi_narrate.specs.Narrations as n
use Rattle.spi_narrate.specs.Grammar.{prefix_pieces, line_pieces, IsPrefix, IsLine}
use Rattle.spi_weave.specs.Woven.{prefixed, name_spelled, sent, received, woven_prefix, is_word, role_part, role_process, roles_beside, roles_together, sharing}

-- ---- two lists of pieces, of which the first may have an end more

module _ (R : List Piece → List Piece → Type 0) (cons : (p : Piece) (x y : List Piece) → R x y → R (p ∷ x) (p ∷ y)) (skip : (to : ℕ) (x y : List Piece) → R x y → R (closes to ∷ x) y) where
  one : {p : Piece} {x y : List Piece} → R x y → R (p ∷ x) (p ∷ y)
  one {p} {x} {y} h = cons p x y h

  named : (w : SWord) (a : t.Ty) {x y : List Piece} → R x y → R (named_pieces w a x) (named_pieces w a y)
  named w a h = same_named R cons w a h

  message : (m : t.Msg) {x y : List Piece} → R x y → R (msg_pieces 1 m x) (msg_pieces 1 m y)
  message m h = same_msg R cons 1 m h

  -- the tokens behind the first of a form are those of its prefix
  pub split_same : (to : ℕ) (m : t.Msg) (x : SWord) (b : t.Ty) (y : SWord) (c : t.Ty) (r q : List Piece) → R r (a_mark mark.Semicolon q)
      → R (msg_pieces 1 m (a_reserved word.Is (a_mark mark.ParenOpen (named_pieces x b (a_mark mark.Comma (named_pieces y c (a_mark mark.ParenClose (closes to ∷ r))))))))
      (msg_pieces 1 m (a_reserved word.Is (a_mark mark.ParenOpen (named_pieces x b (a_mark mark.Comma (named_pieces y c (a_mark mark.ParenClose (a_mark mark.Semicolon q))))))))
  split_same to m x b y c r q h = message m (one (one (named x b (one (named y c (one (skip to r _ h)))))))

  pub match_same : (to : ℕ) (m : t.Msg) (x : SWord) (b : t.Ty) (k : t.Msg) (y : SWord) (c : t.Ty) (r q : List Piece) → R r (a_mark mark.Semicolon q)
      → R (msg_pieces 1 m (a_reserved word.Is (a_mark mark.ParenOpen (named_pieces x b (a_mark mark.Equals (msg_pieces 1 k (a_mark mark.Comma (named_pieces y c (a_mark mark.ParenClose (closes to ∷ r))))))))))
      (msg_pieces 1 m (a_reserved word.Is (a_mark mark.ParenOpen (named_pieces x b (a_mark mark.Equals (msg_pieces 1 k (a_mark mark.Comma (named_pieces y c (a_mark mark.ParenClose (a_mark mark.Semicolon q))))))))))
  match_same to m x b k y c r q h = message m (one (one (named x b (one (message k (one (named y c (one (skip to r _ h)))))))))

  pub decrypt_same : (to : ℕ) (m : t.Msg) (x : SWord) (b : t.Ty) (k : t.Msg) (r q : List Piece) → R r (a_mark mark.Semicolon q)
      → R (msg_pieces 1 m (a_reserved word.Is (a_mark mark.BraceOpen (named_pieces x b (a_mark mark.BraceClose (msg_pieces 1 k (closes to ∷ r)))))))
      (msg_pieces 1 m (a_reserved word.Is (a_mark mark.BraceOpen (named_pieces x b (a_mark mark.BraceClose (msg_pieces 1 k (a_mark mark.Semicolon q)))))))
  decrypt_same to m x b k r q h = message m (one (one (named x b (one (message k (skip to r _ h))))))

  pub check_same : (to : ℕ) (m k : t.Msg) (r q : List Piece) → R r (a_mark mark.Semicolon q)
      → R (msg_pieces 1 m (a_reserved word.Is (msg_pieces 1 k (closes to ∷ r)))) (msg_pieces 1 m (a_reserved word.Is (msg_pieces 1 k (a_mark mark.Semicolon q))))
  check_same to m k r q h = message m (one (message k (skip to r _ h)))

  pub label_same : (to : ℕ) (m : t.Msg) (r q : List Piece) → R r (a_mark mark.Semicolon q) → R (msg_pieces 1 m (closes to ∷ r)) (msg_pieces 1 m (a_mark mark.Semicolon q))
  label_same to m r q h = message m (skip to r _ h)

  pub cast_same : (to : ℕ) (m : t.Msg) (x : SWord) (b : t.Ty) (r q : List Piece) → R r (a_mark mark.Semicolon q)
      → R (msg_pieces 1 m (a_reserved word.Is (a_mark mark.ParenOpen (named_pieces x b (a_mark mark.ParenClose (closes to ∷ r))))))
      (msg_pieces 1 m (a_reserved word.Is (a_mark mark.ParenOpen (named_pieces x b (a_mark mark.ParenClose (a_mark mark.Semicolon q))))))
  cast_same to m x b r q h = message m (one (one (named x b (one (skip to r _ h)))))

  pub new_same : (to : ℕ) (x : SWord) (b : t.Ty) (r q : List Piece) → R r (a_mark mark.Semicolon q)
      → R (a_mark mark.ParenOpen (named_pieces x b (a_mark mark.ParenClose (closes to ∷ r)))) (a_mark mark.ParenOpen (named_pieces x b (a_mark mark.ParenClose (a_mark mark.Semicolon q))))
  new_same to x b r q h = one (named x b (one (skip to r _ h)))

-- each token is one of the version, and no node above a limit starts at it
abbrev pub IsFine : Bool → List Piece → Type 0
IsFine later [] = ⊤
IsFine later (opens from ∷ ps) = IsFine later ps
IsFine later (cell k deep ∷ ps) = IsKind (words_of later) k × (deep ≡ false) × IsFine later ps
IsFine later (closes to ∷ ps) = IsFine later ps

-- what both versions reserve
pub known_in_both : (w : Reserved) → IsKind (words_of true) (kinds.Reserved w) → IsKind (words_of false) (kinds.Reserved w) → (later : Bool) → IsKind (words_of later) (kinds.Reserved w)
known_in_both w second first true = second
known_in_both w second first false = first

module _ (later : Bool) where
  fine_left : (ps qs : List Piece) → IsFine later (ps ++ qs) → IsFine later ps
  fine_left [] qs h = tt
  fine_left (opens from ∷ ps) qs h = fine_left ps qs h
  fine_left (cell k deep ∷ ps) qs h = (h.0, h.1, fine_left ps qs h.2)
  fine_left (closes to ∷ ps) qs h = fine_left ps qs h

  fine_right : (ps qs : List Piece) → IsFine later (ps ++ qs) → IsFine later qs
  fine_right [] qs h = h
  fine_right (opens from ∷ ps) qs h = fine_right ps qs h
  fine_right (cell k deep ∷ ps) qs h = fine_right ps qs h.2
  fine_right (closes to ∷ ps) qs h = fine_right ps qs h

  fine_both : (ps qs : List Piece) → IsFine later ps → IsFine later qs → IsFine later (ps ++ qs)
  fine_both [] qs h g = g
  fine_both (opens from ∷ ps) qs h g = fine_both ps qs h g
  fine_both (cell k deep ∷ ps) qs h g = (h.0, h.1, fine_both ps qs h.2 g)
  fine_both (closes to ∷ ps) qs h g = fine_both ps qs h g

  -- what stands behind a message, a type or a declaration is fine where the whole is, and may be replaced
  behind_msg : (m : t.Msg) (r : List Piece) → IsFine later (msg_pieces 1 m r) → IsFine later r
  behind_msg m r h = fine_right (msg_pieces 1 m []) r (subst (IsFine later) (msg_behind 1 m r) h)

  behind_ty : (a : t.Ty) (r : List Piece) → IsFine later (ty_pieces 1 a r) → IsFine later r
  behind_ty a r h = fine_right (ty_pieces 1 a []) r (subst (IsFine later) (ty_behind 1 a r) h)

  pub behind_decl : (d : t.Declared) (r : List Piece) → IsFine later (decl_pieces d r) → IsFine later r
  behind_decl d r h = fine_right (decl_pieces d []) r (subst (IsFine later) (decl_behind d r) h)

  msg_then : (m : t.Msg) (r q : List Piece) → (IsFine later r → IsFine later q) → IsFine later (msg_pieces 1 m r) → IsFine later (msg_pieces 1 m q)
  msg_then m r q f h = subst (IsFine later) (sym (msg_behind 1 m q))
      (fine_both (msg_pieces 1 m []) q (fine_left (msg_pieces 1 m []) r (subst (IsFine later) (msg_behind 1 m r) h)) (f (behind_msg m r h)))

  ty_then : (a : t.Ty) (r q : List Piece) → (IsFine later r → IsFine later q) → IsFine later (ty_pieces 1 a r) → IsFine later (ty_pieces 1 a q)
  ty_then a r q f h = subst (IsFine later) (sym (ty_behind 1 a q))
      (fine_both (ty_pieces 1 a []) q (fine_left (ty_pieces 1 a []) r (subst (IsFine later) (ty_behind 1 a r) h)) (f (behind_ty a r h)))

  pub decl_then : (d : t.Declared) (r q : List Piece) → (IsFine later r → IsFine later q) → IsFine later (decl_pieces d r) → IsFine later (decl_pieces d q)
  decl_then d r q f h = subst (IsFine later) (sym (decl_behind d q))
      (fine_both (decl_pieces d []) q (fine_left (decl_pieces d []) r (subst (IsFine later) (decl_behind d r) h)) (f (behind_decl d r h)))

  past : (k : Kind) (deep : Bool) (r q : List Piece) → (IsFine later r → IsFine later q) → IsFine later (cell k deep ∷ r) → IsFine later (cell k deep ∷ q)
  past k deep r q f h = (h.0, h.1, f h.2)

  named_then : (w : SWord) (a : t.Ty) (r q : List Piece) → (IsFine later r → IsFine later q) → IsFine later (named_pieces w a r) → IsFine later (named_pieces w a q)
  named_then w a r q f h = (h.0, h.1, (h.2.0, h.2.1, ty_then a r q f h.2.2))

  behind_named : (w : SWord) (a : t.Ty) (r : List Piece) → IsFine later (named_pieces w a r) → IsFine later r
  behind_named w a r h = behind_ty a r h.2.2

  pub shallow : (i : ℕ) → i ≤ 500 → nat_lt 500 i ≡ false
  shallow i h = le-ltb 500 i h

  -- a process at a place is formed, and all its tokens are fine
  abbrev pub IsFineAt : Place → t.Proc → Type 0
  IsFineAt a p = IsProc later a p × ((r : List Piece) → IsFine later r → IsFine later (proc_pieces a p r))

  -- the rest of a form behind its head
  tail_fine : (a : Place) (s : Span) (p : t.Proc) (r : List Piece) → IsFineAt (below a) p → IsFine later r → IsFine later (a_mark mark.Semicolon (proc_pieces (below a) p (ends s r)))
  tail_fine a s p r g e = (tt, refl, g.1 (ends s r) e)

  -- a form of a role by itself
  abbrev Goes : List Piece → List Piece → Type 0
  Goes x y = IsFine later x → IsFine later y

  goes_on : (p : Piece) (x y : List Piece) → Goes x y → Goes (p ∷ x) (p ∷ y)
  goes_on (opens from) x y f h = f h
  goes_on (cell k deep) x y f h = (h.0, h.1, f h.2)
  goes_on (closes to) x y f h = f h

  skips : (to : ℕ) (x y : List Piece) → Goes x y → Goes (closes to ∷ x) y
  skips to x y f h = f h

  with_prefix : (a : Place) (s : Span) (f : n.Prefix) (p : t.Proc) (r0 : List Piece) → nesting_of a ≤ 500 → IsPrefix later f → IsFine later (prefix_pieces f r0) → IsFineAt (below a) p → IsFineAt a (prefixed s f p)
  with_prefix a s (n.split at m x b y c) p r0 u i h g =
      ((i.0, i.1, i.2, g.0), λ r e. (h.0, shallow (nesting_of a) u, split_same Goes goes_on skips at.to m x b y c r0 (proc_pieces (below a) p (ends s r)) (λ z. tail_fine a s p r g e) h.2))
  with_prefix a s (n.match at m x b k y c) p r0 u i h g =
      ((i.0, i.1, i.2, i.3, g.0), λ r e. (h.0, shallow (nesting_of a) u, match_same Goes goes_on skips at.to m x b k y c r0 (proc_pieces (below a) p (ends s r)) (λ z. tail_fine a s p r g e) h.2))
  with_prefix a s (n.decrypt at m x b k) p r0 u i h g =
      ((i.0, i.1, i.2, g.0), λ r e. (h.0, shallow (nesting_of a) u, decrypt_same Goes goes_on skips at.to m x b k r0 (proc_pieces (below a) p (ends s r)) (λ z. tail_fine a s p r g e) h.2))
  with_prefix a s (n.check at m k) p r0 u i h g =
      ((i.0, i.1, g.0), λ r e. (h.0, shallow (nesting_of a) u, check_same Goes goes_on skips at.to m k r0 (proc_pieces (below a) p (ends s r)) (λ z. tail_fine a s p r g e) h.2))
  with_prefix a s (n.begin at m) p r0 u i h g =
      ((i, g.0), λ r e. (h.0, shallow (nesting_of a) u, label_same Goes goes_on skips at.to m r0 (proc_pieces (below a) p (ends s r)) (λ z. tail_fine a s p r g e) h.2))
  with_prefix a s (n.end at m) p r0 u i h g =
      ((i, g.0), λ r e. (h.0, shallow (nesting_of a) u, label_same Goes goes_on skips at.to m r0 (proc_pieces (below a) p (ends s r)) (λ z. tail_fine a s p r g e) h.2))
  with_prefix a s (n.end_many at m) p r0 u i h g =
      ((i.0, i.1, g.0), λ r e. (h.0, shallow (nesting_of a) u, label_same Goes goes_on skips at.to m r0 (proc_pieces (below a) p (ends s r)) (λ z. tail_fine a s p r g e) h.2))
  with_prefix a s (n.cast at m x b) p r0 u i h g =
      ((i.0, i.1, g.0), λ r e. (h.0, shallow (nesting_of a) u, cast_same Goes goes_on skips at.to m x b r0 (proc_pieces (below a) p (ends s r)) (λ z. tail_fine a s p r g e) h.2))
  with_prefix a s (n.new at x b) p r0 u i h g =
      ((i, g.0), λ r e. (h.0, shallow (nesting_of a) u, new_same Goes goes_on skips at.to x b r0 (proc_pieces (below a) p (ends s r)) (λ z. tail_fine a s p r g e) h.2))

  -- what stands behind a line
  behind_prefix : (f : n.Prefix) (r : List Piece) → IsFine later (prefix_pieces f r) → IsFine later r
  behind_prefix (n.split at m x b y c) r h = (behind_named y c _ ((behind_named x b _ ((behind_msg m _ h.2).2.2)).2)).2
  behind_prefix (n.match at m x b k y c) r h = (behind_named y c _ ((behind_msg k _ ((behind_named x b _ ((behind_msg m _ h.2).2.2)).2)).2)).2
  behind_prefix (n.decrypt at m x b k) r h = behind_msg k _ ((behind_named x b _ ((behind_msg m _ h.2).2.2)).2)
  behind_prefix (n.check at m k) r h = behind_msg k _ ((behind_msg m _ h.2).2)
  behind_prefix (n.begin at m) r h = behind_msg m _ h.2
  behind_prefix (n.end at m) r h = behind_msg m _ h.2
  behind_prefix (n.end_many at m) r h = behind_msg m _ h.2
  behind_prefix (n.cast at m x b) r h = (behind_named x b _ ((behind_msg m _ h.2).2.2)).2
  behind_prefix (n.new at x b) r h = (behind_named x b _ h.2.2).2

  behind_line : (l : n.Line) (r : List Piece) → IsFine later (line_pieces l r) → IsFine later r
  behind_line (n.local s w f) r h = (behind_prefix f _ h.2.2).2
  behind_line (n.pass s from to c m x) r h = (behind_msg m _ h.2.2.2.2.2.2).2.2.2

  -- the parts of a message that is passed
  with_sent : (a : Place) (s : Span) (c : SWord) (m : t.Msg) (p : t.Proc) (r0 : List Piece) → nesting_of a ≤ 500 → IsKind (words_of later) (kinds.Word c.word) → IsMsg later false m → IsFine later (msg_pieces 1 m r0) → IsFineAt (below a) p → IsFineAt a (t.out_then s (name_spelled c) m p)
  with_sent a s c m p r0 u k i h g =
      ((refl, i, g.0), λ r e. (known_in_both word.Out refl refl later, shallow (nesting_of a) u, (k, refl, msg_then m r0 (a_mark mark.Semicolon (proc_pieces (below a) p (ends s r))) (λ z. tail_fine a s p r g e) h)))

  with_received : (a : Place) (s : Span) (c x : SWord) (p : t.Proc) → nesting_of a ≤ 500 → IsKind (words_of later) (kinds.Word c.word) → IsKind (words_of later) (kinds.Word x.word) → IsFineAt (below a) p → IsFineAt a (t.inp s (name_spelled c) x (t.un x.span) p)
  with_received a s c x p u k l g =
      ((refl, tt, g.0), λ r e. (known_in_both word.Inp refl refl later, shallow (nesting_of a) u, (k, refl, (tt, refl, (l, refl, (tt, refl, (known_in_both word.Un refl refl later, refl, (tt, refl, (tt, refl, g.1 (ends s r) e)))))))))

  -- a process that fits wherever so many levels are left
  abbrev pub FitsLevels : ℕ → t.Proc → Type 0
  FitsLevels k p = (b : Place) → nesting_of b + k ≤ 500 → IsFineAt b p

  fits_done : (b : Bool) (s : Span) (f : n.Prefix) (p : t.Proc) (k : ℕ) (r0 : List Piece) → IsPrefix later f → IsFine later (prefix_pieces f r0) → FitsLevels k p → FitsLevels (suc (suc k)) (woven_prefix b s f p)
  fits_done true s f p k r0 i h g a u = with_prefix a s f p r0 (omega (arith, u)) i h (g (below a) (omega (arith, u)))
  fits_done false s f p k r0 i h g a u = g a (omega (arith, u))

  fits_received : (b : Bool) (s : Span) (c x : SWord) (p : t.Proc) (k : ℕ) → IsKind (words_of later) (kinds.Word c.word) → IsKind (words_of later) (kinds.Word x.word) → FitsLevels k p → FitsLevels (suc k) (received b s c x p)
  fits_received true s c x p k i j g a u = with_received a s c x p (omega (arith, u)) i j (g (below a) (omega (arith, u)))
  fits_received false s c x p k i j g a u = g a (omega (arith, u))

  fits_sent : (b : Bool) (s : Span) (c : SWord) (m : t.Msg) (p : t.Proc) (k : ℕ) (r0 : List Piece) → IsKind (words_of later) (kinds.Word c.word) → IsMsg later false m → IsFine later (msg_pieces 1 m r0) → FitsLevels k p → FitsLevels (suc k) (sent b s c m p)
  fits_sent true s c m p k r0 i j h g a u = with_sent a s c m p r0 (omega (arith, u)) i j h (g (below a) (omega (arith, u)))
  fits_sent false s c m p k r0 i j h g a u = g a (omega (arith, u))

  fits_part : (w : SWord) (l : n.Line) (p : t.Proc) (k : ℕ) (r0 : List Piece) → IsLine later l → IsFine later (line_pieces l r0) → FitsLevels k p → FitsLevels (suc (suc k)) (role_part w l p)
  fits_part w (n.local s who f) p k r0 i h g = fits_done (is_word who w) s f p k _ i h.2.2 g
  fits_part w (n.pass s from to c m x) p k r0 i h g =
      let behind = behind_msg m _ h.2.2.2.2.2.2 in
      fits_sent (is_word from w) s c m (received (is_word to w) s c x p) (suc k) _ h.2.2.2.2.0 i h.2.2.2.2.2.2
      (fits_received (is_word to w) s c x p k h.2.2.2.2.0 behind.2.0 g)

  fits_role : (w : SWord) (ls : List n.Line) (r0 : List Piece) → AllByRecursion (IsLine later) ls → IsFine later (each_pieces line_pieces ls r0) → FitsLevels (2 * length ls) (role_process w ls)
  fits_role w [] r0 i h a u = (tt, λ r e. (known_in_both word.Stop refl refl later, shallow (nesting_of a) (omega (arith, u)), e))
  fits_role w (l ∷ ls) r0 i h a u =
      fits_part w l (role_process w ls) (2 * length ls) (each_pieces line_pieces ls r0) i.0 h
      (fits_role w ls r0 i.1 (behind_line l (each_pieces line_pieces ls r0) h)) a (omega (arith, u))

  -- roles beside one another
  module _ (ls : List n.Line) (r0 : List Piece) (are : AllByRecursion (IsLine later) ls) (fine : IsFine later (each_pieces line_pieces ls r0)) where
    beside_at : (w : SWord) (ws : List SWord) (i : ℕ) → i + (1 + length ws) + 2 * length ls ≤ 500 → IsFineAt (at_level i) (roles_beside ls w ws)
    beside_at w [] i u = fits_role w ls r0 are fine (at_level i) (omega (arith, u))
    beside_at w (q ∷ ws) i u =
        let one = fits_role w ls r0 are fine (in_seq (i + 1)) (omega (arith, u)) in
        let more = beside_at q ws (i + 1) (omega (arith, u)) in
        ((one.0, more.0), λ r e. one.1 _ (tt, refl, more.1 _ e))

    pub fits_together : (ws : List SWord) → FitsLevels (length ws + (2 + 2 * length ls)) (roles_together ls ws)
    fits_together [] a u = (tt, λ r e. (known_in_both word.Stop refl refl later, shallow (nesting_of a) (omega (arith, u)), e))
    fits_together (w ∷ []) a u = fits_role w ls r0 are fine a (omega (arith, u))
    fits_together (w ∷ q ∷ ws) a u =
        let one = fits_role w ls r0 are fine (below a) (omega (arith, u)) in
        let more = beside_at q ws (nesting_of a + 1) (omega (arith, u)) in
        ((one.0, more.0), λ r e. (tt, shallow (nesting_of a) (omega (arith, u)), one.1 _ (tt, refl, more.1 _ (tt, refl, e))))

  closed_fine : (a : Place) (s : Span) (p : t.Proc) (r : List Piece) → IsFineAt (below a) p → IsFine later r → IsFine later (a_mark mark.ParenClose (a_mark mark.Semicolon (proc_pieces (below a) p (ends s r))))
  closed_fine a s p r g e = (tt, refl, tail_fine a s p r g e)

  pub behind_shared : (x : Shared) (r : List Piece) → IsFine later (shared_pieces x r) → IsFine later r
  behind_shared x r h = (behind_named x.name x.ty _ h.2).2

  pub fits_sharing : (xs : List Shared) (p : t.Proc) (k : ℕ) (r0 : List Piece) → AllByRecursion (IsShared later) xs → IsFine later (each_pieces shared_pieces xs r0) → FitsLevels k p → FitsLevels (length xs + k) (sharing xs p)
  fits_sharing [] p k r0 i h g a u = g a (omega (arith, u))
  fits_sharing (x ∷ xs) p k r0 i h g a u =
      let more = fits_sharing xs p k r0 i.1 (behind_shared x _ h) g (below a) (omega (arith, u)) in
      ((i.0, more.0), λ r e. (known_in_both word.New refl refl later, shallow (nesting_of a) (omega (arith, u)), (tt, refl, named_then x.name x.ty (a_mark mark.Semicolon (ends x.span (each_pieces shared_pieces xs r0))) (a_mark mark.ParenClose (a_mark mark.Semicolon (proc_pieces (below a) (sharing xs p) (ends x.span r)))) (λ z. closed_fine a x.span (sharing xs p) r more e) h.2)))
