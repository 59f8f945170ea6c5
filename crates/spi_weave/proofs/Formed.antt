-- The woven file of a formed narration, whole.
use Rattle.std.proofs.Common.{◌≡◌, ℕ, ◌+◌, ◌*◌, ◌≤◌, ◌⊎◌, ◌==◌, Bool, true, false, List, [], ◌∷◌, length, drop, refl, sym, ap, ◌∙◌, subst, inl, inr, arith}
use Rattle.std.specs.Prelude.{codes}
use Rattle.std.specs.List.{AllByRecursion}
use Rattle.spi_lex.specs.declared.token.Kind.{Kind}
use Rattle.spi_lex.specs.declared.token.Kind.TheVariants as kinds
use Rattle.spi_lex.specs.declared.token.Mark.TheVariants as mark
use Rattle.spi_lex.specs.declared.token.Reserved.TheVariants as word
use Rattle.spi_lex.specs.Lexing.{is_version, is_version_2}
use Rattle.spi_lex.specs.Words.{words_of, version_1, version_2}
use Rattle.spi_lex.specs.Writing.{IsKind, AreKinds, first_version, later_version}
use Rattle.spi_tree.specs.declared.tree.SWord.{SWord}
use Rattle.spi_tree.specs.Trees as t
use Rattle.spi_tree.specs.Pieces.{Piece, opens, cell, closes, at_level, ends, a_mark, a_reserved, a_word, ty_pieces, named_pieces, decl_pieces, decls_pieces, words_pieces, version_pieces, opponent_pieces, proc_pieces, kinds_in, tokens_of}
use Rattle.spi_tree.specs.Formed.{IsWordFit, AreWordsFit, IsDeclared, AreDeclared}
use Rattle.spi_parse.specs.Exact.{IsWithin}
use Rattle.spi_parse.specs.Formed.{IsFile, whole_file}
use Rattle.spi_parse.proofs.Versions.{plain_decls}
use Rattle.spi_heading.specs.Headings.{Shared}
use Rattle.spi_heading.specs.Each.{each_pieces}
use Rattle.spi_heading.specs.Grammar.{shared_word, shared_pieces}
use Rattle.spi_narrate.specs.Narrations as n
use Rattle.spi_narrate.specs.Grammar.{line_pieces, roles_pieces, HasRole, whole_narration, IsNarration, is_later_narration}
use Rattle.spi_weave.specs.Woven.{roles_together, sharing, woven}
use Rattle.spi_weave.proofs.Forming.{IsFine, IsFineAt, known_in_both, fits_sharing, fits_together, behind_shared, behind_decl, decl_then}

-- ---- fine tokens, and what they are

module _ (later : Bool) where
  fine_of : (ps : List Piece) → AllByRecursion (IsKind (words_of later)) (kinds_in ps) → IsWithin ps → IsFine later ps
  fine_of [] h w = tt
  fine_of (opens from ∷ ps) h w = fine_of ps h w
  fine_of (cell k deep ∷ ps) h w = (h.0, w.0, fine_of ps h.1 w.1)
  fine_of (closes to ∷ ps) h w = fine_of ps h w

  kinds_of_fine : (ps : List Piece) → IsFine later ps → AllByRecursion (IsKind (words_of later)) (kinds_in ps)
  kinds_of_fine [] h = tt
  kinds_of_fine (opens from ∷ ps) h = kinds_of_fine ps h
  kinds_of_fine (cell k deep ∷ ps) h = (h.0, kinds_of_fine ps h.2)
  kinds_of_fine (closes to ∷ ps) h = kinds_of_fine ps h

  within_of_fine : (ps : List Piece) → IsFine later ps → IsWithin ps
  within_of_fine [] h = tt
  within_of_fine (opens from ∷ ps) h = within_of_fine ps h
  within_of_fine (cell k deep ∷ ps) h = (h.1, within_of_fine ps h.2)
  within_of_fine (closes to ∷ ps) h = within_of_fine ps h

  word_fits : (k : Kind) → IsKind (words_of later) k → IsWordFit later k
  word_fits (kinds.Word name) h = h
  word_fits (kinds.Reserved w) h = tt
  word_fits (kinds.Number value) h = tt
  word_fits (kinds.Mark m) h = tt

  words_fit : (ps : List Piece) → IsFine later ps → AreWordsFit later (kinds_in ps)
  words_fit [] h = tt
  words_fit (opens from ∷ ps) h = words_fit ps h
  words_fit (cell k deep ∷ ps) h = (word_fits k h.0, words_fit ps h.2)
  words_fit (closes to ∷ ps) h = words_fit ps h

  behind_decls : (ds : List t.Declared) (r : List Piece) → IsFine later (each_pieces decl_pieces ds r) → IsFine later r
  behind_decls [] r h = h
  behind_decls (d ∷ ds) r h = behind_decls ds r (behind_decl later d _ h)

  decls_then : (ds : List t.Declared) (r q : List Piece) → IsFine later q → IsFine later (each_pieces decl_pieces ds r) → IsFine later (decls_pieces ds q)
  decls_then [] r q f h = f
  decls_then (d ∷ ds) r q f h = decl_then later d (each_pieces decl_pieces ds r) (decls_pieces ds q) (decls_then ds r q f) h

  behind_all_shared : (xs : List Shared) (r : List Piece) → IsFine later (each_pieces shared_pieces xs r) → IsFine later r
  behind_all_shared [] r h = h
  behind_all_shared (x ∷ xs) r h = behind_all_shared xs r (behind_shared later x _ h)

  behind_words : (ws : List SWord) (r : List Piece) → IsFine later (words_pieces ws r) → IsFine later r
  behind_words [] r h = h
  behind_words (w ∷ ws) r h = behind_words ws r h.2.2

  behind_roles : (ws : List SWord) (r : List Piece) → IsFine later (roles_pieces ws r) → IsFine later r
  behind_roles [] r h = h
  behind_roles (w ∷ ws) r h = (behind_words ws _ h.2.2).2

  declared : (ds : List t.Declared) → AllByRecursion (IsDeclared later) ds → AreDeclared later ds
  declared [] h = tt
  declared (d ∷ ds) h = (h.0, declared ds h.1)

-- ---- the version in front

plain_first : (k : Kind) (ks : List Kind) → is_version k ≡ false → is_version_2 (k ∷ ks) ≡ false
plain_first k [] e = refl
plain_first k (a ∷ []) e = refl
plain_first k (a ∷ b ∷ ks) e = rw e refl

first_kinds : (ks : List Kind) → AreKinds ks → is_version_2 ks ≡ false → AllByRecursion (IsKind version_1) ks
first_kinds ks (first_version e h) p = h
first_kinds ks (later_version h) p = absurd cc

abbrev marked_kinds : List Kind → List Kind
marked_kinds ks = kinds.Word (codes "version") ∷ kinds.Number 2 ∷ kinds.Mark mark.Semicolon ∷ ks

later_kinds : (js ks : List Kind) → AreKinds js → js ≡ marked_kinds ks → AllByRecursion (IsKind version_2) ks
later_kinds js ks (first_version e h) p = absurd (let z : true ≡ false = sym (ap is_version_2 p) ∙ e in cc)
later_kinds js ks (later_version {tokens = ts} h) p = subst (AllByRecursion (IsKind version_2)) (ap (drop 3) p) h

behind_version : (v : ℕ) (ps : List Piece) → (v ≡ 1) ⊎ (v ≡ 2) → is_version_2 (kinds_in ps) ≡ false → AreKinds (kinds_in (version_pieces v ps)) → IsWithin (version_pieces v ps) → IsFine (v == 2) ps
behind_version v ps (inl one) plain ks within =
    subst (λ (i : ℕ). AreKinds (kinds_in (version_pieces i ps)) → IsWithin (version_pieces i ps) → IsFine (i == 2) ps) (sym one)
    (λ k w. fine_of false ps (first_kinds (kinds_in ps) k plain) w) ks within
behind_version v ps (inr two) plain ks within =
    subst (λ (i : ℕ). AreKinds (kinds_in (version_pieces i ps)) → IsWithin (version_pieces i ps) → IsFine (i == 2) ps) (sym two)
    (λ k w. fine_of true ps (later_kinds _ (kinds_in ps) k refl) w.1.1.1) ks within

-- tokens that are fine, behind the version of theirs
abbrev AreOfVersion : ℕ → List Piece → Type 0
AreOfVersion v ps = AreKinds (kinds_in (version_pieces v ps)) × IsWithin (version_pieces v ps) × AreWordsFit (v == 2) (kinds_in (version_pieces v ps))

with_version : (v : ℕ) (ps : List Piece) → (v ≡ 1) ⊎ (v ≡ 2) → is_version_2 (kinds_in ps) ≡ false → AreWordsFit (v == 2) (kinds_in (version_pieces v [])) → IsFine (v == 2) ps → AreOfVersion v ps
with_version v ps (inl one) plain front fine =
    subst (λ (i : ℕ). IsFine (i == 2) ps → AreOfVersion i ps) (sym one)
    (λ h. (first_version plain (kinds_of_fine false ps h), within_of_fine false ps h, words_fit false ps h)) fine
with_version v ps (inr two) plain front fine =
    subst (λ (i : ℕ). AreWordsFit (i == 2) (kinds_in (version_pieces i [])) → IsFine (i == 2) ps → AreOfVersion i ps) (sym two)
    (λ f h. (later_version (kinds_of_fine true ps h), (refl, (refl, (refl, within_of_fine true ps h))), (f.0, (tt, (tt, words_fit true ps h))))) front fine

-- ---- the whole

abbrev narrated_body : n.Narration → List Piece
narrated_body x = each_pieces decl_pieces x.decls (each_pieces shared_pieces x.shared (roles_pieces x.roles (each_pieces line_pieces x.lines (ends x.span []))))

plain_roles : (ws : List SWord) (r : List Piece) → HasRole ws → is_version_2 (kinds_in (roles_pieces ws r)) ≡ false
plain_roles [] r h = absurd (let z = h.2 in cc)
plain_roles (w ∷ ws) r h = plain_first (kinds.Word (codes "roles")) (kinds_in (a_word false w (words_pieces ws (a_mark mark.Semicolon r)))) refl

plain_shared : (ss : List Shared) (ws : List SWord) (r : List Piece) → HasRole ws → is_version_2 (kinds_in (each_pieces shared_pieces ss (roles_pieces ws r))) ≡ false
plain_shared [] ws r h = plain_roles ws r h
plain_shared (s ∷ ss) ws r h =
    plain_first shared_word (kinds_in (named_pieces s.name s.ty (a_mark mark.Semicolon (ends s.span (each_pieces shared_pieces ss (roles_pieces ws r)))))) refl

plain_each : (ds : List t.Declared) (r : List Piece) → is_version_2 (kinds_in r) ≡ false → is_version_2 (kinds_in (each_pieces decl_pieces ds r)) ≡ false
plain_each [] r h = h
plain_each (t.free s w more ∷ ds) r h =
    plain_first (kinds.Reserved word.Free) (kinds_in (a_word false w (words_pieces more (a_mark mark.Semicolon (ends s (each_pieces decl_pieces ds r)))))) refl
plain_each (t.abbreviated s w a ∷ ds) r h =
    plain_first (kinds.Reserved word.TypeWord) (kinds_in (a_word false w (a_mark mark.Equals (ty_pieces 1 a (a_mark mark.Semicolon (ends s (each_pieces decl_pieces ds r))))))) refl

plain_body : (x : n.Narration) → IsNarration x → is_version_2 (kinds_in (narrated_body x)) ≡ false
plain_body x i = plain_each x.decls _ (plain_shared x.shared x.roles _ i.roles)

-- the fine parts of a formed narration within the limits
fine_body : (x : n.Narration) → IsNarration x → IsWithin (whole_narration x) → AreKinds (kinds_in (whole_narration x)) → IsFine (is_later_narration x) (narrated_body x)
fine_body x i w k = behind_version x.version (narrated_body x) i.version (plain_body x i) k w

abbrev tail : n.Narration → List Piece
tail x = opponent_pieces (woven x).opponent (ends x.span [])

fine_process : (x : n.Narration) → IsNarration x → IsFine (is_later_narration x) (narrated_body x) → length x.shared ≤ 16 → length x.roles ≤ 8 → length x.lines ≤ 200
    → IsFineAt (is_later_narration x) (at_level 0) (sharing x.shared (roles_together x.lines x.roles))
fine_process x i fine shared roles lines =
    let behind = behind_decls (is_later_narration x) x.decls _ fine in
    let named = behind_all_shared (is_later_narration x) x.shared _ behind in
    fits_sharing (is_later_narration x) x.shared (roles_together x.lines x.roles) (length x.roles + (2 + 2 * length x.lines)) _ i.shared behind
    (fits_together (is_later_narration x) x.lines (ends x.span []) i.lines (behind_roles (is_later_narration x) x.roles _ named) x.roles) (at_level 0) (omega (arith, shared, roles, lines))

fine_file : (x : n.Narration) → IsFine (is_later_narration x) (narrated_body x) → IsFineAt (is_later_narration x) (at_level 0) (sharing x.shared (roles_together x.lines x.roles))
    → IsFine (is_later_narration x) (decls_pieces x.decls (a_reserved word.Process (proc_pieces (at_level 0) (woven x).process (tail x))))
fine_file x fine process =
    decls_then (is_later_narration x) x.decls _ _
    (known_in_both word.Process refl refl (is_later_narration x), refl, process.1 (tail x) (known_in_both word.Opponent refl refl (is_later_narration x), refl, (known_in_both word.Stop refl refl (is_later_narration x), refl, tt))) fine

pub woven_formed : (x : n.Narration) → IsNarration x → IsWithin (whole_narration x) → AreKinds (kinds_in (whole_narration x)) → length x.shared ≤ 16 → length x.roles ≤ 8 → length x.lines ≤ 200
    → IsFile (woven x) × IsWithin (whole_file (woven x)) × AreKinds (tokens_of (woven x))
woven_formed x i w k shared roles lines =
    let fine = fine_body x i w k in
    let process = fine_process x i fine shared roles lines in
    let is = with_version x.version _ i.version (plain_decls x.decls _) (front x.version (narrated_body x) i.version i.words) (fine_file x fine process) in (
      record {
        formed = record {
          version = i.version;
          decls = declared (is_later_narration x) x.decls i.decls;
          process = process.0;
          opponent = tt;
          derivation = tt;
          words = is.2;
        };
        rules = tt;
      },
      is.1,
      is.0,
    )
  where
    front : (v : ℕ) (ps : List Piece) → (v ≡ 1) ⊎ (v ≡ 2) → AreWordsFit (v == 2) (kinds_in (version_pieces v ps)) → AreWordsFit (v == 2) (kinds_in (version_pieces v []))
    front v ps (inl one) = subst (λ (i : ℕ). AreWordsFit (i == 2) (kinds_in (version_pieces i ps)) → AreWordsFit (i == 2) (kinds_in (version_pieces i []))) (sym one) (λ h. tt)
    front v ps (inr two) = subst (λ (i : ℕ). AreWordsFit (i == 2) (kinds_in (version_pieces i ps)) → AreWordsFit (i == 2) (kinds_in (version_pieces i []))) (sym two) (λ h. (h.0, (tt, (tt, tt))))
